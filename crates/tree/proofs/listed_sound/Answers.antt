use Rattle.tree.proofs.Listed.{listed-sound}
use Rattle.tree.proofs.listed_sound.Goals as goal

pub returns : goal.returns
returns c = listed-sound
