use Rattle.blob.proofs.Shapes.{token-sound, token-complete, token-unique, token-ahead}
use Rattle.blob.proofs.grammar.tokens_stand.Goals as goal

pub returns : goal.returns
returns c = record { sound = token-sound; complete = token-complete; unique = token-unique; ahead = token-ahead }
