use Rattle.writer.proofs.Images.{images}
use Rattle.writer.proofs.Strings.{strings_laws}
use Rattle.writer.proofs.writer.writing_stands.Goals as goal

pub returns : goal.returns
returns c = record { strings = strings_laws; images = images }
