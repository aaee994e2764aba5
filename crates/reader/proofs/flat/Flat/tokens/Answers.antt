use Rattle.reader.proofs.Handing.{starts}
use Rattle.reader.proofs.flat.Flat.tokens.Goals as goal

pub returns : goal.returns
returns c = starts c.args.self.now.blob.bytes.now c.args.self.now.blob.layout
