use Rattle.blob.proofs.Lexed.{tokens-follow, tokens-only, tokens_rise}
use Rattle.blob.proofs.grammar.lexing_stands.Goals as goal

pub returns : goal.returns
returns c = record { follow = tokens-follow; only = tokens-only; rise = tokens_rise }
