-- What a refusal says: its number, and its place in the blob. Assumes nothing.
use Rattle.std.specs.Prelude.{ℕ, List, codes}
use Rattle.blob.specs.declared.types.Refusal.{Refusal}
use Rattle.blob.specs.declared.types.Refusal.TheVariants.{NotABlob, Version, Blocks, TooLarge, Token, Name, Limit}

abbrev pub number_of : Refusal → ℕ
number_of NotABlob = 10
number_of Version = 11
number_of Blocks = 12
number_of TooLarge = 15
number_of (Token at) = 13
number_of (Name at) = 14
number_of (Limit at) = 15

-- the faulty token's byte offset; 0 where the whole blob is at fault
abbrev pub place_of : Refusal → ℕ
place_of NotABlob = 0
place_of Version = 0
place_of Blocks = 0
place_of TooLarge = 0
place_of (Token at) = at
place_of (Name at) = at
place_of (Limit at) = at

-- the words for it, without its number and place
abbrev pub words_of : Refusal → List ℕ
words_of NotABlob = codes "not a blob"
words_of Version = codes "not version 17 that is compatible with 16"
words_of Blocks = codes "a block is misplaced, or memory is reserved"
words_of TooLarge = codes "the blob is too large"
words_of (Token at) = codes "a token is unknown, cut or out of place"
words_of (Name at) = codes "a name is against the rules or used twice"
words_of (Limit at) = codes "a limit is passed"
