-- Texts in the values of an overlay: strings that end with a zero byte, decimal numbers. Assumes nothing.
use Rattle.std.specs.Prelude.{ℕ, ◌+◌, ◌-◌, ◌*◌, Bool, true, cond, not, ◌&&◌, ◌||◌, List, [], ◌∷◌, ◌++◌, length, take, drop, Some, None, Option, ◌==◌, nat_le, slice_index, slice_index_or}
use Rattle.std.specs.Str.{bytes_eq}
use Rattle.names.specs.Names.{each, in_range}
use Rattle.tree.specs.Places.{Bytes}

-- what the elements give that give something
abbrev pub given : {A : Type 0} → Option A → List A → List A
given None xs = xs
given (Some x) xs = x ∷ xs

abbrev pub pick : {A B : Type 0} → (A → Option B) → List A → List B
pick f [] = []
pick f (x ∷ xs) = given (f x) (pick f xs)

-- all lists, joined
abbrev pub joined : {A : Type 0} → List (List A) → List A
joined [] = []
joined (x ∷ xs) = x ++ joined xs

-- what stands before a value's last byte, if that is zero
unfoldable pub zero_ended : Bytes → Option Bytes
zero_ended v = cond (slice_index_or v (length v - 1) 1 == 0) (Some (take (length v - 1) v)) None

-- the pieces that a separator parts; `cur` is the start of the first
unfoldable pub split : ℕ → Bytes → Bytes → List Bytes
split sep cur [] = cur ∷ []
split sep cur (b ∷ bs) = cond (b == sep) (cur ∷ split sep [] bs) (split sep (cur ++ b ∷ []) bs)

unfoldable pub digits : ℕ → Bytes → ℕ
digits n [] = n
digits n (b ∷ bs) = digits (n * 10 + (b - 48)) bs

-- a decimal number without needless zeros, of any size
unfoldable pub decimal : Bytes → Option ℕ
decimal s =
    cond (each (in_range 48 57) s && (length s == 1 || (nat_le 1 (length s) && not (slice_index s 0 == 48))))
    (Some (digits 0 s))
    None

-- what stands in q behind the path p: nothing, or a `/` and more; none where q is neither p nor below it
abbrev pub slashed : Bytes → Bool
slashed [] = true
slashed (b ∷ bs) = b == 47

unfoldable pub behind : Bytes → Bytes → Option Bytes
behind p q =
    let r = drop (length p) q in
    cond (bytes_eq (take (length p) q) p && slashed r) (Some r) None
