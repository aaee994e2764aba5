-- The names of nodes and properties. Assumes nothing.
use Rattle.std.specs.Prelude.{ℕ, suc, Bool, true, false, cond, ◌&&◌, ◌||◌, List, [], ◌∷◌, length, take, drop, codes, ◌==◌, nat_le}

abbrev pub one_of : ℕ → List ℕ → Bool
one_of b [] = false
one_of b (x ∷ xs) = b == x || one_of b xs

abbrev pub in_range : ℕ → ℕ → ℕ → Bool
in_range lo hi b = nat_le lo b && nat_le b hi

-- the alphabet of node names: 0-9 a-z A-Z , . _ + -
unfoldable pub node_byte : ℕ → Bool
node_byte b = in_range 48 57 b || (in_range 97 122 b || (in_range 65 90 b || one_of b (codes ",._+-")))

-- the alphabet of property names: these, ? and #
unfoldable pub property_byte : ℕ → Bool
property_byte b = node_byte b || one_of b (codes "?#")

-- how many bytes come before the first b; all of them where there is none
abbrev pub before : ℕ → List ℕ → ℕ
before b [] = 0
before b (x ∷ xs) = cond (x == b) 0 (suc (before b xs))

-- every element passes
abbrev pub each : {A : Type 0} → (A → Bool) → List A → Bool
each p [] = true
each p (x ∷ xs) = p x && each p xs

-- 1 to 31 bytes of an alphabet
abbrev pub word : (ℕ → Bool) → List ℕ → Bool
word p xs = (nat_le 1 (length xs) && nat_le (length xs) 31) && each p xs

unfoldable pub property_name : List ℕ → Bool
property_name xs = word property_byte xs

-- one word, or two with @ (64) between them
unfoldable pub node_name : List ℕ → Bool
node_name xs =
    let n = before 64 xs in
    cond (n == length xs) (word node_byte xs) (word node_byte (take n xs) && word node_byte (drop (suc n) xs))
