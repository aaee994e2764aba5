-- How the bytes of a value are shown. Assumes nothing.
use Rattle.std.specs.Prelude.{◌≡◌, ℕ, ◌+◌, ◌-◌, ◌/◌, ◌%◌, Bool, true, false, cond, not, ◌&&◌, ◌||◌, List, [], ◌∷◌, ◌++◌, length, take, Result, OnOk, ◌==◌, nat_le, nat_lt}

-- 0 to 9, then a to f
abbrev pub hex_digit : ℕ → ℕ
hex_digit n = cond (nat_lt n 10) (48 + n) (87 + n)

-- two digits for each byte
abbrev pub hex : List ℕ → List ℕ
hex [] = []
hex (b ∷ bs) = hex_digit (b / 16) ∷ hex_digit (b % 16) ∷ hex bs

-- from the space to ~
abbrev pub printable : ℕ → Bool
printable b = nat_le 32 b && nat_le b 126

-- a zero byte comes last
abbrev pub zero_last : List ℕ → Bool
zero_last [] = false
zero_last (b ∷ []) = b == 0
zero_last (b ∷ c ∷ bs) = zero_last (c ∷ bs)

-- a zero byte comes last, and something before it
abbrev pub ended : List ℕ → Bool
ended part = nat_lt 1 (length part) && zero_last part

-- printable bytes with a zero byte behind each run of them; `began` where a run has begun
abbrev pub runs : Bool → List ℕ → Bool
runs began [] = not began
runs began (b ∷ bs) = cond (b == 0) (began && runs false bs) (printable b && runs true bs)

-- one or more texts of printable bytes, none of them empty, each with a zero byte behind it
abbrev pub is_text : List ℕ → Bool
is_text v = not (length v == 0) && runs false v

-- a byte between quotes: `\0` for a zero byte, a backslash before a quote and before a backslash
abbrev pub shown_byte : ℕ → List ℕ
shown_byte b = cond (b == 0) (92 ∷ 48 ∷ []) (cond (b == 34 || b == 92) (92 ∷ b ∷ []) (b ∷ []))

abbrev pub shown_bytes : List ℕ → List ℕ
shown_bytes [] = []
shown_bytes (b ∷ bs) = shown_byte b ++ shown_bytes bs

-- a text between quotes, without the zero byte at its end
abbrev pub quoted : List ℕ → List ℕ
quoted v = 34 ∷ shown_bytes (take (length v - 1) v) ++ (34 ∷ [])

-- where there was memory for it, `more` stands behind what was there
abbrev pub Appended : {X E : Type 0} → Result X E → List ℕ → List ℕ → List ℕ → Type 0
Appended r was is more = OnOk r (is ≡ was ++ more)
