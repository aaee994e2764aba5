-- The tokens of the structure block. Assumes nothing.
use Rattle.std.specs.Prelude.{ℕ, ◌+◌, cond, List, length, take, Some, None, Option, ◌==◌, nat_le, nat_lt}
use Rattle.std.specs.List.{between}
use Rattle.names.specs.Names.{before}
use Rattle.tree.specs.Numbers.{be32, pad4}
use Rattle.blob.specs.declared.types.Layout.{Layout}
use Rattle.blob.specs.declared.types.Token.{Token}
use Rattle.blob.specs.declared.types.Token.TheVariants.{Begin, Property, End, Nop, Finish}
use Rattle.blob.specs.declared.types.Step.{Step}

-- a token by what its parts hold
pub data Tok : Type 0 where
  begin : List ℕ → Tok
  property : List ℕ → List ℕ → Tok
  end nop finish : Tok

abbrev pub tok_of : Token → Tok
tok_of (Begin name) = begin name.now
tok_of (Property name value) = property name.now value.now
tok_of End = end
tok_of Nop = nop
tok_of Finish = finish

abbrev pub step_of : Option Step → Option (Tok × ℕ)
step_of None = None
step_of (Some s) = Some (tok_of s.token, s.next)

abbrev pub bytes_of : Option (denote.Ref.Bor (List ℕ)) → Option (List ℕ)
bytes_of None = None
bytes_of (Some s) = Some s.now

-- the bytes from `from` up to the first zero byte, which stands before `to`
unfoldable pub text_at : List ℕ → ℕ → ℕ → Option (List ℕ)
text_at bs from to =
    let part = between from to bs in
    let n = before 0 part in
    cond (nat_lt n (length part)) (Some (take n part)) None

abbrev pub on_text : Option (List ℕ) → (List ℕ → Option (Tok × ℕ)) → Option (Tok × ℕ)
on_text None f = None
on_text (Some name) f = f name

-- a token that ends before the block does
abbrev pub within : ℕ → ℕ → Tok → Option (Tok × ℕ)
within next stop t = cond (nat_le next stop) (Some (t, next)) None

-- 1, a name, a zero byte, padding
unfoldable pub begin_at : List ℕ → Layout → ℕ → Option (Tok × ℕ)
begin_at bs l p = on_text (text_at bs (p + 4) l.end) (λ name. within (p + 4 + pad4 (length name + 1)) l.end (begin name))

-- 3, the value's length, the name's place in the strings, the value, padding
unfoldable pub property_at : List ℕ → Layout → ℕ → Option (Tok × ℕ)
property_at bs l p =
    cond (nat_le (p + 12) l.end)
    (let n = be32 bs (p + 4) in
    let next = p + 12 + pad4 n in
    cond (nat_le next l.end) (on_text (text_at bs (l.strings + be32 bs (p + 8)) l.strings_end) (λ name. Some (property name (between (p + 12) (p + 12 + n) bs), next))) None)
    None

unfoldable pub token_at : List ℕ → Layout → ℕ → Option (Tok × ℕ)
token_at bs l p =
    cond (nat_le (p + 4) l.end)
    (let k = be32 bs p in
    cond (k == 1) (begin_at bs l p) (cond (k == 2) (Some (end, p + 4)) (cond (k == 3) (property_at bs l p) (cond (k == 4) (Some (nop, p + 4))
    (cond (k == 9) (cond (p + 4 == l.end) (Some (finish, p + 4)) None) None)))))
    None
