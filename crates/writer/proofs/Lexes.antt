-- The tokens stand in the bytes that are written. Assumes nothing.
use Rattle.std.proofs.Common.{◌≡◌, ℕ, ◌+◌, ◌-◌, ◌^◌, ◌<◌, ◌≤◌, List, [], ◌∷◌, ◌++◌, length, take, drop, replicate, sym, refl, ap, ◌∙◌, subst, append_assoc, add_assoc, arith, length-append}
use Rattle.std.proofs.lemmas.List.{drop_at, take_at, take_all, length-drop}
use Rattle.std.specs.List.{between}
use Rattle.tree.specs.Numbers.{be32, bytes32, pad4}
use Rattle.tree.specs.Places.{Bytes}
use Rattle.blob.specs.Grammar.{Text, IsToken}
use Rattle.blob.specs.Tokens.{Tok, begin, property, end, nop, finish}
use Rattle.blob.specs.declared.types.Layout.{Layout}
use Rattle.reader.specs.Format.{Spelt}
use Rattle.reader.proofs.Accepted.{Lexed}
use Rattle.reader.proofs.Complete.{somes}
use Rattle.writer.specs.Written.{Piece, padded, token_bytes, spelt}
use Rattle.writer.proofs.Bytes.{be32-behind, be32-bytes, be32-here, take_through, between-behind}
use Rattle.walk.proofs.Full.{Full}
use Rattle.writer.proofs.Sizes.{length-begin, length-property}

-- the tokens with their offsets, from p on
unfoldable pub spell : ℕ → List Piece → Spelt
spell p [] = []
spell p (x ∷ xs) = (p, x.0) ∷ spell (p + length (token_bytes x.0 x.1)) xs

-- what the tokens ask of the strings block
abbrev pub Apt : Bytes → Tok → ℕ → List Piece → Type 0
Apt block (begin name) o xs = Full name
Apt block (property name value) o xs = Full name × (length value < 2 ^ 32) × (o < 2 ^ 32) × ((rest : Bytes) × (drop o block ≡ name ++ (0 ∷ rest)))
Apt block end o xs = Unit {0}
Apt block nop o xs = Unit {0}
Apt block finish o xs = xs ≡ []

abbrev pub Apts : Bytes → List Piece → Type 0
Apts block [] = Unit {0}
Apts block (x ∷ xs) = Apt block x.0 x.1 xs × Apts block xs

-- a text that stands somewhere in bytes, up to some end
text-here : (xs name ys : Bytes) (to : ℕ) → Full name → length xs + length name < to → Text (xs ++ (name ++ (0 ∷ ys))) (length xs) to name
text-here xs name ys to f h =
    let d : drop (length xs) (xs ++ (name ++ (0 ∷ ys))) ≡ name ++ (0 ∷ ys) = drop_at xs (name ++ (0 ∷ ys)) (length xs) refl in
    let n : ℕ = to - length xs in
    let t = take_through n name (0 ∷ ys) (omega arith) in
    let m : n - length name ≡ 1 + (n - length name - 1) = omega arith in
    let one = take_through (1 + (n - length name - 1)) (0 ∷ []) ys (omega arith) in
    record {
      rest = take (1 + (n - length name - 1) - 1) ys;
      split = ap (take n) d ∙ t ∙ ap (λ k. name ++ take k (0 ∷ ys)) m ∙ ap (λ z. name ++ z) one;
      full = f;
    }

module _ (bs block : Bytes) (l : Layout) (front : Bytes)
    (whole : bs ≡ front ++ block) (at : l.strings ≡ length front) (stop : l.strings_end ≡ length bs) where
  -- a name that stands in the strings block
  named : (o : ℕ) (name rest : Bytes) → Full name → drop o block ≡ name ++ (0 ∷ rest) → Text bs (l.strings + o) l.strings_end name
  named o name rest f d =
      let len : length bs ≡ length front + length block = ap length whole ∙ length-append front block in
      let e : between (l.strings + o) l.strings_end bs ≡ drop o block =
      (λ i. between (at i + o) ((stop ∙ len) i) (whole i))
      ∙ between-behind front block o (length block)
      ∙ take_all (length block - o) (drop o block) (let z = length-drop o block in omega arith) in
      record { rest = rest; split = e ∙ d; full = f }

  -- one token
  token : (pre post : Bytes) (t : Tok) (o : ℕ) (xs : List Piece) → Apt block t o xs → bs ≡ pre ++ (token_bytes t o ++ post)
      → length pre + length (token_bytes t o) ≤ l.end → (xs ≡ [] → length pre + length (token_bytes t o) ≡ l.end)
      → IsToken bs l (length pre) t (length pre + length (token_bytes t o))
  unfolding be32
  token pre post (begin name) o xs a e h z =
      let n = length-begin name o in
      let b : bs ≡ pre ++ (bytes32 1 ++ (padded (name ++ (0 ∷ [])) ++ post)) = e in
      let ys : Bytes = replicate (pad4 (length (name ++ (0 ∷ []))) - length (name ++ (0 ∷ []))) 0 ++ post in
      let c : bs ≡ (pre ++ bytes32 1) ++ (name ++ (0 ∷ ys)) =
      b ∙ sym (append_assoc pre (bytes32 1) (padded (name ++ (0 ∷ [])) ++ post))
      ∙ ap (λ x. (pre ++ bytes32 1) ++ x) (append_assoc (name ++ (0 ∷ [])) _ post ∙ append_assoc name (0 ∷ []) ys) in
      let k : length (pre ++ bytes32 1) ≡ length pre + 4 = length-append pre (bytes32 1) in
      let q : length name + 1 ≤ pad4 (length name + 1) = omega arith in
      record {
        kind = ap (λ x. be32 x (length pre)) b ∙ be32-here pre _ 1 (omega arith);
        text = subst (λ x. Text x (length pre + 4) l.end name) (sym c) (subst (λ x. Text ((pre ++ bytes32 1) ++ (name ++ (0 ∷ ys))) x l.end name) k (text-here (pre ++ bytes32 1) name ys l.end a (omega arith)));
        next = omega arith;
        held = h;
      }
  token pre post (property name value) o xs a e h z =
      let n = length-property name value o in
      let ys : Bytes = replicate (pad4 (length value) - length value) 0 ++ post in
      let v : (bytes32 (length value) ++ (bytes32 o ++ padded value)) ++ post ≡ bytes32 (length value) ++ (bytes32 o ++ (value ++ ys)) =
      ap (λ x. bytes32 (length value) ++ (bytes32 o ++ x)) (append_assoc value _ post) in
      let b : bs ≡ pre ++ (bytes32 3 ++ (bytes32 (length value) ++ (bytes32 o ++ (value ++ ys)))) = e ∙ ap (λ x. pre ++ (bytes32 3 ++ x)) v in
      let size : be32 bs (length pre + 4) ≡ length value =
      ap (λ x. be32 x (length pre + 4)) b ∙ be32-behind pre _ 4 ∙ be32-bytes (length value) (bytes32 o ++ (value ++ ys)) a.1 in
      let off : be32 bs (length pre + 8) ≡ o =
      ap (λ x. be32 x (length pre + 8)) b ∙ be32-behind pre _ 8 ∙ be32-bytes o (value ++ ys) a.2 in
      let held : between (length pre + 12) (length pre + 12 + length value) bs ≡ value =
      (λ i. between (length pre + 12) (add_assoc (length pre) 12 (length value) i) (b i))
      ∙ between-behind pre (bytes32 3 ++ (bytes32 (length value) ++ (bytes32 o ++ (value ++ ys)))) 12 (12 + length value)
      ∙ between-behind (bytes32 3 ++ (bytes32 (length value) ++ bytes32 o)) (value ++ ys) 0 (length value)
      ∙ take_at value ys (length value - 0) (omega arith) in
      record {
        kind = ap (λ x. be32 x (length pre)) b ∙ be32-here pre _ 3 (omega arith);
        text = subst (λ x. Text bs (l.strings + x) l.strings_end name) (sym off) (named o name a.3.0 a.0 a.3.1);
        bytes = sym (ap (λ x. between (length pre + 12) (length pre + 12 + x) bs) size ∙ held);
        next = let p = ap pad4 size in omega arith;
        held = h;
      }
  token pre post end o xs a e h z = record { kind = ap (λ x. be32 x (length pre)) e ∙ be32-here pre post 2 (omega arith); next = refl; held = h }
  token pre post nop o xs a e h z = record { kind = ap (λ x. be32 x (length pre)) e ∙ be32-here pre post 4 (omega arith); next = refl; held = h }
  token pre post finish o xs a e h z =
      (record { kind = ap (λ x. be32 x (length pre)) e ∙ be32-here pre post 9 (omega arith); next = refl; held = h }, z a)

  -- all of them
  pub lexes : (xs : List Piece) (pre post : Bytes) → Apts block xs → bs ≡ pre ++ (spelt xs ++ post) → length pre + length (spelt xs) ≡ l.end → Lexed bs l (length pre) (somes (spell (length pre) xs))
  unfolding spell somes spelt
  lexes [] pre post a e h = tt
  lexes ((t, o) ∷ xs) pre post a e h =
      let n = length-append (token_bytes t o) (spelt xs) in
      let one : bs ≡ pre ++ (token_bytes t o ++ (spelt xs ++ post)) = e ∙ ap (λ x. pre ++ x) (append_assoc (token_bytes t o) (spelt xs) post) in
      let two : bs ≡ (pre ++ token_bytes t o) ++ (spelt xs ++ post) = one ∙ sym (append_assoc pre (token_bytes t o) (spelt xs ++ post)) in
      let k = length-append pre (token_bytes t o) in
      let i = token pre (spelt xs ++ post) t o xs a.0 one (omega arith) (λ z. let y : length (spelt xs) ≡ 0 = ap (λ x. length (spelt x)) z in omega arith) in
      let rest = lexes xs (pre ++ token_bytes t o) post a.1 two (omega arith) in
      (refl, (length pre + length (token_bytes t o), i, subst (λ p. Lexed bs l p (somes (spell p xs))) k rest))
