-- Cells of a value that are filled: each holds its number, and other bytes stay. Assumes nothing.
use Rattle.std.proofs.Common.{◌≡◌, ℕ, ◌+◌, ◌-◌, ◌*◌, ◌/◌, ◌%◌, ◌<◌, ◌≤◌, ◌⊎◌, List, [], ◌∷◌, ◌++◌, length, get_or, take, drop, sym, refl, ap, ◌∙◌, subst, inl, inr, ⊎_elim, arith}
use Rattle.std.specs.List.{AllByRecursion}
use Rattle.std.proofs.lemmas.List.{length-append, length-take-le, length-drop, get_or_append_left, get_or-append_right, get_or-take, get_or-drop, get_or-append-add}
use Rattle.tree.specs.Numbers.{be32, bytes32}
use Rattle.tree.specs.Places.{Bytes}
use Rattle.overlay_rules.specs.Overlays.{Cell}
use Rattle.overlay_rules.specs.Plans.{Known, with_cell, cell_number, filled}
use Rattle.overlay_rules.specs.Laws.{In}
use Rattle.overlay_rules.proofs.Lists.{all-at, all_from}

module _ (w : Bytes) (o n : ℕ) (fit : o + 4 ≤ length w) where
  front : length (take o w) ≡ o
  front = length-take-le o w (omega arith)

  pub length_cell : length (with_cell w o n) ≡ length w
  unfolding front
  length_cell = length-append (take o w) (bytes32 n ++ drop (o + 4) w) ∙ omega (arith, front, length-drop (o + 4) w)

  cell_before : (i : ℕ) → i < o → get_or (with_cell w o n) i 0 ≡ get_or w i 0
  cell_before i h = get_or_append_left (take o w) _ 0 i (omega (arith, front)) ∙ get_or-take o w i 0 h

  cell_in : (i : ℕ) → get_or (with_cell w o n) (o + i) 0 ≡ get_or (bytes32 n ++ drop (o + 4) w) i 0
  cell_in i = ap (λ z. get_or (with_cell w o n) (z + i) 0) (sym front) ∙ get_or-append-add (take o w) (bytes32 n ++ drop (o + 4) w) i 0

  cell_after : (i : ℕ) → o + 4 ≤ i → get_or (with_cell w o n) i 0 ≡ get_or w i 0
  cell_after i h =
      get_or-append_right (take o w) (bytes32 n ++ drop (o + 4) w) o i 0 front (omega arith)
      ∙ get_or-append_right (bytes32 n) (drop (o + 4) w) 4 (i - o) 0 refl (omega arith)
      ∙ get_or-drop (o + 4) w (i - o - 4) 0
      ∙ ap (λ z. get_or w z 0) (omega arith)

  -- the cell holds the number
  pub cell_number_lem : n < 4294967296 → be32 (with_cell w o n) o ≡ n
  unfolding be32
  cell_number_lem h =
      let a : get_or (with_cell w o n) o 0 ≡ n / 256 / 256 / 256 % 256 = ap (λ z. get_or (with_cell w o n) z 0) (let e : o ≡ o + 0 = omega arith in e) ∙ cell_in 0 in
      let b = cell_in 1 in
      let c = cell_in 2 in
      let d = cell_in 3 in
      omega (arith, a, b, c, d)

  -- four bytes elsewhere stay
  pub cell_other : (i : ℕ) → (i + 4 ≤ o) ⊎ (o + 4 ≤ i) → be32 (with_cell w o n) i ≡ be32 w i
  unfolding be32
  cell_other i (inl h) = λ j. cell_before i (omega arith) j * 16777216 + cell_before (i + 1) (omega arith) j * 65536 + cell_before (i + 2) (omega arith) j * 256 + cell_before (i + 3) (omega arith) j
  cell_other i (inr h) = λ j. cell_after i (omega arith) j * 16777216 + cell_after (i + 1) (omega arith) j * 65536 + cell_after (i + 2) (omega arith) j * 256 + cell_after (i + 3) (omega arith) j

-- two cells are one, or share no byte
abbrev pub Apart : Cell → Cell → Type 0
Apart a b = (a ≡ b) ⊎ ((a.offset + 4 ≤ b.offset) ⊎ (b.offset + 4 ≤ a.offset))

module _ (env : List Known) (d : ℕ) (v : Bytes) where
  abbrev number_of : Cell → ℕ
  number_of c = cell_number env d v c c.label

  pub length-filled : (cs : List Cell) (w : Bytes) → AllByRecursion (λ c. c.offset + 4 ≤ length w) cs → length (filled env d v w cs) ≡ length w
  unfolding filled
  length-filled [] w h = refl
  length-filled (c ∷ cs) w h =
      let e = length_cell w c.offset (number_of c) h.0 in
      length-filled cs (with_cell w c.offset (number_of c)) (all_from _ cs (λ x i. let y = all-at _ x cs h.1 i in omega (arith, e, y))) ∙ e

  -- what cells apart from one leave in it
  stays : (c : Cell) (cs : List Cell) (w : Bytes) → number_of c < 4294967296 → c.offset + 4 ≤ length w → AllByRecursion (λ x. x.offset + 4 ≤ length w) cs → AllByRecursion (Apart c) cs → be32 w c.offset ≡ number_of c → be32 (filled env d v w cs) c.offset ≡ number_of c
  unfolding filled
  stays c [] w m f h a e = e
  stays c (x ∷ cs) w m f h a e =
      let l = length_cell w x.offset (number_of x) h.0 in
      let u = with_cell w x.offset (number_of x) in
      stays c cs (with_cell w x.offset (number_of x)) m (omega (arith, l)) (all_from _ cs (λ y i. let z = all-at _ y cs h.1 i in omega (arith, l, z))) a.1 (⊎_elim
      (λ p. subst (λ z. be32 (with_cell w z.offset (number_of z)) c.offset ≡ number_of c) p (cell_number_lem w c.offset (number_of c) f m))
      (λ n. cell_other w x.offset (number_of x) h.0 c.offset n ∙ e)
      a.0)

  -- each cell holds its number in the end
  pub filled_cell : (cs : List Cell) (w : Bytes) (c : Cell) → In c cs → number_of c < 4294967296 → AllByRecursion (λ x. x.offset + 4 ≤ length w) cs → AllByRecursion (Apart c) cs → be32 (filled env d v w cs) c.offset ≡ number_of c
  unfolding filled
  filled_cell [] w c i m h a = absurd i
  filled_cell (x ∷ cs) w c (inl p) m h a =
      let l = length_cell w x.offset (number_of x) h.0 in
      let f : c.offset + 4 ≤ length w = subst (λ z. z.offset + 4 ≤ length w) (sym p) h.0 in
      stays c cs (with_cell w x.offset (number_of x)) m (omega (arith, l, f)) (all_from _ cs (λ y i. let z = all-at _ y cs h.1 i in omega (arith, l, z))) a.1
      (subst (λ z. be32 (with_cell w z.offset (number_of z)) c.offset ≡ number_of c) p (cell_number_lem w c.offset (number_of c) f m))
  filled_cell (x ∷ cs) w c (inr i) m h a =
      let l = length_cell w x.offset (number_of x) h.0 in
      filled_cell cs (with_cell w x.offset (number_of x)) c i m (all_from _ cs (λ y j. let z = all-at _ y cs h.1 j in omega (arith, l, z))) a.1
