-- Where a node is among the nodes, by its path. Assumes nothing.
use Rattle.std.proofs.Common.{◌≡◌, ℕ, suc, ◌+◌, ◌-◌, ◌<◌, ◌≤◌, Bool, true, false, cond, ◌&&◌, eqb, leb, ◌⊎◌, List, [], ◌∷◌, ◌++◌, length, take, Some, None, Option, sym, refl, ap, ◌∙◌, subst, inl, inr, ⊎_elim, append_assoc, arith}
use Rattle.std.specs.Str.{bytes_eq}
use Rattle.std.proofs.lemmas.Slice.Eq.{bytes_eq-Decides}
use Rattle.std.proofs.lemmas.List.{append_cancel_left, length-append}
use Rattle.std.proofs.lemmas.Bool.{cond-false, true≢false, and_parts, and_from, eqb-true, eq-eqb, ne_eqb, leb-true, leb-false, cases_lt}
use Rattle.names.proofs.NameLaws.{node_names}
use Rattle.names.specs.Names.{node_name}
use Rattle.names.specs.Paths.{plain}
use Rattle.tree.specs.Places.{Bytes, Place, node_at, property_at}
use Rattle.tree.specs.Trees.{Places}
use Rattle.tree.proofs.Maps.{some-none}
use Rattle.tree.proofs.MapLaws.{decide}
use Rattle.tree.proofs.Places.{place-order}
use Rattle.tape.specs.Nodes.{Node, Property, cut, height, step, ended, path_of, listed, spread, fits, fitting, Every, Missing, further, child_in}
use Rattle.tape.proofs.Arranged.{seek, seek-none, seek-here, seek-past}
use Rattle.tape.proofs.Stems.{height-child, cut_all, cut_join, step_is, step-height, step_cut}

-- a is the path at or above s
unfoldable pub Within : Bytes → Bytes → Type 0
Within a s = (height a ≤ height s) × (cut (height a) s ≡ a)

pub fit_parts : (d : ℕ) (n : Node) (ns : List Node) → fits d (n ∷ ns) ≡ true → (1 ≤ n.depth) × (n.depth ≤ d + 1) × (node_name n.name ≡ true) × (fits n.depth ns ≡ true)
unfolding fits
fit_parts d n ns h =
    let a = and_parts (fitting d n) (fits n.depth ns) h in
    let b = and_parts (leb 1 n.depth && leb n.depth (d + 1)) (node_name n.name) a.0 in
    let c = and_parts (leb 1 n.depth) (leb n.depth (d + 1)) b.0 in
    (leb-true _ _ c.0, leb-true _ _ c.1, b.1, a.1)

within-child : (q c : Bytes) → plain c ≡ true → Within q (q ++ (47 ∷ c))
unfolding Within
within-child q c h =
    (omega (arith, height-child q c h), cut_join (height q) q c (omega arith) ∙ cut_all (height q) q (omega arith))

pub fit-step : (s : Bytes) (n : Node) (ns : List Node) → fits (height s) (n ∷ ns) ≡ true → (height (step s n) ≡ n.depth) × (fits (height (step s n)) ns ≡ true) × (step s n ≡ cut (n.depth - 1) s ++ (47 ∷ n.name)) × ((k : ℕ) → k < n.depth → cut k (step s n) ≡ cut k s)
fit-step s n ns h =
    let f = fit_parts (height s) n ns h in
    let p = (node_names n.name f.2).0 in
    let e = step-height s n f.0 f.1 p in
    (e, subst (λ k. fits k ns ≡ true) (sym e) f.3, step_is s n f.0 f.1 p, step_cut s n f.0 f.1 p)

within-back : (a s : Bytes) (n : Node) (ns : List Node) → fits (height s) (n ∷ ns) ≡ true → Within a (step s n) → (step s n ≡ a) ⊎ Within a s
unfolding Within
within-back a s n ns h w =
    let f = fit-step s n ns h in
    let b = fit_parts (height s) n ns h in
    ⊎_elim
    (λ l. inr (omega (arith, b.1), sym (f.3 (height a) l) ∙ w.1))
    (λ l. inl (sym (cut_all (height a) (step s n) (omega (arith, f.0))) ∙ w.1))
    (cases_lt (height a) n.depth)

-- what is below a comes after a, or not at all
pub orphans : (a s : Bytes) (ns : List Node) → fits (height s) ns ≡ true → (Within a s → ⊥) → Missing a s ns → Every (λ x. Within a x → ⊥) s ns
orphans a s [] h w m = tt
orphans a s (n ∷ ns) h w m =
    let out : Within a (step s n) → ⊥ = λ x. ⊎_elim m.0 w (within-back a s n ns h x) in
    (out, orphans a (step s n) ns (fit-step s n ns h).1 out m.1)

apart-child : (q c x : Bytes) → plain c ≡ true → (Within q x → ⊥) → x ≡ q ++ (47 ∷ c) → ⊥
apart-child q c x h w e = w (subst (Within q) (sym e) (within-child q c h))

every_map : (P Q : Bytes → Type 0) (s : Bytes) (ns : List Node) → ((x : Bytes) → P x → Q x) → Every P s ns → Every Q s ns
every_map P Q s [] f e = tt
every_map P Q s (n ∷ ns) f e = (f _ e.0, every_map P Q (step s n) ns f e.1)

module _ (q c : Bytes) (pc : plain c ≡ true) where
  -- a node of the right depth below q
  own-path : (s : Bytes) (n : Node) (ns : List Node) → fits (height s) (n ∷ ns) ≡ true → Within q s → n.depth ≡ height q + 1 → step s n ≡ q ++ (47 ∷ n.name)
  unfolding Within
  own-path s n ns h w e =
      let f = fit-step s n ns h in
      let d : n.depth - 1 ≡ height q = omega (arith, e) in
      f.2 ∙ ap (λ k. cut k s ++ (47 ∷ n.name)) d ∙ ap (λ t. t ++ (47 ∷ n.name)) w.1

  named_so : (a b : Bytes) → q ++ (47 ∷ a) ≡ q ++ (47 ∷ b) → a ≡ b
  named_so a b e = let f : 47 ∷ a ≡ 47 ∷ b = append_cancel_left q (47 ∷ a) (47 ∷ b) e in cc

  stays : (s : Bytes) (n : Node) (ns : List Node) → fits (height s) (n ∷ ns) ≡ true → Within q s → height q < n.depth → Within q (step s n)
  unfolding Within
  stays s n ns h w l = let f = fit-step s n ns h in (omega (arith, f.0), f.3 (height q) l ∙ w.1)

  other : (s : Bytes) (n : Node) (ns : List Node) → fits (height s) (n ∷ ns) ≡ true → Within q s → (eqb n.depth (height q + 1) && bytes_eq n.name c) ≡ false → step s n ≡ q ++ (47 ∷ c) → ⊥
  other s n ns h w t e =
      let f = fit-step s n ns h in
      let d : n.depth ≡ height q + 1 = sym f.0 ∙ ap height e ∙ height-child q c pc in
      let same = named_so n.name c (sym (own-path s n ns h w d) ∙ e) in
      true≢false (sym (and_from _ _ (eq-eqb _ _ d) ((bytes_eq-Decides n.name c).1 same)) ∙ t)

  left : (s : Bytes) (n : Node) (ns : List Node) → fits (height s) (n ∷ ns) ≡ true → n.depth ≤ height q → (step s n ≡ q → ⊥) → Within q (step s n) → ⊥
  unfolding Within
  left s n ns h l m w = let f = fit-step s n ns h in m (sym (cut_all (height q) (step s n) (omega (arith, f.0))) ∙ w.1)

  further-none : (o : Option ℕ) → further o ≡ None → o ≡ None
  further-none None e = refl
  further-none (Some k) e = absurd (some-none (suc k) e)

  -- no child so named behind q
  pub child-none : (s : Bytes) (ns : List Node) → fits (height s) ns ≡ true → Within q s → Missing q s ns → child_in (height q) c ns ≡ None → Missing (q ++ (47 ∷ c)) s ns
  unfolding child_in
  child-none s [] h w m e = tt
  child-none s (n ∷ ns) h w m e = go (leb n.depth (height q)) refl (eqb n.depth (height q + 1) && bytes_eq n.name c) refl e (λ u f. child-none (step s n) ns (fit-step s n ns h).1 u m.1 f)
    where
      go : (x : Bool) → leb n.depth (height q) ≡ x → (y : Bool) → (eqb n.depth (height q + 1) && bytes_eq n.name c) ≡ y → cond x None (cond y (Some 0) (further (child_in (height q) c ns))) ≡ None → (Within q (step s n) → child_in (height q) c ns ≡ None → Missing (q ++ (47 ∷ c)) (step s n) ns) → Missing (q ++ (47 ∷ c)) s (n ∷ ns)
      go true p y r f ih =
          let out = left s n ns h (leb-true _ _ p) m.0 in
          (apart-child q c (step s n) pc out, every_map _ _ (step s n) ns (λ x. apart-child q c x pc) (orphans q (step s n) ns (fit-step s n ns h).1 out m.1))
      go false p true r f ih = absurd (some-none 0 f)
      go false p false r f ih =
          (other s n ns h w r, ih (stays s n ns h w (leb-false _ _ p)) (further-none _ f))

  further-some : (o : Option ℕ) (k : ℕ) → further o ≡ Some k → (j : ℕ) × (o ≡ Some j) × (k ≡ suc j)
  further-some None k e = absurd (some-none k (sym e))
  further-some (Some j) k e = let z : suc j ≡ k = cc in (j, refl, sym z)

  -- the child so named
  pub child-some : (s : Bytes) (ns : List Node) (k : ℕ) → fits (height s) ns ≡ true → Within q s → child_in (height q) c ns ≡ Some k → (k < length ns) × (ended s (take (suc k) ns) ≡ q ++ (47 ∷ c))
  unfolding child_in ended
  child-some s [] k h w e = absurd (some-none k (sym e))
  child-some s (n ∷ ns) k h w e = go (leb n.depth (height q)) refl (eqb n.depth (height q + 1) && bytes_eq n.name c) refl e (λ j u f. child-some (step s n) ns j (fit-step s n ns h).1 u f)
    where
      go : (x : Bool) → leb n.depth (height q) ≡ x → (y : Bool) → (eqb n.depth (height q + 1) && bytes_eq n.name c) ≡ y → cond x None (cond y (Some 0) (further (child_in (height q) c ns))) ≡ Some k → ((j : ℕ) → Within q (step s n) → child_in (height q) c ns ≡ Some j → (j < length ns) × (ended (step s n) (take (suc j) ns) ≡ q ++ (47 ∷ c))) → (k < suc (length ns)) × (ended (step s n) (take k ns) ≡ q ++ (47 ∷ c))
      go true p y r f ih = absurd (some-none k (sym f))
      go false p true r f ih =
          let z : 0 ≡ k = cc in
          let t = and_parts _ _ r in
          let own = own-path s n ns h w (eqb-true _ _ t.0) ∙ ap (λ a. q ++ (47 ∷ a)) ((bytes_eq-Decides n.name c).0 t.1) in
          (omega arith, ap (λ j. ended (step s n) (take j ns)) (sym z) ∙ own)
      go false p false r f ih =
          let j = further-some _ k f in
          let i = ih j.0 (stays s n ns h w (leb-false _ _ p)) j.1 in
          (omega (arith, i.0, j.2), ap (λ l. ended (step s n) (take l ns)) j.2 ∙ i.1)

-- ---- the places of nodes

pub every_join : (P : Bytes → Type 0) (s : Bytes) (xs ys : List Node) → Every P s xs → Every P (ended s xs) ys → Every P s (xs ++ ys)
unfolding ended
every_join P s [] ys a b = b
every_join P s (n ∷ xs) ys a b = (a.0, every_join P (step s n) xs ys a.1 b)

pub every_parts : (P : Bytes → Type 0) (s : Bytes) (xs ys : List Node) → Every P s (xs ++ ys) → Every P s xs × Every P (ended s xs) ys
unfolding ended
every_parts P s [] ys a = (tt, a)
every_parts P s (n ∷ xs) ys a = let r = every_parts P (step s n) xs ys a.1 in ((a.0, r.0), r.1)

pub ended_join : (s : Bytes) (xs ys : List Node) → ended s (xs ++ ys) ≡ ended (ended s xs) ys
unfolding ended
ended_join s [] ys = refl
ended_join s (n ∷ xs) ys = ended_join (step s n) xs ys

pub spread_join : (s : Bytes) (xs ys : List Node) → spread s (xs ++ ys) ≡ spread s xs ++ spread (ended s xs) ys
unfolding spread ended
spread_join s [] ys = refl
spread_join s (n ∷ xs) ys =
    let p = path_of (step s n) in
    ap (λ t. (node_at p, []) ∷ (listed p n.properties ++ t)) (spread_join (step s n) xs ys)
    ∙ ap (λ t. (node_at p, []) ∷ t) (sym (append_assoc (listed p n.properties) (spread (step s n) xs) (spread (ended (step s n) xs) ys)))

-- a path that is not just a slash
unfoldable pub Proper : Bytes → Type 0
Proper s = length s ≡ 1 → ⊥

pub path-full : (x : ℕ) (s : Bytes) → path_of (x ∷ s) ≡ x ∷ s
path-full x s = cond-false (eqb (suc (length s)) 0) _ _ (ne_eqb (suc (length s)) 0 (λ z. omega arith))

pub path-only : (a b : Bytes) → Proper a → Proper b → path_of a ≡ path_of b → a ≡ b
unfolding Proper
path-only [] [] p q e = refl
path-only [] (y ∷ b) p q e = absurd (q (sym (ap length (e ∙ path-full y b))))
path-only (x ∷ a) [] p q e = absurd (p (ap length (sym (path-full x a) ∙ e)))
path-only (x ∷ a) (y ∷ b) p q e = sym (path-full x a) ∙ e ∙ path-full y b

pub child_proper : (q c : Bytes) → 1 ≤ length c → Proper (q ++ (47 ∷ c))
unfolding Proper
child_proper q c h e = omega (arith, sym (length-append q (47 ∷ c)) ∙ e)

-- no property has a node's place, nor one of another node
pub listed-node : (p q : Bytes) (xs : List Property) (es : Places) → seek (listed p xs ++ es) (node_at q) ≡ seek es (node_at q)
unfolding listed
listed-node p q [] es = refl
listed-node p q (x ∷ xs) es =
    seek-past (property_at p x.0, x.1) (listed p xs ++ es) (node_at q) (λ e. some-none x.0 (sym (ap (λ k. k.1) e)))
    ∙ listed-node p q xs es

pub listed-other : (p : Bytes) (xs : List Property) (es : Places) (k : Place) → (k.0 ≡ p → ⊥) → seek (listed p xs ++ es) k ≡ seek es k
unfolding listed
listed-other p [] es k n = refl
listed-other p (x ∷ xs) es k n =
    seek-past (property_at p x.0, x.1) (listed p xs ++ es) k (λ e. n (ap (λ k. k.0) e)) ∙ listed-other p xs es k n

-- nodes that fit have proper paths
pub step_proper : (s : Bytes) (n : Node) (ns : List Node) → fits (height s) (n ∷ ns) ≡ true → Proper (step s n)
step_proper s n ns h =
    let f = fit-step s n ns h in
    let b = fit_parts (height s) n ns h in
    subst Proper (sym f.2) (child_proper (cut (n.depth - 1) s) n.name (node_names n.name b.2).1)

-- where no node has the path, none of its places is there
pub missing_seek : (b s : Bytes) (ns : List Node) (o : Option Bytes) → fits (height s) ns ≡ true → Proper b → Missing b s ns → seek (spread s ns) (path_of b, o) ≡ None
unfolding spread
missing_seek b s [] o h p m = seek-none (path_of b, o)
missing_seek b s (n ∷ ns) o h p m =
    let own : path_of b ≡ path_of (step s n) → ⊥ = λ e. m.0 (path-only (step s n) b (step_proper s n ns h) p (sym e)) in
    seek-past (node_at (path_of (step s n)), []) _ (path_of b, o) (λ e. own (ap (λ k. k.0) e)) ∙ listed-other (path_of (step s n)) n.properties _ (path_of b, o) own
    ∙ missing_seek b (step s n) ns o (fit-step s n ns h).1 p m.1

pub seek_missing : (b s : Bytes) (ns : List Node) → seek (spread s ns) (node_at (path_of b)) ≡ None → Missing b s ns
unfolding spread
seek_missing b s [] e = tt
seek_missing b s (n ∷ ns) e =
    let own : step s n ≡ b → ⊥ = λ z. some-none [] (sym (seek-here (node_at (path_of (step s n))) [] _) ∙ ap (λ t. seek ((node_at (path_of (step s n)), []) ∷ (listed (path_of (step s n)) n.properties ++ spread (step s n) ns)) (node_at (path_of t))) z ∙ e) in
    ⊎_elim
    (λ z. absurd (some-none [] (sym (seek-here (node_at (path_of (step s n))) [] _) ∙ ap (seek ((node_at (path_of (step s n)), []) ∷ (listed (path_of (step s n)) n.properties ++ spread (step s n) ns))) (sym z) ∙ e)))
    (λ z. (own, seek_missing b (step s n) ns (sym (seek-past (node_at (path_of (step s n)), []) _ (node_at (path_of b)) z ∙ listed-node (path_of (step s n)) (path_of b) n.properties (spread (step s n) ns)) ∙ e)))
    (decide place-order (node_at (path_of b)) (node_at (path_of (step s n))))
