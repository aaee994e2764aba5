-- The places of a tree are a run. Assumes nothing.
use Rattle.std.proofs.Common.{◌≡◌, true, ◌⊎◌, List, [], ◌∷◌, Some, None, Ordering, Less, Equal, Greater, sym, refl, ap, ◌∙◌, subst, inl, inr, ⊎_elim}
use Rattle.std.specs.Ordering.{ordering_reverse, match_ordering as by_order}
use Rattle.std.proofs.lemmas.Bool.{and_parts}
use Rattle.names.specs.Names.{property_name}
use Rattle.names.specs.Orders.{path_order}
use Rattle.names.specs.Paths.{root, path_text, child, leaf, parent}
use Rattle.names.proofs.NameLaws.{node_names}
use Rattle.names.proofs.Orders.{child_after}
use Rattle.names.proofs.PathLaws.{path_splits}
use Rattle.tree.specs.Maps.{find, Below, Rises}
use Rattle.tree.specs.Places.{Bytes, Place, node_at, property_at, order}
use Rattle.tree.specs.Trees.{Places, Tree, Sound, look}
use Rattle.tree.proofs.Maps.{some-none, some_one, find-below, find-tail, head-found}
use Rattle.tree.proofs.Places.{place-order}
use Rattle.walk.specs.Runs.{Chain, Runs, run_end, run_root, run_property, run_node, run_leave, TreeRuns}
use Rattle.walk.proofs.Orders.{AtMost, less_greater, less-paths, node-less, own-property, paths-less, most-less, most-not-less, root-most}
use Rattle.walk.proofs.Ancestors.{In, ancestor, cases-bytes, chain-text}

-- below the head of a rising list is below its tail
pub below-tail : (k : Place) (e : Place × Bytes) (es : Places) → Below order k (e ∷ es) → Rises order (e ∷ es) → Below order k es
below-tail k e [] b r = tt
below-tail k e (d ∷ es) b r = place-order.trans k e.0 d.0 b r.0

pub below_less : (k l : Place) (es : Places) → order k l ≡ Less → Below order l es → Below order k es
below_less k l [] h b = tt
below_less k l (d ∷ es) h b = place-order.trans k l d.0 h b

-- what is found in a list, by its head
pub found_in : (k : Place) (v : Bytes) (e : Place × Bytes) (es : Places) → find order (e ∷ es) k ≡ Some v → ((k ≡ e.0) × (v ≡ e.1)) ⊎ ((order e.0 k ≡ Less) × (find order es k ≡ Some v))
unfolding find
found_in k v e es h = go (order k e.0) refl h
  where
    go : (r : Ordering) → order k e.0 ≡ r → by_order r None (Some e.1) (find order es k) ≡ Some v → ((k ≡ e.0) × (v ≡ e.1)) ⊎ ((order e.0 k ≡ Less) × (find order es k ≡ Some v))
    go Less p f = absurd (some-none v (sym f))
    go Equal p f = inl (place-order.exact k e.0 p, sym (some_one f))
    go Greater p f = inr (place-order.flip e.0 k ∙ ap ordering_reverse p, f)

module _ (t : Tree) (s : Sound t) where
  -- the nodes of the tree are still to come, or not behind c
  Known : Bytes → Places → Type 0
  Known c es = (q : Bytes) → look t (node_at q) ≡ Some [] → (find order es (node_at q) ≡ Some []) ⊎ AtMost q c

  -- what is to come is of the tree
  Held : Places → Type 0
  Held es = (k : Place) (v : Bytes) → find order es k ≡ Some v → look t k ≡ Some v

  held-tail : (e : Place × Bytes) (es : Places) → Rises order (e ∷ es) → Held (e ∷ es) → Held es
  unfolding Held
  held-tail e es r h k v f = h k v (find-tail place-order e es k v r f)

  known-node : (c p v : Bytes) (es : Places) → (AtMost c p) → Known c ((node_at p, v) ∷ es) → Known p es
  unfolding Known
  known-node c p v es l k q h =
      ⊎_elim
      (λ f. ⊎_elim (λ x. inr (inl (ap (λ z. z.0) x.0))) (λ x. inl x.1) (found_in (node_at q) [] (node_at p, v) es f))
      (λ m. inr (⊎_elim (λ e. subst (λ x. AtMost q x) e m) (λ b. inr (most-less q c p m b)) l))
      (k q h)

  known-property : (c p n v : Bytes) (es : Places) → Known c ((property_at p n, v) ∷ es) → Known c es
  unfolding Known
  known-property c p n v es k q h =
      ⊎_elim
      (λ f. ⊎_elim (λ x. absurd (some-none n (sym (ap (λ z. z.1) x.0)))) (λ x. inl x.1) (found_in (node_at q) [] (property_at p n, v) es f))
      inr
      (k q h)

  -- the facts of a node that comes
  record Node (p v : Bytes) : Type 0 where
    bare : v ≡ []
    text : path_text p ≡ true
    up : look t (node_at (parent p)) ≡ Some []

  node_of : (p v : Bytes) (es : Places) → Held ((node_at p, v) ∷ es) → Node p v
  unfolding Held
  node_of p v es h =
      let e = h (node_at p) v (head-found place-order (node_at p, v) es) in
      record { bare = s.bare p v e; text = s.named (node_at p) v e; up = s.hangs (node_at p) v e }

  -- leave nodes until the parent is the innermost
  leave_to : (p : Bytes) (es : Places) (qs : List Bytes) → path_text p ≡ true → (p ≡ root → ⊥) → In (parent p) qs → Chain qs → ((rs : List Bytes) → Chain (p ∷ rs) → Runs (p ∷ rs) es) → Runs qs ((node_at p, []) ∷ es)
  leave_to p es [] x n i c k = absurd i
  leave_to p es (q ∷ []) x n i c k =
      ⊎_elim
      (λ e. let w = path_splits p x n in run_node e (ap (λ z. child z (leaf p)) (sym e) ∙ w.0) w.2 (k (q ∷ []) (x, n, e, c)))
      absurd
      i
  leave_to p es (q ∷ r ∷ qs) x n i c k =
      ⊎_elim
      (λ e. let w = path_splits p x n in run_node e (ap (λ z. child z (leaf p)) (sym e) ∙ w.0) w.2 (k (q ∷ r ∷ qs) (x, n, e, c)))
      (λ d. run_leave d (leave_to p es (r ∷ qs) x n (⊎_elim (λ e. absurd (d e)) (λ j. j) i) c.3 k))
      (cases-bytes (parent p) q)

  run_from : (es : Places) (c : Bytes) (ps : List Bytes) → Chain (c ∷ ps) → Rises order es → Below order (node_at c) es → Known c es → Held es → Runs (c ∷ ps) es
  unfolding Known Held
  run_from [] c ps h r b k g = run_end
  run_from (((p, None), v) ∷ es) c ps h r b k g =
      let f = node_of p v es g in
      let l : path_order c p ≡ Less = node-less c p b in
      let top : p ≡ root → ⊥ = λ e. most-not-less root c (root-most c (chain-text c ps h)) (subst (λ x. path_order c x ≡ Less) e l) in
      let w = path_splits p f.text top in
      let nm = node_names (leaf p) w.2 in
      let after : path_order (parent p) p ≡ Less = ap (path_order (parent p)) (sym w.0) ∙ child_after (parent p) (leaf p) nm.1 in
      let most : AtMost (parent p) c =
      ⊎_elim
      (λ z. absurd (some-none [] (sym z ∙ find-below place-order (node_at (parent p)) ((node_at p, v) ∷ es) (paths-less (parent p) p None None after))))
      (λ m. m)
      (k (parent p) f.up) in
      let i = ancestor ps c (parent p) (leaf p) h w.1 (λ z. most-not-less (parent p) c most z) (ap (path_order c) w.0 ∙ l) in
      subst (λ x. Runs (c ∷ ps) ((node_at p, x) ∷ es)) (sym f.bare)
      (leave_to p es (c ∷ ps) f.text top i h (λ rs ch. run_from es p rs ch r.1 r.0 (known-node c p v es (inr l) k) (held-tail (node_at p, v) es r g)))
  run_from (((p, Some n), v) ∷ es) c ps h r b k g =
      let e = g (property_at p n) v (head-found place-order (property_at p n, v) es) in
      let nm = and_parts (path_text p) (property_name n) (s.named (property_at p n) v e) in
      let most : AtMost p c =
      ⊎_elim
      (λ z. absurd (some-none [] (sym z ∙ find-below place-order (node_at p) ((property_at p n, v) ∷ es) (own-property p n))))
      (λ m. m)
      (k p (s.hangs (property_at p n) v e)) in
      let same : c ≡ p = ⊎_elim (λ l. absurd (most-not-less p c most l)) (λ x. x.0) (less-paths c p None (Some n) b) in
      subst (λ x. Runs (c ∷ ps) ((property_at x n, v) ∷ es)) same
      (run_property nm.1 (run_from es c ps h r.1 (below-tail (node_at c) (property_at p n, v) es b r) (known-property c p n v es k) (held-tail (property_at p n, v) es r g)))

  run_start : (es : Places) → es ≡ t.places → Rises order es → Held es → find order es (node_at root) ≡ Some [] → Runs [] es
  unfolding Known Held find look
  run_start [] e r g f = absurd (some-none [] (sym f))
  run_start (((p, None), v) ∷ es) e r g f =
      let x = node_of p v es g in
      let top : p ≡ root =
      ⊎_elim
      (λ z. sym (ap (λ k. k.0) z.0))
      (λ z. absurd (most-not-less root p (root-most p x.text) (node-less p root z.0)))
      (found_in (node_at root) [] (node_at p, v) es f) in
      let known : Known p ((node_at p, v) ∷ es) = λ q h. inl (subst (λ y. find order y (node_at q) ≡ Some []) (sym e) h) in
      let rest : Runs (p ∷ []) es = run_from es p [] top r.1 r.0 (known-node p p v es (inl refl) known) (held-tail (node_at p, v) es r g) in
      subst (λ y. Runs [] ((node_at p, y) ∷ es)) (sym x.bare) (subst (λ y. Runs [] ((node_at y, []) ∷ es)) (sym top) (run_root (subst (λ y. Runs (y ∷ []) es) top rest)))
  run_start (((p, Some n), v) ∷ es) e r g f =
      let h = g (property_at p n) v (head-found place-order (property_at p n, v) es) in
      let nm = and_parts (path_text p) (property_name n) (s.named (property_at p n) v h) in
      absurd (⊎_elim
      (λ z. some-none n (sym (ap (λ k. k.1) z.0)))
      (λ z. ⊎_elim (λ l. most-not-less root p (root-most p nm.0) l) (λ y. less_greater (sym y.1)) (less-paths p root (Some n) None z.0))
      (found_in (node_at root) [] (property_at p n, v) es f))

pub tree-runs : TreeRuns
unfolding Held look
tree-runs t s = run_start t s t.places refl s.rises (λ k v f. f) s.root
