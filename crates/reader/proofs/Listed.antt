-- The entries of a blob within the limits come in a good order: parents first, each at a place of its own. Assumes nothing.
use Rattle.std.proofs.Common.{◌≡◌, ℕ, ◌<◌, true, false, not, List, [], ◌∷◌, ◌++◌, length, Some, None, Option, sym, refl, ap, ◌∙◌, subst, ⊎_elim, append_assoc, append-nil, arith, length-append}
use Rattle.std.proofs.lemmas.Bool.Decides.{nat_tests}
use Rattle.std.proofs.lemmas.Slice.Eq.{bytes_eq-Decides}
use Rattle.std.proofs.lemmas.Bool.{and_parts, and_from, or_parts, or_from, both_ways, cases_Bool, true≢false}
use Rattle.std.proofs.ByRecursion.{All-append, All-weaker}
use Rattle.std.specs.List.{AllByRecursion}
use Rattle.std.specs.Str.{bytes_eq}
use Rattle.names.specs.Names.{each, node_name}
use Rattle.names.specs.Orders.{name_order, path_order}
use Rattle.names.specs.PathLaws.{further}
use Rattle.names.specs.Paths.{root, stem, child, parent, plain, path_text}
use Rattle.names.proofs.NameLaws.{node_names}
use Rattle.names.proofs.Orders.{siblings_below, name_order_lem, path_order_lem}
use Rattle.names.proofs.PathLaws.{child_parent, child_text, child_longer}
use Rattle.tree.specs.Places.{Bytes, Place, node_at, property_at}
use Rattle.tree.specs.Entries.{Entry, same_place, among_places, listed_next, listed_from, well_listed}
use Rattle.tree.proofs.Listed.{same_self, same-only}
use Rattle.reader.specs.Verdict.{has}
use Rattle.reader.specs.Format.{Spelt, node_entry, property_entry, distinct, Properties, no_property, a_property, Node, a_node, Body, a_body, Nodes, no_node, more_nodes, Root, a_root, within}
use Rattle.reader.proofs.Children.{stem-of}
use Rattle.reader.proofs.Distinct.{distinct_apart, distinct_shift, has_append}
use Rattle.reader.proofs.Tallied.{short, each_append}

-- ---- places seen

-- none of the places seen is this one
unseen : (k : Place) (seen : List Place) → AllByRecursion (λ l. k ≡ l → ⊥) seen → among_places k seen ≡ false
unseen k [] a = refl
unseen k (l ∷ ls) a = or_from (same_place k l) (among_places k ls) (⊎_elim (λ t. absurd (a.0 (same-only k l t))) (λ f. f) (cases_Bool (same_place k l))) (unseen k ls a.1)

-- the places of entries, put in front
unfoldable push : List Entry → List Place → List Place
push [] seen = seen
push (e ∷ es) seen = push es (e.place ∷ seen)

listed_append : (es fs : List Entry) (seen : List Place) → listed_from seen es ≡ true → listed_from (push es seen) fs ≡ true → listed_from seen (es ++ fs) ≡ true
unfolding listed_from push
listed_append [] fs seen a b = b
listed_append (e ∷ es) fs seen a b =
    let p = and_parts (listed_next seen e) (listed_from (e.place ∷ seen) es) a in
    and_from (listed_next seen e) (listed_from (e.place ∷ seen) (es ++ fs)) p.0 (listed_append es fs (e.place ∷ seen) p.1 b)

-- what holds of the places seen and of the new ones holds of all
all_push : (P : Place → Type 0) (es : List Entry) (seen : List Place) → AllByRecursion (λ e. P e.place) es → AllByRecursion P seen → AllByRecursion P (push es seen)
unfolding push
all_push P [] seen a b = b
all_push P (e ∷ es) seen a b = all_push P es (e.place ∷ seen) a.1 (a.0, b)

among-push : (k : Place) (es : List Entry) (seen : List Place) → among_places k seen ≡ true → among_places k (push es seen) ≡ true
unfolding push
among-push k [] seen a = a
among-push k (e ∷ es) seen a = among-push k es (e.place ∷ seen) (let h = a in grind (arith, nat_tests))

-- ---- at a path or below it

record Below (q p : Bytes) : Type 0 where
  rest : Bytes
  on : further rest ≡ true
  is : p ≡ q ++ rest

Fresh : List Place → Bytes → Type 0
Fresh seen q = AllByRecursion (λ k. Below q k.0 → ⊥) seen

below_self : (q : Bytes) → Below q q
below_self q = record { rest = []; on = refl; is = sym (append-nil q) }

-- what is below a child is below its parent
below_up : (q n x : Bytes) → stem q ≡ q → Below (child q n) x → Below q x
below_up q n x s b =
    record {
      rest = 47 ∷ (n ++ b.rest);
      on = refl;
      is = b.is ∙ ap (λ z. (z ++ (47 ∷ n)) ++ b.rest) s ∙ append_assoc q (47 ∷ n) b.rest;
    }

-- nothing is both below a child and above it
below-longer : (q n : Bytes) → 0 < length n → Below (child q n) q → ⊥
below-longer q n h b =
    let l = child_longer q n h in
    let k = ap length b.is ∙ length-append (child q n) b.rest in
    omega arith

-- what is below two children that differ in name differs
below_apart : (p n m x : Bytes) → plain n ≡ true → plain m ≡ true → (n ≡ m → ⊥) → Below (child p n) x → Below (child p m) x → ⊥
below_apart p n m x pn pm ne a b =
    let o = siblings_below p n m a.rest b.rest pn pm ne a.on b.on in
    let e : path_order x x ≡ name_order n m = (λ i. path_order (a.is i) (b.is i)) ∙ o in
    ne (name_order_lem.exact n m (sym e ∙ path_order_lem.itself x))

-- ---- one node's own places

Own : List Place → Bytes → List Bytes → Type 0
Own seen p props = AllByRecursion (λ k. (m : Bytes) → k ≡ property_at p m → has m props ≡ true) seen

Kin : List Place → Bytes → List Bytes → Type 0
Kin seen p kids = (m : Bytes) → plain m ≡ true → 0 < length m → has m kids ≡ false → Fresh seen (child p m)

has_more : (m n : Bytes) (ns : List Bytes) → has m ns ≡ true → has m (ns ++ (n ∷ [])) ≡ true
has_more m n ns h = has_append m ns (n ∷ []) ∙ rw h

has_last : (n : Bytes) (ns : List Bytes) → has n (ns ++ (n ∷ [])) ≡ true
has_last n ns = let a = has_append n ns (n ∷ []) in let s = (bytes_eq-Decides n n).1 refl in grind (arith, nat_tests)

has-less : (m n : Bytes) (ns : List Bytes) → has m (ns ++ (n ∷ [])) ≡ false → (has m ns ≡ false) × (n ≡ m → ⊥)
has-less m n ns h =
    let p = or_parts (has m ns) (has m (n ∷ [])) (sym (has_append m ns (n ∷ [])) ∙ h) in
    let q = or_parts (bytes_eq n m) false p.1 in
    (p.0, λ e. both_ways (bytes_eq n m) q.0 ((bytes_eq-Decides n m).1 e))

module _ {path : Bytes} where
  props-paths : {xs : Spelt} {es : List Entry} {ns : List Bytes} {ys : Spelt} → Properties path xs es ns ys → AllByRecursion (λ e. e.place.0 ≡ path) es
  props-paths no_property = tt
  props-paths (a_property good rest) = (refl, props-paths rest)

  props-listed : {xs : Spelt} {es : List Entry} {ns : List Bytes} {ys : Spelt} → Properties path xs es ns ys → (seen : List Place) (props : List Bytes) → among_places (node_at path) seen ≡ true → path_text path ≡ true → Own seen path props
      → distinct (props ++ ns) ≡ true → each short es ≡ true → listed_from seen es ≡ true
  unfolding listed_from Own
  props-listed no_property seen props here text own d s = refl
  props-listed (a_property {p} {name} {value} {xs} {ys} {es} {ns} good rest) seen props here text own d s =
      let q = and_parts (short (property_entry p path name value)) (each short es) s in
      let new = distinct_apart props name ns d in
      let free : among_places (property_at path name) seen ≡ false = unseen (property_at path name) seen (All-weaker _ _ (λ k f e. both_ways (has name props) new (f name (sym e))) seen own) in
      let more : Own (property_at path name ∷ seen) path (props ++ (name ∷ [])) =
      ((λ m e. subst (λ z. has z (props ++ (name ∷ [])) ≡ true) (some_same m (ap (λ k. k.1) e)) (has_last name props)), All-weaker _ _ (λ k f m e. has_more m name props (f m e)) seen own) in
      and_from _ _
      (and_from _ _ (and_from _ _ (and_from _ _ text good) (and_from _ _ q.0 refl)) (and_from _ _ (ap not free) here))
      (props-listed rest (property_at path name ∷ seen) (props ++ (name ∷ [])) (let h = here in grind (arith, nat_tests)) text more (distinct_shift props name ns ∙ d) q.1)
    where
      some_same : (m : Bytes) → ◌≡◌ {A = Option Bytes} (Some name) (Some m) → name ≡ m
      some_same m e = cc

node-good : {path name : Bytes} {xs : Spelt} {es : List Entry} {ys : Spelt} → Node path name xs es ys → node_name name ≡ true
node-good (a_node good body) = good

-- ---- all of a node is at its path or below

mutual
  node-below : {path name : Bytes} {xs : Spelt} {es : List Entry} {ys : Spelt} → Node path name xs es ys → AllByRecursion (λ e. Below (child path name) e.place.0) es
  node-below (a_node {path} {name} {p} {q} {xs} {ys} {es} good body) = (below_self (child path name), body_below body (stem-of path name good))

  body_below : {path : Bytes} {xs : Spelt} {es : List Entry} {zs : Spelt} → Body path xs es zs → stem path ≡ path → AllByRecursion (λ e. Below path e.place.0) es
  body_below (a_body {path} {xs} {ys} {zs} {ps} {ks} props d nodes e) s =
      All-append (λ x. Below path x.place.0) ps ks (All-weaker _ _ (λ x at. subst (Below path) (sym at) (below_self path)) ps (props-paths props)) (nodes-below nodes s)

  nodes-below : {path : Bytes} {xs : Spelt} {es : List Entry} {ns : List Bytes} {zs : Spelt} → Nodes path xs es ns zs → stem path ≡ path → AllByRecursion (λ e. Below path e.place.0) es
  nodes-below no_node s = tt
  nodes-below (more_nodes {path} {name} {xs} {ys} {zs} {es} {fs} node rest) s =
      All-append (λ x. Below path x.place.0) es fs (All-weaker _ _ (λ x b. below_up path name x.place.0 s b) es (node-below node)) (nodes-below rest s)

-- ---- all of it in a good order

text-some : (p : Bytes) → path_text p ≡ true → 0 < length p
unfolding path_text
text-some [] e = absurd (true≢false (sym e))
text-some (b ∷ bs) e = omega arith

named-child : (path name : Bytes) → path_text path ≡ true → node_name name ≡ true → path_text (child path name) ≡ true
named-child path name text good =
    let n = node_names name good in
    child_text path name (text-some path text) n.1 n.0 ∙ and_from (path_text path) (node_name name) text good

kin-inside : (q : Bytes) (seen : List Place) → stem q ≡ q → Fresh seen q → Kin (node_at q ∷ seen) q []
unfolding Kin Fresh
kin-inside q seen s fresh m pm lm new = (λ b. below-longer q m lm b, All-weaker _ _ (λ k f b. f (below_up q m k.0 s b)) seen fresh)

own-inside : (q : Bytes) (seen : List Place) → Fresh seen q → Own (node_at q ∷ seen) q []
unfolding Own Fresh
own-inside q seen fresh = (
  (λ m e. let z : ◌≡◌ {A = Option Bytes} None (Some m) = ap (λ k. k.1) e in absurd (cc)),
  All-weaker _ _ (λ k f m e. absurd (f (subst (Below q) (sym (ap (λ l. l.0) e)) (below_self q)))) seen fresh,
)

kin-props : (path : Bytes) (ps : List Entry) (seen : List Place) (kids : List Bytes) → AllByRecursion (λ e. e.place.0 ≡ path) ps → Kin seen path kids → Kin (push ps seen) path kids
unfolding Kin Fresh
kin-props path ps seen kids at kin m pm lm new =
    all_push (λ k. Below (child path m) k.0 → ⊥) ps seen (All-weaker _ _ (λ e h b. below-longer path m lm (subst (Below (child path m)) h b)) ps at) (kin m pm lm new)

kin-node : (path name : Bytes) (es : List Entry) (seen : List Place) (kids : List Bytes) → node_name name ≡ true → AllByRecursion (λ e. Below (child path name) e.place.0) es → Kin seen path kids → Kin (push es seen) path (kids ++ (name ∷ []))
unfolding Kin Fresh
kin-node path name es seen kids good below kin m pm lm new =
    let h = has-less m name kids new in
    all_push (λ k. Below (child path m) k.0 → ⊥) es seen (All-weaker _ _ (λ e b c. below_apart path name m e.place.0 (node_names name good).0 pm h.1 b c) es below) (kin m pm lm h.0)

listed-none : (seen : List Place) → listed_from seen [] ≡ true
unfolding listed_from
listed-none seen = refl

among_first : (k : Place) (seen : List Place) → among_places k (k ∷ seen) ≡ true
among_first k seen = let s = same_self k in grind (arith, nat_tests)

fresh-unseen : (seen : List Place) (q : Bytes) → Fresh seen q → among_places (node_at q) seen ≡ false
unfolding Fresh
fresh-unseen seen q fresh = unseen (node_at q) seen (All-weaker _ _ (λ k f e. f (subst (Below q) (ap (λ l. l.0) e) (below_self q))) seen fresh)

kin-fresh : (seen : List Place) (path : Bytes) (kids : List Bytes) (name : Bytes) → Kin seen path kids → plain name ≡ true → 0 < length name → has name kids ≡ false → Fresh seen (child path name)
unfolding Kin
kin-fresh seen path kids name kin = kin name

-- a node's entry, and what follows it
listed-node : (seen : List Place) (p : ℕ) (q : Bytes) (es : List Entry) → path_text q ≡ true → short (node_entry p q) ≡ true → among_places (node_at q) seen ≡ false → among_places (node_at (parent q)) seen ≡ true → listed_from (node_at q ∷ seen) es ≡ true
    → listed_from seen (node_entry p q ∷ es) ≡ true
unfolding listed_from
listed-node seen p q es text low free up rest = and_from _ _ (and_from _ _ (and_from _ _ text (and_from _ _ low refl)) (and_from _ _ (ap not free) up)) rest

mutual
  node-listed : {path name : Bytes} {xs : Spelt} {es : List Entry} {ys : Spelt} → Node path name xs es ys → (seen : List Place) → among_places (node_at path) seen ≡ true → path_text path ≡ true → Fresh seen (child path name)
      → each short es ≡ true → listed_from seen es ≡ true
  node-listed (a_node {path} {name} {p} {q} {xs} {ys} {es} good body) seen here text fresh s =
      let parts = and_parts (short (node_entry p (child path name))) (each short es) s in
      let n = node_names name good in
      let up : parent (child path name) ≡ path = child_parent path name (text-some path text) n.0 in
      let text2 = named-child path name text good in
      listed-node seen p (child path name) es text2 parts.0 (fresh-unseen seen (child path name) fresh) (ap (λ z. among_places (node_at z) seen) up ∙ here)
      (body-listed body (node_at (child path name) ∷ seen) (among_first (node_at (child path name)) seen) text2 (own-inside (child path name) seen fresh) (kin-inside (child path name) seen (stem-of path name good) fresh) parts.1)

  body-listed : {path : Bytes} {xs : Spelt} {es : List Entry} {zs : Spelt} → Body path xs es zs → (seen : List Place) → among_places (node_at path) seen ≡ true → path_text path ≡ true → Own seen path [] → Kin seen path []
      → each short es ≡ true → listed_from seen es ≡ true
  body-listed (a_body {path} {xs} {ys} {zs} {ps} {ks} {ns} {ms} props d nodes e) seen here text own kin s =
      let parts = and_parts (each short ps) (each short ks) (sym (each_append short ps ks) ∙ s) in
      listed_append ps ks seen (props-listed props seen [] here text own d parts.0)
      (nodes-listed nodes (push ps seen) [] (among-push (node_at path) ps seen here) text (kin-props path ps seen [] (props-paths props) kin) e parts.1)

  nodes-listed : {path : Bytes} {xs : Spelt} {es : List Entry} {ns : List Bytes} {zs : Spelt} → Nodes path xs es ns zs → (seen : List Place) (kids : List Bytes) → among_places (node_at path) seen ≡ true → path_text path ≡ true → Kin seen path kids
      → distinct (kids ++ ns) ≡ true → each short es ≡ true → listed_from seen es ≡ true
  nodes-listed no_node seen kids here text kin d s = listed-none seen
  nodes-listed (more_nodes {path} {name} {xs} {ys} {zs} {es} {fs} {ns} node rest) seen kids here text kin d s =
      let parts = and_parts (each short es) (each short fs) (sym (each_append short es fs) ∙ s) in
      let good = node-good node in
      let n = node_names name good in
      listed_append es fs seen (node-listed node seen here text (kin-fresh seen path kids name kin n.0 n.1 (distinct_apart kids name ns d)) parts.0)
      (nodes-listed rest (push es seen) (kids ++ (name ∷ [])) (among-push (node_at path) es seen here) text (kin-node path name es seen kids good (node-below node) kin) (distinct_shift kids name ns ∙ d) parts.1)

pub root-listed : {xs : Spelt} {es : List Entry} → Root xs es → within es ≡ true → well_listed es ≡ true
unfolding path_text Own Kin Fresh
root-listed (a_root {p} {q} {r} {xs} {es} body) w =
    let s = (and_parts _ (each short (node_entry p root ∷ es)) w).1 in
    body-listed body (node_at root ∷ []) (among_first (node_at root) []) refl
    ((λ m e. let z : ◌≡◌ {A = Option Bytes} None (Some m) = ap (λ k. k.1) e in absurd (cc)), tt)
    (λ m pm lm new. (below-longer root m lm, tt)) s
