-- A node or a property put among others, or taken out. Assumes nothing.
use Rattle.std.proofs.Common.{◌≡◌, ℕ, ◌+◌, ◌-◌, ◌≤◌, true, cond, ◌&&◌, eqb, List, [], ◌∷◌, ◌++◌, length, refl, ap, ◌∙◌, subst, arith}
use Rattle.std.proofs.lemmas.Bool.{and_parts, and_from, leb-true, le-leb}
use Rattle.names.specs.Names.{node_name}
use Rattle.names.proofs.NameLaws.{node_names}
use Rattle.tree.specs.Places.{Bytes, node_at, property_at}
use Rattle.tape.specs.Nodes.{Node, Property, cut, height, step, ended, path_of, listed, spread, fits, fitting, shaped}
use Rattle.tape.specs.Tapes.{aside}
use Rattle.tape.proofs.Around.{root-parts}
use Rattle.tape.proofs.Finds.{fit_parts, fit-step, spread_join}
use Rattle.tape.proofs.Stems.{cut_all, cut_join, step_is}

fits_join : (s : Bytes) (xs ys : List Node) → fits (height s) xs ≡ true → fits (height (ended s xs)) ys ≡ true → fits (height s) (xs ++ ys) ≡ true
unfolding ended fits
fits_join s [] ys h k = k
fits_join s (n ∷ xs) ys h k =
    let f = fit-step s n xs h in
    let a = and_parts (fitting (height s) n) (fits n.depth xs) h in
    and_from (fitting (height s) n) (fits n.depth (xs ++ ys)) a.0 (subst (λ d. fits d (xs ++ ys) ≡ true) f.0 (fits_join (step s n) xs ys f.1 k))

-- other nodes behind the first ones
pub shaped_join : (n : Node) (xs ys : List Node) → shaped (n ∷ xs) ≡ true → fits (height (ended [] (n ∷ xs))) ys ≡ true → shaped (n ∷ (xs ++ ys)) ≡ true
unfolding ended height
shaped_join n xs ys h k =
    let r = root-parts n xs h in
    let a = and_parts (eqb n.depth 0 && eqb (length n.name) 0) (fits 0 xs) h in
    and_from _ (fits 0 (xs ++ ys)) a.0 (fits_join [] xs ys a.1 (subst (λ s. fits (height (ended s xs)) ys ≡ true) (r.3 []) k))

-- nodes that fit behind a node of depth d fit behind a deeper one
fits-deeper : (d e : ℕ) (ns : List Node) → d ≤ e → fits d ns ≡ true → fits e ns ≡ true
unfolding fits
fits-deeper d e [] l h = refl
fits-deeper d e (n ∷ ns) l h =
    let f = fit_parts d n ns h in
    let a = and_parts (fitting d n) (fits n.depth ns) h in
    and_from (fitting e n) (fits n.depth ns) (and_from _ _ (and_from _ _ (le-leb _ _ f.0) (le-leb _ _ (omega (arith, f.1)))) f.2) a.1

-- what comes next has the same places after either of two nodes, where its path starts alike
spread_alike : (s t : Bytes) (ns : List Node) → ((n : Node) (ms : List Node) → ns ≡ n ∷ ms → step s n ≡ step t n) → spread s ns ≡ spread t ns
unfolding spread
spread_alike s t [] h = refl
spread_alike s t (n ∷ ns) h =
    let e = h n ns refl in λ i. (node_at (path_of (e i)), []) ∷ (listed (path_of (e i)) n.properties ++ spread (e i) ns)

step_alike : (s t : Bytes) (n : Node) → cut (n.depth - 1) s ≡ cut (n.depth - 1) t → step s n ≡ step t n
unfolding step
step_alike s t n e = ap (λ x. cond (eqb n.depth 0) [] (x ++ (47 ∷ n.name))) e

abbrev pub fresh : Bytes → Bytes → Node
fresh q c = record { depth = height q + 1; name = c; properties = [] }

-- ---- a new node behind xs, as a child of the last of them

module _ (xs ys : List Node) (c : Bytes) (good : node_name c ≡ true) (behind : fits (height (ended [] xs)) ys ≡ true) where
  abbrev q : Bytes
  q = ended [] xs

  fresh_step : step q (fresh q c) ≡ q ++ (47 ∷ c)
  fresh_step =
      let z : height q + 1 - 1 ≡ height q = omega arith in
      step_is q (fresh q c) (omega arith) (omega arith) (node_names c good).0 ∙ ap (λ d. cut d q ++ (47 ∷ c)) z ∙ ap (λ t. t ++ (47 ∷ c)) (cut_all (height q) q (omega arith))

  same-behind : spread (step q (fresh q c)) ys ≡ spread q ys
  same-behind =
      spread_alike (step q (fresh q c)) q ys (λ n ms e.
      let f = fit_parts (height q) n ms (subst (λ t. fits (height q) t ≡ true) e behind) in
      step_alike (step q (fresh q c)) q n (ap (cut (n.depth - 1)) fresh_step ∙ cut_join (n.depth - 1) q c (omega (arith, f.1))))

  pub insert-spread : spread [] (xs ++ (fresh q c ∷ ys)) ≡ spread [] xs ++ ((node_at (path_of (q ++ (47 ∷ c))), []) ∷ spread q ys)
  unfolding spread listed
  insert-spread =
      spread_join [] xs (fresh q c ∷ ys) ∙ (λ i. spread [] xs ++ ((node_at (path_of (fresh_step i)), []) ∷ same-behind i))

  pub insert-fits : fits (height q) (fresh q c ∷ ys) ≡ true
  unfolding fits
  insert-fits =
      and_from (fitting (height q) (fresh q c)) (fits (height q + 1) ys) (and_from _ _ (and_from _ _ (le-leb 1 (height q + 1) (omega arith)) (le-leb (height q + 1) (height q + 1) (omega arith))) good) (fits-deeper (height q) (height q + 1) ys (omega arith) behind)

-- ---- a node without properties and children taken out

module _ (s : Bytes) (n : Node) (ys : List Node) (h : fits (height s) (n ∷ ys) ≡ true) (bare : n.properties ≡ []) (off : aside n.depth ys ≡ true) where
  off_head : (m : Node) (ms : List Node) → ys ≡ m ∷ ms → m.depth ≤ n.depth
  off_head m ms e = leb-true _ _ (subst (λ t. aside n.depth t ≡ true) e off)

  pub remove-behind : spread (step s n) ys ≡ spread s ys
  remove-behind =
      let b = fit_parts (height s) n ys h in
      let f = fit-step s n ys h in
      spread_alike (step s n) s ys (λ m ms e.
      let d = off_head m ms e in
      let l = fit_parts n.depth m ms (subst (λ t. fits n.depth t ≡ true) e b.3) in
      step_alike (step s n) s m (f.3 (m.depth - 1) (omega (arith, d, l.0))))

  pub remove-spread : spread s (n ∷ ys) ≡ (node_at (path_of (step s n)), []) ∷ spread s ys
  unfolding spread listed
  remove-spread = (λ i. (node_at (path_of (step s n)), []) ∷ (listed (path_of (step s n)) (bare i) ++ remove-behind i))

  remove-go : (zs : List Node) → ys ≡ zs → fits n.depth zs ≡ true → fits (height s) zs ≡ true
  unfolding fits
  remove-go [] e k = refl
  remove-go (m ∷ ms) e k =
      let d = off_head m ms e in
      let b = fit_parts (height s) n ys h in
      let f = fit_parts n.depth m ms k in
      and_from (fitting (height s) m) (fits m.depth ms) (and_from _ _ (and_from _ _ (le-leb _ _ f.0) (le-leb _ _ (omega (arith, d, b.1)))) f.2) f.3

  pub remove-fits : fits (height s) ys ≡ true
  remove-fits = remove-go ys refl (fit_parts (height s) n ys h).3

-- ---- other properties at a node

abbrev pub dressed : Node → List Property → Node
dressed n ps = record { depth = n.depth; name = n.name; properties = ps }

fits-dressed : (d : ℕ) (xs ys : List Node) (n : Node) (ps : List Property) → fits d (xs ++ (dressed n ps ∷ ys)) ≡ fits d (xs ++ (n ∷ ys))
unfolding fits
fits-dressed d [] ys n ps = refl
fits-dressed d (x ∷ xs) ys n ps = ap (λ b. fitting d x && b) (fits-dressed x.depth xs ys n ps)

pub shaped-dressed : (xs ys : List Node) (n : Node) (ps : List Property) → shaped (xs ++ (dressed n ps ∷ ys)) ≡ shaped (xs ++ (n ∷ ys))
shaped-dressed [] ys n ps = refl
shaped-dressed (x ∷ xs) ys n ps = ap (λ b. (eqb x.depth 0 && eqb (length x.name) 0) && b) (fits-dressed 0 xs ys n ps)

pub spread-dressed : (xs ys : List Node) (n : Node) (ps : List Property) → spread [] (xs ++ (dressed n ps ∷ ys)) ≡ spread [] xs ++ ((node_at (path_of (step (ended [] xs) n)), []) ∷ (listed (path_of (step (ended [] xs) n)) ps ++ spread (step (ended [] xs) n) ys))
unfolding spread step
spread-dressed xs ys n ps = spread_join [] xs (dressed n ps ∷ ys)

pub listed_join : (p : Bytes) (xs ys : List Property) → listed p (xs ++ ys) ≡ listed p xs ++ listed p ys
unfolding listed
listed_join p [] ys = refl
listed_join p (x ∷ xs) ys = ap (λ t. (property_at p x.0, x.1) ∷ t) (listed_join p xs ys)
