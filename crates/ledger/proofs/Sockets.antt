-- Lines of a socket: how many, and which. Assumes nothing.
use Rattle.std.proofs.Common.{◌≡◌, ℕ, ◌+◌, ◌<◌, ◌≤◌, Bool, true, false, cond, ◌&&◌, eqb, leb, List, [], ◌∷◌, ◌++◌, length, get_or, set, Some, sym, refl, ap, ◌∙◌, ⊎_elim, arith}
use Rattle.std.proofs.lemmas.List.{get_or-set_same, get_or-set_other}
use Rattle.std.proofs.lemmas.Bool.{eq-eqb, ne_eqb, eqb-true, cond-true, cond-false, cases_eq, and_parts, and_from, leb-true, le-leb}
use Rattle.tree.specs.Trees.{Tree, nodes, properties, weight}
use Rattle.overlay_rules.specs.Records.{saved_bytes}
use Rattle.ledger.specs.Ledgers.{Line, sum, room, Socket, empty, after, parts, max_nodes, max_properties, max_weight, max_entries, max_saved}
use Rattle.ledger.specs.Invariants.{count, occupied}

pub count_join : (k : ℕ) (ks ls : List Line) → count k (ks ++ ls) ≡ count k ks + count k ls
unfolding count
count_join k [] ls = omega arith
count_join k (l ∷ ks) ls = omega (arith, count_join k ks ls)

pub count-other : (j : ℕ) (l : Line) (ls : List Line) → (j ≡ l.socket → ⊥) → count j (l ∷ ls) ≡ count j ls
unfolding count
count-other j l ls n = ap (λ b. cond b 1 0 + count j ls) (ne_eqb l.socket j (λ e. n (sym e))) ∙ omega arith

pub count-own : (l : Line) (ls : List Line) → count l.socket (l ∷ ls) ≡ 1 + count l.socket ls
unfolding count
count-own l ls = ap (λ b. cond b 1 0 + count l.socket ls) (eq-eqb l.socket l.socket refl)

pub count_none : (k : ℕ) → count k [] ≡ 0
unfolding count
count_none k = refl

-- the one line of an occupied socket
pub record Found (k : ℕ) (ls : List Line) : Type 0 where
  pub before : List Line
  pub mine : Line
  pub later : List Line
  pub at : parts k ls ≡ Some (before, mine, later)
  pub lines : ls ≡ before ++ (mine ∷ later)
  pub socket : mine.socket ≡ k
  pub none_before : count k before ≡ 0
  pub none_later : count k later ≡ 0

pub found : (k : ℕ) (ls : List Line) → count k ls ≡ 1 → Found k ls
unfolding count parts
found k [] h = absurd (omega arith)
found k (l ∷ ls) h = go (eqb l.socket k) refl h (found k ls)
  where
    go : (b : Bool) → eqb l.socket k ≡ b → cond b 1 0 + count k ls ≡ 1 → (count k ls ≡ 1 → Found k ls) → Found k (l ∷ ls)
    go true e h f = record {
      before = [];
      mine = l;
      later = ls;
      at = cond-true _ _ _ e;
      lines = refl;
      socket = eqb-true _ _ e;
      none_before = refl;
      none_later = omega arith;
    }
    go false e h f =
        let g = f (omega arith) in
        record {
          before = l ∷ g.before;
          mine = g.mine;
          later = g.later;
          at = cond-false _ _ _ e ∙ ap (after l) g.at;
          lines = ap (λ z. l ∷ z) g.lines;
          socket = g.socket;
          none_before = ap (λ b. cond b 1 0 + count k g.before) e ∙ omega (arith, g.none_before);
          none_later = g.none_later;
        }

-- sockets and lines are tied again after a call
pub tied_again : (ss : List Socket) (k : ℕ) (q : Socket) (old new : List Line) → k < length ss → count k new ≡ occupied q → ((j : ℕ) → (j ≡ k → ⊥) → count j new ≡ count j old) → ((j : ℕ) → count j old ≡ occupied (get_or ss j empty)) → (j : ℕ) → count j new ≡ occupied (get_or (set ss k q) j empty)
tied_again ss k q old new l h n t j = ⊎_elim
    (λ e. ap (λ z. count z new) e ∙ h ∙ ap occupied (sym (get_or-set_same ss k q empty l)) ∙ ap (λ z. occupied (get_or (set ss k q) z empty)) (sym e))
    (λ e. n j e ∙ t j ∙ ap occupied (sym (get_or-set_other ss k j q empty e)))
    (cases_eq j k)

-- ---- sums

pub sum_join : {A : Type 0} (f : A → ℕ) (xs ys : List A) → sum f (xs ++ ys) ≡ sum f xs + sum f ys
unfolding sum
sum_join f [] ys = omega arith
sum_join f (x ∷ xs) ys = omega (arith, sum_join f xs ys)

sum_less : {A : Type 0} (f : A → ℕ) (xs : List A) (x : A) (ys : List A) → sum f (xs ++ ys) ≤ sum f (xs ++ (x ∷ ys))
unfolding sum
sum_less f xs x ys = omega (arith, sum_join f xs ys, sum_join f xs (x ∷ ys))

sum-front : {A : Type 0} (f : A → ℕ) (xs ys : List A) → sum f xs ≤ sum f (xs ++ ys)
sum-front f xs ys = omega (arith, sum_join f xs ys)

-- a limit that holds of more holds of less
le_less : (a b c m : ℕ) → b ≤ c → leb (a + c) m ≡ true → leb (a + b) m ≡ true
le_less a b c m h e = le-leb _ _ (omega (arith, leb-true _ _ e))

le_less0 : (b c m : ℕ) → b ≤ c → leb c m ≡ true → leb b m ≡ true
le_less0 b c m h e = le-leb _ _ (omega (arith, leb-true _ _ e))

-- room is a limit on five sums over the lines
pub record Roomy (base : Tree) (ls : List Line) : Type 0 where
  pub nodes : leb (nodes base.places + sum (λ l. l.share.nodes) ls) max_nodes ≡ true
  pub properties : leb (properties base.places + sum (λ l. l.share.properties) ls) max_properties ≡ true
  pub weight : leb (weight base.places + sum (λ l. l.share.weight) ls) max_weight ≡ true
  pub entries : leb (sum (λ l. length l.entries) ls) max_entries ≡ true
  pub saved : leb (sum (λ l. saved_bytes l.entries) ls) max_saved ≡ true

pub room-is : (base : Tree) (ls : List Line) → room base ls ≡ true → Roomy base ls
unfolding room
room-is base ls h =
    let N = leb (nodes base.places + sum (λ l. l.share.nodes) ls) max_nodes in
    let P = leb (properties base.places + sum (λ l. l.share.properties) ls) max_properties in
    let W = leb (weight base.places + sum (λ l. l.share.weight) ls) max_weight in
    let E = leb (sum (λ l. length l.entries) ls) max_entries in
    let S = leb (sum (λ l. saved_bytes l.entries) ls) max_saved in
    let a = and_parts (N && (P && W)) (E && S) h in
    let b = and_parts N (P && W) a.0 in
    let c = and_parts P W b.1 in
    let d = and_parts E S a.1 in
    record { nodes = b.0; properties = c.0; weight = c.1; entries = d.0; saved = d.1 }

pub is-room : (base : Tree) (ls : List Line) → Roomy base ls → room base ls ≡ true
unfolding room
is-room base ls r = and_from _ _ (and_from _ _ r.nodes (and_from _ _ r.properties r.weight)) (and_from _ _ r.entries r.saved)

-- fewer lines need less
fewer-room : (base : Tree) (ks ls : List Line) → ((f : Line → ℕ) → sum f ks ≤ sum f ls) → room base ls ≡ true → room base ks ≡ true
fewer-room base ks ls h r =
    let x = room-is base ls r in
    is-room base ks (record {
      nodes = le_less _ _ _ _ (h (λ l. l.share.nodes)) x.nodes;
      properties = le_less _ _ _ _ (h (λ l. l.share.properties)) x.properties;
      weight = le_less _ _ _ _ (h (λ l. l.share.weight)) x.weight;
      entries = le_less0 _ _ _ (h (λ l. length l.entries)) x.entries;
      saved = le_less0 _ _ _ (h (λ l. saved_bytes l.entries)) x.saved;
    })

pub room-struck : (base : Tree) (ks : List Line) (l : Line) (ls : List Line) → room base (ks ++ (l ∷ ls)) ≡ true → room base (ks ++ ls) ≡ true
room-struck base ks l ls = fewer-room base (ks ++ ls) (ks ++ (l ∷ ls)) (λ f. sum_less f ks l ls)

pub room-front : (base : Tree) (ks ls : List Line) → room base (ks ++ ls) ≡ true → room base ks ≡ true
room-front base ks ls = fewer-room base ks (ks ++ ls) (λ f. sum-front f ks ls)
