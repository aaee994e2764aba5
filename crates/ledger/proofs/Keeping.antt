-- Every call keeps what is kept of a ledger. Assumes nothing.
use Rattle.std.proofs.Common.{◌≡◌, ℕ, ◌+◌, ◌<◌, ◌≤◌, Bool, true, false, cond, ◌&&◌, ltb, leb, List, [], ◌∷◌, ◌++◌, length, get_or, replicate, Some, None, Ok, Err, Option, Result, sym, refl, ap, ◌∙◌, subst, ⊎_elim, arith, lit≤}
use Rattle.std.specs.List.{AllByRecursion}
use Rattle.std.proofs.lemmas.List.{length-set, length-replicate, get_or-replicate, get_or_past}
use Rattle.std.proofs.lemmas.Bool.{ltb-false, cases_lt, and_parts, leb-true, le-leb}
use Rattle.tree.specs.Entries.{Entry}
use Rattle.tree.specs.Phandles.{phandle_rule, largest_phandle}
use Rattle.tree.specs.Places.{Bytes, node_at}
use Rattle.tree.specs.Trees.{Tree, look, Sound, nodes, properties, weight}
use Rattle.overlay_rules.specs.Checks.{Refusal}
use Rattle.overlay_rules.specs.Laws.{Rising, Unique}
use Rattle.overlay_rules.specs.Overlays.{overlay_of, symbols_path}
use Rattle.overlay_rules.specs.Plans.{Plan, apply}
use Rattle.overlay_rules.specs.Queries.{run}
use Rattle.overlay_rules.proofs.Checking.{passed}
use Rattle.overlay_rules.proofs.Looks.{rule-unique, at-most_largest}
use Rattle.overlay_rules.proofs.Planning.{plan-is}
use Rattle.overlay_rules.proofs.Rules.{keeps_unique}
use Rattle.ledger.specs.Ledgers.{plan_at, merge_all, sum, room, Socket, empty, held, shelved, Ledger, ledger_tree, fresh, socket_at, Parts, parts, blocker, Call, opening, plug, unplug, hand_over, take_back, receipt, granted, by_socket, no, turned, line, plug_by, plug_in, strike_by, unplug_by, step, State, closed, opened, open_by, closed_call, call, history, add_by}
use Rattle.ledger.specs.Invariants.{Fit, FitCall, LineAt, Made, count, occupied, Kept}
use Rattle.ledger.proofs.Sockets.{count_join, count-other, count-own, count_none, Found, found, tied_again, is-room, room-struck}
use Rattle.ledger.proofs.Striking.{merge-is, rises-all, struck, made-push, all_push}

-- ---- opening

open_socket : (k : ℕ) → get_or (replicate 16 empty) k empty ≡ empty
open_socket k = ⊎_elim
    (λ h. get_or-replicate 16 k empty empty h)
    (λ h. get_or_past (replicate 16 empty) k empty (omega (arith, length-replicate 16 empty)))
    (cases_lt k 16)

le_zero : (a m n : ℕ) → leb a m ≡ true → m ≤ n → leb (a + 0) n ≡ true
le_zero a m n h l = le-leb _ _ (omega (arith, leb-true a m h))

pub fresh_kept : (t : Tree) (v : Bytes) → Sound t → phandle_rule t ≡ true → look t (node_at symbols_path) ≡ Some v → Kept (fresh t)
unfolding Made merge_all sum
fresh_kept t v s r h =
    let a = and_parts (leb (nodes t.places) 256) (leb (properties t.places) 1024 && leb (weight t.places) 24576) s.roomy in
    let b = and_parts (leb (properties t.places) 1024) (leb (weight t.places) 24576) a.1 in
    record {
      sound = s;
      rule = r;
      symbols = h ∙ ap Some (s.bare symbols_path v h);
      made = tt;
      lawful = rule-unique t r;
      fits = is-room t [] (record { nodes = le_zero _ 256 _ a.0 (lit≤ tt); properties = le_zero _ 1024 _ b.0 (lit≤ tt); weight = le_zero _ 24576 _ b.1 (lit≤ tt); entries = refl; saved = refl });
      sixteen = length-replicate 16 empty;
      tied = λ k. count_none k ∙ ap occupied (sym (open_socket k));
    }

-- ---- the calls

module _ (g : Ledger) (kept : Kept g) where
  rising : Rising (ledger_tree g)
  rising = rises-all g.lines g.base kept.sound.rises

  -- one more line
  pub plug-kept : (k : ℕ) (es : List Entry) (p : Plan) → Fit es → k < 16 → socket_at g k ≡ empty → run (ledger_tree g) (plan_at es (largest_phandle (ledger_tree g))) ≡ Ok p
      → room g.base (g.lines ++ line k es (largest_phandle (ledger_tree g)) (ledger_tree g) p ∷ []) ≡ true
      → Kept (turned g k held (g.lines ++ line k es (largest_phandle (ledger_tree g)) (ledger_tree g) p ∷ []))
  unfolding rising
  plug-kept k es p f small q h r =
      let t = ledger_tree g in
      let d = largest_phandle t in
      let l = line k es d t p in
      let m : LineAt t l p = record { fit = f; merges = h; entries = refl; share = refl; lawful = kept.lawful } in
      let e : merge_all g.base (g.lines ++ l ∷ []) ≡ apply p.writes t = all_push g.lines g.base l ∙ merge-is t l p m in
      let sixteen = kept.sixteen in
      let lt : k < length g.sockets = omega arith in
      let u = keeps_unique t es d p (passed es f.1) (plan-is t (overlay_of es) d p h) rising kept.lawful (λ a w. at-most_largest t a w) in
      record {
        sound = kept.sound;
        rule = kept.rule;
        symbols = kept.symbols;
        made = made-push g.lines g.base l p kept.made m;
        lawful = subst Unique (sym e) u;
        fits = r;
        sixteen = length-set g.sockets k held ∙ sixteen;
        tied = tied_again g.sockets k held g.lines (g.lines ++ l ∷ []) lt
            (count_join k g.lines (l ∷ []) ∙ (λ i. (kept.tied k ∙ ap occupied q) i + (count-own l [] ∙ ap (λ z. 1 + z) (count_none k)) i))
            (λ j n. count_join j g.lines (l ∷ []) ∙ ap (λ z. count j g.lines + z) (count-other j l [] n ∙ count_none j) ∙ omega arith)
            kept.tied;
      }

  -- the line of a socket that is not empty
  pub mine : (k : ℕ) → occupied (socket_at g k) ≡ 1 → Found k g.lines
  mine k h = found k g.lines (kept.tied k ∙ h)

  small_socket : (k : ℕ) → occupied (socket_at g k) ≡ 1 → k < length g.sockets
  small_socket k h = ⊎_elim
      (λ a. a)
      (λ a. let z : ◌≡◌ {A = ℕ} 0 1 = ap occupied (sym (get_or_past g.sockets k empty a)) ∙ h in absurd (omega arith))
      (cases_lt k (length g.sockets))

  -- the line struck
  pub strike_kept : (k : ℕ) (f : Found k g.lines) → occupied (socket_at g k) ≡ 1 → blocker f.mine.entries f.later ≡ None → Kept (turned g k empty (f.before ++ f.later))
  strike_kept k f h n =
      let x = f.mine in
      let m = subst (Made g.base) f.lines kept.made in
      let s = struck f.before g.base x f.later kept.sound.rises n m in
      let e = ap (merge_all g.base) f.lines in
      let u : Unique (merge_all g.base (f.before ++ (x ∷ f.later))) = subst Unique e kept.lawful in
      record {
        sound = kept.sound;
        rule = kept.rule;
        symbols = kept.symbols;
        made = s.made;
        lawful = λ a b v w y z. u a b v w (s.fewer a v y) (s.fewer b w z);
        fits = room-struck g.base f.before x f.later (subst (λ z. room g.base z ≡ true) f.lines kept.fits);
        sixteen = length-set g.sockets k empty ∙ kept.sixteen;
        tied = tied_again g.sockets k empty g.lines (f.before ++ f.later) (small_socket k h)
            (count_join k f.before f.later ∙ (λ i. f.none_before i + f.none_later i))
            (λ j o.
            let y : j ≡ x.socket → ⊥ = λ p. o (p ∙ f.socket) in
            count_join j f.before f.later ∙ ap (λ z. count j f.before + z) (sym (count-other j x f.later y)) ∙ sym (count_join j f.before (x ∷ f.later)) ∙ ap (count j) (sym f.lines))
            kept.tied;
      }

  -- a socket changes hands
  turn_kept : (k : ℕ) (q : Socket) → occupied (socket_at g k) ≡ 1 → occupied q ≡ 1 → Kept (turned g k q g.lines)
  turn_kept k q h o = record {
    sound = kept.sound;
    rule = kept.rule;
    symbols = kept.symbols;
    made = kept.made;
    lawful = kept.lawful;
    fits = kept.fits;
    sixteen = length-set g.sockets k q ∙ kept.sixteen;
    tied = tied_again g.sockets k q g.lines g.lines (small_socket k h) (kept.tied k ∙ h ∙ sym o) (λ j n. refl) kept.tied;
  }

  plug_by_kept : (k : ℕ) (es : List Entry) → Fit es → k < 16 → socket_at g k ≡ empty → (o : Result Plan Refusal) → run (ledger_tree g) (plan_at es (largest_phandle (ledger_tree g))) ≡ o
      → Kept (plug_by g k es (largest_phandle (ledger_tree g)) (ledger_tree g) o).1
  plug_by_kept k es f small q (Err e) h = kept
  plug_by_kept k es f small q (Ok p) h = go (room g.base (g.lines ++ line k es (largest_phandle (ledger_tree g)) (ledger_tree g) p ∷ [])) refl
    where
      go : (b : Bool) → room g.base (g.lines ++ line k es (largest_phandle (ledger_tree g)) (ledger_tree g) p ∷ []) ≡ b → Kept (add_by g k (largest_phandle (ledger_tree g)) (line k es (largest_phandle (ledger_tree g)) (ledger_tree g) p) b).1
      go true r = plug-kept k es p f small q h r
      go false r = kept

  strike_by_kept : (k : ℕ) (f : Found k g.lines) → occupied (socket_at g k) ≡ 1 → (o : Option ℕ) → blocker f.mine.entries f.later ≡ o → Kept (strike_by g k (f.before, f.mine, f.later) o).1
  strike_by_kept k f h (Some j) n = kept
  strike_by_kept k f h None n = strike_kept k f h n

  pub step_kept : (c : Call) → FitCall c → Kept (step g c).1
  unfolding step
  step_kept opening f = kept
  step_kept (plug n k es) f = go (ltb n 4096) (ltb 15 k) refl (socket_at g k) refl
    where
      go : (a b : Bool) → ltb 15 k ≡ b → (q : Socket) → socket_at g k ≡ q
          → Kept (cond a (no g 55 0) (cond b (no g 30 k) (by_socket q (plug_in g k es (ledger_tree g)) (no g 31 k) (no g 31 k)))).1
      go true b e q s = kept
      go false true e q s = kept
      go false false e empty s = let h = ltb-false 15 k e in plug_by_kept k es f (omega arith) s (run (ledger_tree g) (plan_at es (largest_phandle (ledger_tree g)))) refl
      go false false e held s = kept
      go false false e shelved s = kept
  step_kept (unplug n k) f = go (ltb n 4096) (socket_at g k) refl
    where
      go : (a : Bool) (q : Socket) → socket_at g k ≡ q → Kept (cond a (no g 55 0) (by_socket q (no g 39 k) (unplug_by g k (parts k g.lines)) (no g 39 k))).1
      go true q s = kept
      go false empty s = kept
      go false held s =
          let o = ap occupied s in
          let x = mine k o in
          subst (λ z. Kept (unplug_by g k z).1) (sym x.at) (strike_by_kept k x o (blocker x.mine.entries x.later) refl)
      go false shelved s = kept
  step_kept (hand_over k) f = go (socket_at g k) refl
    where
      go : (q : Socket) → socket_at g k ≡ q → Kept (by_socket q (no g 39 k) (granted, turned g k shelved g.lines) (no g 39 k)).1
      go empty s = kept
      go held s = turn_kept k shelved (ap occupied s) refl
      go shelved s = kept
  step_kept (take_back k) f = go (ltb 15 k) (socket_at g k) refl
    where
      go : (a : Bool) (q : Socket) → socket_at g k ≡ q → Kept (cond a (no g 30 k) (by_socket q (no g 41 k) (no g 41 k) (receipt k, turned g k held g.lines))).1
      go true q s = kept
      go false empty s = kept
      go false held s = kept
      go false shelved s = turn_kept k held (ap occupied s) refl

-- ---- histories

-- the base of a ledger never changes
pub step-base : (g : Ledger) (c : Call) → (step g c).1.base ≡ g.base
unfolding step
step-base g opening = refl
step-base g (plug n k es) = go (ltb n 4096) (ltb 15 k) (socket_at g k)
  where
    by : (o : Result Plan Refusal) → (plug_by g k es (largest_phandle (ledger_tree g)) (ledger_tree g) o).1.base ≡ g.base
    by (Err e) = refl
    by (Ok p) = added (room g.base (g.lines ++ line k es (largest_phandle (ledger_tree g)) (ledger_tree g) p ∷ []))
      where
        added : (b : Bool) → (add_by g k (largest_phandle (ledger_tree g)) (line k es (largest_phandle (ledger_tree g)) (ledger_tree g) p) b).1.base ≡ g.base
        added true = refl
        added false = refl

    go : (a b : Bool) (q : Socket) → (cond a (no g 55 0) (cond b (no g 30 k) (by_socket q (plug_in g k es (ledger_tree g)) (no g 31 k) (no g 31 k)))).1.base ≡ g.base
    go true b q = refl
    go false true q = refl
    go false false empty = by (run (ledger_tree g) (plan_at es (largest_phandle (ledger_tree g))))
    go false false held = refl
    go false false shelved = refl
step-base g (unplug n k) = go (ltb n 4096) (socket_at g k)
  where
    strike : (p : Parts) (o : Option ℕ) → (strike_by g k p o).1.base ≡ g.base
    strike p (Some j) = refl
    strike p None = refl

    by : (o : Option Parts) → (unplug_by g k o).1.base ≡ g.base
    by None = refl
    by (Some p) = strike p (blocker p.1.entries p.2)

    go : (a : Bool) (q : Socket) → (cond a (no g 55 0) (by_socket q (no g 39 k) (unplug_by g k (parts k g.lines)) (no g 39 k))).1.base ≡ g.base
    go true q = refl
    go false empty = refl
    go false held = by (parts k g.lines)
    go false shelved = refl
step-base g (hand_over k) = go (socket_at g k)
  where
    go : (q : Socket) → (by_socket q (no g 39 k) (granted, turned g k shelved g.lines) (no g 39 k)).1.base ≡ g.base
    go empty = refl
    go held = refl
    go shelved = refl
step-base g (take_back k) = go (ltb 15 k) (socket_at g k)
  where
    go : (a : Bool) (q : Socket) → (cond a (no g 30 k) (by_socket q (no g 41 k) (no g 41 k) (receipt k, turned g k held g.lines))).1.base ≡ g.base
    go true q = refl
    go false empty = refl
    go false held = refl
    go false shelved = refl

-- a state over the tree t: closed, or a ledger on it that is kept
abbrev pub StateOf : Tree → State → Type 0
StateOf t (closed u) = u ≡ t
StateOf t (opened g) = (g.base ≡ t) × Kept g

open_kept : (t : Tree) → Sound t → (b : Bool) → phandle_rule t ≡ b → (w : Option Bytes) → look t (node_at symbols_path) ≡ w → StateOf t (open_by t b w).1
open_kept t s false r w h = refl
open_kept t s true r None h = refl
open_kept t s true r (Some v) h = let k : StateOf t (opened (fresh t)) = (refl, fresh_kept t v s r h) in k

closed-kept : (t u : Tree) → Sound t → (c : Call) → u ≡ t → StateOf t (closed_call u c).1
closed-kept t u s opening e = subst (λ z. StateOf t (closed_call z opening).1) (sym e) (open_kept t s (phandle_rule t) refl (look t (node_at symbols_path)) refl)
closed-kept t u s (plug n k es) e = e
closed-kept t u s (unplug n k) e = e
closed-kept t u s (hand_over k) e = e
closed-kept t u s (take_back k) e = e

pub call_kept : (t : Tree) → Sound t → (b : State) (c : Call) → FitCall c → StateOf t b → StateOf t (call b c).1
call_kept t s (closed u) c f h = closed-kept t u s c h
call_kept t s (opened g) c f h = (step-base g c ∙ h.0, step_kept g h.1 c f)

pub history-kept : (t : Tree) → Sound t → (cs : List Call) (b : State) → AllByRecursion FitCall cs → StateOf t b → StateOf t (history b cs)
unfolding history
history-kept t s [] b f h = h
history-kept t s (c ∷ cs) b f h = history-kept t s cs (call b c).1 f.1 (call_kept t s b c f.0 h)
