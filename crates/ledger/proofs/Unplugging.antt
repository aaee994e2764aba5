-- An unplug of a held socket is granted exactly when no later line touches what its line wrote. Assumes nothing.
use Rattle.std.proofs.Common.{◌≡◌, ℕ, ◌≤◌, Bool, true, false, cond, List, [], ◌∷◌, ◌++◌, Some, None, Option, sym, refl, ap, ◌∙◌, subst, inl, inr, true≢false, arith}
use Rattle.std.proofs.lemmas.Bool.{cond-true, cond-false, le-ltb}
use Rattle.tree.specs.Entries.{same_place}
use Rattle.tree.specs.Places.{Place}
use Rattle.tree.proofs.Maps.{some-none, some_one}
use Rattle.tree.specs.Trees.{Tree}
use Rattle.tree.proofs.Listed.{same_self, same-only}
use Rattle.overlay_rules.specs.Laws.{In}
use Rattle.overlay_rules.specs.Plans.{Plan}
use Rattle.overlay_rules.specs.Records.{written, wrote, touches}
use Rattle.overlay_rules.proofs.Lists.{some-true, some_in}
use Rattle.ledger.specs.Ledgers.{Line, merge_all, room, held, Ledger, socket_at, Parts, parts, blocker, unplug, granted, refused, by_socket, no, strike_by, unplug_by, step}
use Rattle.ledger.specs.Invariants.{LineAt, Made, occupied, Kept}
use Rattle.ledger.specs.Promises.{CanBeDone, EachCanBeDone, Touches, NoneTouches, Earliest, Unplugs}
use Rattle.ledger.proofs.Sockets.{room-front}
use Rattle.ledger.proofs.Keeping.{mine}
use Rattle.ledger.proofs.Striking.{not-blocked}

written_at : (b : Bool) (k j : Place) → cond b (same_place k j) false ≡ true → (b ≡ true) × (k ≡ j)
written_at true k j h = (refl, same-only k j h)
written_at false k j h = absurd (true≢false (sym h))

pub touches-true : (x y : Line) → touches x.entries y.entries ≡ true → Touches y x
touches-true x y h =
    let a = some-true (λ n. wrote x.entries n.place) y.entries h in
    let b = some-true (λ m. cond (written m.mark) (same_place m.place a.0.place) false) x.entries a.2 in
    let c = written_at (written b.0.mark) b.0.place a.0.place b.2 in
    (a.0, b.0, a.1, b.1, c.0, sym c.1)

pub true-touches : (x y : Line) → Touches y x → touches x.entries y.entries ≡ true
true-touches x y (n, m, i, j, w, e) =
    some_in (λ n. wrote x.entries n.place) n y.entries i
    (some_in (λ m. cond (written m.mark) (same_place m.place n.place) false) m x.entries j
    (cond-true (written m.mark) _ _ w ∙ ap (same_place m.place) e ∙ same_self m.place))

pub not-touched : (x y : Line) → (Touches y x → ⊥) → touches x.entries y.entries ≡ false
not-touched x y n = go (touches x.entries y.entries) refl
  where
    go : (b : Bool) → touches x.entries y.entries ≡ b → touches x.entries y.entries ≡ false
    go true e = absurd (n (touches-true x y e))
    go false e = e

-- nobody blocks
pub free-none : (x : Line) (ls : List Line) → NoneTouches ls x → blocker x.entries ls ≡ None
unfolding blocker
free-none x [] n = refl
free-none x (l ∷ ls) n = cond-false _ _ _ (not-touched x l (n l (inl refl))) ∙ free-none x ls (λ y i. n y (inr i))

-- where nobody blocks, none touches
pub touches_none : (x : Line) (ls : List Line) → blocker x.entries ls ≡ None → NoneTouches ls x
touches_none x [] h y i t = i
touches_none x (l ∷ ls) h y (inl p) t = true≢false (sym (true-touches x l (subst (λ z. Touches z x) p t)) ∙ (not-blocked x.entries l ls h).0)
touches_none x (l ∷ ls) h y (inr i) t = touches_none x ls (not-blocked x.entries l ls h).1 y i t

-- the earliest blocks
first_blocks : (x : Line) (ys : List Line) (y : Line) (zs : List Line) → NoneTouches ys x → Touches y x → blocker x.entries (ys ++ (y ∷ zs)) ≡ Some y.socket
unfolding blocker
first_blocks x [] y zs n h = cond-true _ _ _ (true-touches x y h)
first_blocks x (w ∷ ys) y zs n h = cond-false _ _ _ (not-touched x w (n w (inl refl))) ∙ first_blocks x ys y zs (λ z i. n z (inr i)) h

-- who blocks is the earliest that touches
some_blocks : (x : Line) (ls : List Line) (j : ℕ) → blocker x.entries ls ≡ Some j → Earliest ls x j
unfolding blocker
some_blocks x [] j h = absurd (some-none j (sym h))
some_blocks x (l ∷ ls) j h = go (touches x.entries l.entries) refl (some_blocks x ls j) h
  where
    go : (b : Bool) → touches x.entries l.entries ≡ b → (blocker x.entries ls ≡ Some j → Earliest ls x j) → cond b (Some l.socket) (blocker x.entries ls) ≡ Some j → Earliest (l ∷ ls) x j
    go true e ih h = record { before = []; line = l; later = ls; lines = refl; none = λ y i. absurd i; touches = touches-true x l e; socket = some_one h }
    go false e ih h =
        let r = ih h in
        record {
          before = l ∷ r.before;
          line = r.line;
          later = r.later;
          lines = ap (λ z. l ∷ z) r.lines;
          none = λ y i t. first y r.before r.none i t;
          touches = r.touches;
          socket = r.socket;
        }
      where
        first : (y : Line) (ys : List Line) → NoneTouches ys x → In y (l ∷ ys) → Touches y x → ⊥
        first y ys n (inl p) t = true≢false (sym (true-touches x l (subst (λ z. Touches z x) p t)) ∙ e)
        first y ys n (inr i) t = n y i t

refused-granted : {c p : ℕ} → refused c p ≡ granted → ⊥
refused-granted e = let z : ◌≡◌ {A = ℕ} 0 1 = cc in omega arith

refused-one : {a b c d : ℕ} → refused a b ≡ refused c d → (c ≡ a) × (b ≡ d)
refused-one e = (cc, cc)

-- what an answer says of the blockers
strike-granted : (g : Ledger) (k : ℕ) (p : Parts) (o : Option ℕ) → (strike_by g k p o).0 ≡ granted → o ≡ None
strike-granted g k p None h = refl
strike-granted g k p (Some j) h = absurd (refused-granted h)

strike-refused : (g : Ledger) (k : ℕ) (p : Parts) (o : Option ℕ) (c j : ℕ) → (strike_by g k p o).0 ≡ refused c j → (c ≡ 40) × (o ≡ Some j)
strike-refused g k p None c j h = absurd (refused-granted (sym h))
strike-refused g k p (Some i) c j h = let x = refused-one h in (x.0, ap Some x.1)

pub unplugs : (g : Ledger) → Kept g → (n k : ℕ) → 4096 ≤ n → socket_at g k ≡ held → Unplugs g n k
unfolding step
unplugs g kept n k long s =
    let f = mine g kept k (ap occupied s) in
    let e : step g (unplug n k) ≡ strike_by g k (f.before, f.mine, f.later) (blocker f.mine.entries f.later) =
    cond-false _ _ _ (le-ltb n 4096 long)
    ∙ ap (λ q. by_socket q (no g 39 k) (unplug_by g k (parts k g.lines)) (no g 39 k)) s
    ∙ ap (unplug_by g k) f.at in
    record {
      before = f.before;
      mine = f.mine;
      later = f.later;
      lines = f.lines;
      socket = f.socket;
      free = λ h. ap (λ z. z.0) (e ∙ ap (strike_by g k (f.before, f.mine, f.later)) (free-none f.mine f.later h));
      free_only = λ h. touches_none f.mine f.later (strike-granted g k (f.before, f.mine, f.later) (blocker f.mine.entries f.later) (sym (ap (λ z. z.0) e) ∙ h));
      blocked_only = λ c j h.
          let x = strike-refused g k (f.before, f.mine, f.later) (blocker f.mine.entries f.later) c j (sym (ap (λ z. z.0) e) ∙ h) in
          (x.0, some_blocks f.mine f.later j x.1);
      blocked = λ ys y zs q h w. ap (λ z. z.0) (e ∙ ap (λ z. strike_by g k (f.before, f.mine, f.later) (blocker f.mine.entries z)) q ∙ ap (strike_by g k (f.before, f.mine, f.later)) (first_blocks f.mine ys y zs h w));
    }

-- ---- each merge can be done

pub made_at : (ks : List Line) (t : Tree) (l : Line) (ls : List Line) → Made t (ks ++ (l ∷ ls)) → (p : Plan) × LineAt (merge_all t ks) l p
unfolding Made merge_all
made_at [] t l ls m = m.0
made_at (k ∷ ks) t l ls m = made_at ks _ l ls m.1

pub made-behind : (ks : List Line) (t : Tree) (ls : List Line) → Made t (ks ++ ls) → Made (merge_all t ks) ls
unfolding Made merge_all
made-behind [] t ls m = m
made-behind (k ∷ ks) t ls m = made-behind ks _ ls m.1

cons_append : (ks : List Line) (l : Line) (ls : List Line) → ks ++ (l ∷ ls) ≡ (ks ++ l ∷ []) ++ ls
cons_append [] l ls = refl
cons_append (k ∷ ks) l ls = ap (λ z. k ∷ z) (cons_append ks l ls)

pub can_be_done : (base : Tree) (lines : List Line) → Made base lines → room base lines ≡ true → (before : List Line) (l : Line) (later : List Line) → lines ≡ before ++ (l ∷ later) → CanBeDone base before l
can_be_done base lines made fits before l later e =
    let x = made_at before base l later (subst (Made base) e made) in
    record {
      plan = x.0;
      merges = x.1.merges;
      entries = x.1.entries;
      share = x.1.share;
      fits = room-front base (before ++ l ∷ []) later (subst (λ z. room base z ≡ true) (e ∙ cons_append before l later) fits);
    }

pub each_can_be_done : (g : Ledger) → Kept g → EachCanBeDone g
each_can_be_done g kept = can_be_done g.base g.lines kept.made kept.fits
