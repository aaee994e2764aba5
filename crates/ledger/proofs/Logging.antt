-- What the log says of a socket's line. Assumes nothing.
use Rattle.std.proofs.Common.{◌≡◌, ℕ, zero, suc, ◌+◌, Bool, true, false, cond, ◌&&◌, ◌||◌, eqb, ◌⊎◌, List, [], ◌∷◌, ◌++◌, length, drop, Some, None, sym, refl, ap, ◌∙◌, subst, inl, inr, ⊎_elim, arith}
use Rattle.std.proofs.lemmas.List.{append_assoc, append-nil, length-append, length-map}
use Rattle.std.proofs.lemmas.Bool.{cond-true, cond-false, eq-eqb, ne_eqb}
use Rattle.tree.specs.Entries.{same_place}
use Rattle.tree.specs.Places.{Place}
use Rattle.tree.specs.Trees.{Tree, Sound}
use Rattle.overlay_rules.specs.Records.{Note, put_back, restore, note_bytes, saved_bytes, written, wrote, touches}
use Rattle.ledger.specs.Ledgers.{Line, sum, Ledger, ledger_tree, blocker}
use Rattle.ledger.specs.Invariants.{count, Kept}
use Rattle.ledger.specs.Logs.{Logged, tagged, log, undone, others, wrote_by, scan, LogOf, LogLaws}
use Rattle.ledger.proofs.Keeping.{mine}
use Rattle.ledger.proofs.Restoring.{way}
use Rattle.ledger.proofs.Sockets.{Found, sum_join}
use Rattle.ledger.proofs.Unplugging.{touches_none}

pub log_join : (ks ls : List Line) → log (ks ++ ls) ≡ log ks ++ log ls
unfolding log
log_join [] ls = refl
log_join (k ∷ ks) ls = ap (λ z. tagged k.socket k.entries ++ z) (log_join ks ls) ∙ sym (append_assoc (tagged k.socket k.entries) (log ks) (log ls))

module _ (k : ℕ) where
  -- ---- the socket's own entries

  on : (n : Note) → eqb k k ≡ true
  on n = eq-eqb k k refl

  undone-own : (ns : List Note) (fs : List Logged) (t : Tree) → undone k (tagged k ns ++ fs) t ≡ restore ns (undone k fs t)
  unfolding undone restore
  undone-own [] fs t = refl
  undone-own (n ∷ ns) fs t = cond-true _ _ _ (on n) ∙ ap (put_back n.place n.mark) (undone-own ns fs t)

  others-own : (ns : List Note) (fs : List Logged) → others k (tagged k ns ++ fs) ≡ others k fs
  unfolding others
  others-own [] fs = refl
  others-own (n ∷ ns) fs = cond-true _ _ _ (on n) ∙ others-own ns fs

  wrote-own : (q : Place) (ns : List Note) (fs : List Logged) → wrote_by k q (tagged k ns ++ fs) ≡ (wrote ns q || wrote_by k q fs)
  wrote-own q [] fs = refl
  wrote-own q (n ∷ ns) fs =
      ap (λ b. (b && cond (written n.mark) (same_place n.place q) false) || wrote_by k q (tagged k ns ++ fs)) (on n)
      ∙ go (cond (written n.mark) (same_place n.place q) false) (wrote-own q ns fs)
    where
      go : (b : Bool) → wrote_by k q (tagged k ns ++ fs) ≡ (wrote ns q || wrote_by k q fs) → (b || wrote_by k q (tagged k ns ++ fs)) ≡ ((b || wrote ns q) || wrote_by k q fs)
      go true h = refl
      go false h = h

  scan-own : (xs : List Logged) (ns : List Note) (fs : List Logged) → scan k xs true (tagged k ns ++ fs) ≡ scan k xs true fs
  unfolding scan
  scan-own xs [] fs = refl
  scan-own xs (n ∷ ns) fs = cond-true _ _ _ (on n) ∙ scan-own xs ns fs

  -- ---- those of another

  module _ (j : ℕ) (n : j ≡ k → ⊥) where
    off : eqb j k ≡ false
    off = ne_eqb j k n

    undone-foreign : (ns : List Note) (fs : List Logged) (t : Tree) → undone k (tagged j ns ++ fs) t ≡ undone k fs t
    unfolding undone
    undone-foreign [] fs t = refl
    undone-foreign (x ∷ ns) fs t = cond-false _ _ _ off ∙ undone-foreign ns fs t

    others-foreign : (ns : List Note) (fs : List Logged) → others k (tagged j ns ++ fs) ≡ tagged j ns ++ others k fs
    unfolding others
    others-foreign [] fs = refl
    others-foreign (x ∷ ns) fs = cond-false _ _ _ off ∙ ap (λ z. (j, x) ∷ z) (others-foreign ns fs)

    wrote-foreign : (q : Place) (ns : List Note) (fs : List Logged) → wrote_by k q (tagged j ns ++ fs) ≡ wrote_by k q fs
    wrote-foreign q [] fs = refl
    wrote-foreign q (x ∷ ns) fs = ap (λ b. (b && cond (written x.mark) (same_place x.place q) false) || wrote_by k q (tagged j ns ++ fs)) off ∙ wrote-foreign q ns fs

    scan-foreign : (xs : List Logged) (ns : List Note) (fs : List Logged) → scan k xs false (tagged j ns ++ fs) ≡ scan k xs false fs
    unfolding scan
    scan-foreign xs [] fs = refl
    scan-foreign xs (x ∷ ns) fs = cond-false _ _ _ off ∙ scan-foreign xs ns fs

    -- behind k's entries, the first of these that touches what k wrote
    scan-later : (xs : List Logged) (ys ns : List Note) (fs : List Logged) → ((q : Place) → wrote_by k q xs ≡ wrote ys q) → scan k xs true (tagged j ns ++ fs) ≡ cond (touches ys ns) (Some j) (scan k xs true fs)
    unfolding scan
    scan-later xs ys [] fs h = refl
    scan-later xs ys (x ∷ ns) fs h =
        cond-false _ _ _ off ∙ ap (λ b. cond b (Some j) (scan k xs true (tagged j ns ++ fs))) (h x.place) ∙ go (wrote ys x.place) (scan-later xs ys ns fs h)
      where
        go : (b : Bool) → scan k xs true (tagged j ns ++ fs) ≡ cond (touches ys ns) (Some j) (scan k xs true fs) → cond b (Some j) (scan k xs true (tagged j ns ++ fs)) ≡ cond (b || touches ys ns) (Some j) (scan k xs true fs)
        go true i = refl
        go false i = i

  -- ---- lines of other sockets

  other : (l : Line) (ls : List Line) → count k (l ∷ ls) ≡ 0 → (l.socket ≡ k → ⊥) × (count k ls ≡ 0)
  unfolding count
  other l ls h = go (eqb l.socket k) refl h
    where
      go : (b : Bool) → eqb l.socket k ≡ b → cond b 1 0 + count k ls ≡ 0 → (l.socket ≡ k → ⊥) × (count k ls ≡ 0)
      go true e h = absurd (omega arith)
      go false e h = ((λ p. off-by p e), omega arith)
        where
          off-by : l.socket ≡ k → eqb l.socket k ≡ false → ⊥
          off-by p e = let z : true ≡ false = sym (eq-eqb l.socket k p) ∙ e in let y : ◌≡◌ {A = ℕ} 0 1 = cc in omega arith

  undone-lines : (ls : List Line) (fs : List Logged) (t : Tree) → count k ls ≡ 0 → undone k (log ls ++ fs) t ≡ undone k fs t
  unfolding log
  undone-lines [] fs t h = refl
  undone-lines (l ∷ ls) fs t h =
      let n = other l ls h in
      ap (λ z. undone k z t) (append_assoc (tagged l.socket l.entries) (log ls) fs) ∙ undone-foreign l.socket n.0 l.entries (log ls ++ fs) t ∙ undone-lines ls fs t n.1

  others-lines : (ls : List Line) (fs : List Logged) → count k ls ≡ 0 → others k (log ls ++ fs) ≡ log ls ++ others k fs
  unfolding log
  others-lines [] fs h = refl
  others-lines (l ∷ ls) fs h =
      let n = other l ls h in
      ap (others k) (append_assoc (tagged l.socket l.entries) (log ls) fs) ∙ others-foreign l.socket n.0 l.entries (log ls ++ fs) ∙ ap (λ z. tagged l.socket l.entries ++ z) (others-lines ls fs n.1) ∙ sym (append_assoc (tagged l.socket l.entries) (log ls) (others k fs))

  wrote-lines : (q : Place) (ls : List Line) (fs : List Logged) → count k ls ≡ 0 → wrote_by k q (log ls ++ fs) ≡ wrote_by k q fs
  unfolding log
  wrote-lines q [] fs h = refl
  wrote-lines q (l ∷ ls) fs h =
      let n = other l ls h in
      ap (wrote_by k q) (append_assoc (tagged l.socket l.entries) (log ls) fs) ∙ wrote-foreign l.socket n.0 q l.entries (log ls ++ fs) ∙ wrote-lines q ls fs n.1

  scan-lines : (xs : List Logged) (ls : List Line) (fs : List Logged) → count k ls ≡ 0 → scan k xs false (log ls ++ fs) ≡ scan k xs false fs
  unfolding log
  scan-lines xs [] fs h = refl
  scan-lines xs (l ∷ ls) fs h =
      let n = other l ls h in
      ap (scan k xs false) (append_assoc (tagged l.socket l.entries) (log ls) fs) ∙ scan-foreign l.socket n.0 xs l.entries (log ls ++ fs) ∙ scan-lines xs ls fs n.1

  scan-blocker : (xs : List Logged) (ys : List Note) (ls : List Line) → ((q : Place) → wrote_by k q xs ≡ wrote ys q) → count k ls ≡ 0 → scan k xs true (log ls) ≡ blocker ys ls
  unfolding log scan blocker
  scan-blocker xs ys [] w h = refl
  scan-blocker xs ys (l ∷ ls) w h =
      let n = other l ls h in
      scan-later l.socket n.0 xs ys l.entries (log ls) w ∙ ap (λ z. cond (touches ys l.entries) (Some l.socket) z) (scan-blocker xs ys ls w n.1)

  -- where nothing was written, nobody blocks
  idle-notes : (xs : List Logged) (j : ℕ) → (j ≡ k → ⊥) → (b : Bool) → ((q : Place) → wrote_by k q xs ≡ false) → (ns : List Note) (fs : List Logged) → scan k xs b (tagged j ns ++ fs) ≡ scan k xs b fs
  unfolding scan
  idle-notes xs j o b w [] fs = refl
  idle-notes xs j o b w (n ∷ ns) fs = cond-false _ _ _ (off j o) ∙ cond-false _ _ _ (ap (λ z. b && z) (w n.place) ∙ and_no b) ∙ idle-notes xs j o b w ns fs
    where
      and_no : (b : Bool) → (b && false) ≡ false
      and_no true = refl
      and_no false = refl

  scan-idle : (xs : List Logged) (ls : List Line) (b : Bool) → ((q : Place) → wrote_by k q xs ≡ false) → count k ls ≡ 0 → scan k xs b (log ls) ≡ None
  unfolding log scan
  scan-idle xs [] b w h = refl
  scan-idle xs (l ∷ ls) b w h = let n = other l ls h in idle-notes xs l.socket n.0 b w l.entries (log ls) ∙ scan-idle xs ls b w n.1

first-own : (k : ℕ) (xs : List Logged) (n : Note) (fs : List Logged) → scan k xs false ((k, n) ∷ fs) ≡ scan k xs true fs
unfolding scan
first-own k xs n fs = cond-true _ _ _ (eq-eqb k k refl)

undone-nil : (k : ℕ) (t : Tree) → undone k [] t ≡ t
unfolding undone
undone-nil k t = refl

drop-length : (ns : List Note) → drop (length ns) ns ≡ []
drop-length [] = refl
drop-length (n ∷ ns) = drop-length ns

-- an empty record has no blocker
idle-blocker : (ls : List Line) → blocker [] ls ≡ None
unfolding blocker
idle-blocker [] = refl
idle-blocker (l ∷ ls) = cond-false _ _ _ (idle l.entries) ∙ idle-blocker ls
  where
    idle : (ns : List Note) → touches [] ns ≡ false
    idle [] = refl
    idle (n ∷ ns) = idle ns

-- ---- the log of a ledger

or_nil : (b : Bool) → (b || false) ≡ b
or_nil true = refl
or_nil false = refl

-- what is left of entries behind the first i of two parts
drop-parts : (xs ys : List Logged) (i : ℕ) → ((j : ℕ) × (drop i (xs ++ ys) ≡ drop j xs ++ ys)) ⊎ ((j : ℕ) × (drop i (xs ++ ys) ≡ drop j ys))
drop-parts [] ys i = inr (i, refl)
drop-parts (x ∷ xs) ys zero = inl (0, refl)
drop-parts (x ∷ xs) ys (suc i) = ⊎_elim (λ a. inl (suc a.0, a.1)) (λ a. inr a) (drop-parts xs ys i)

drop-tagged : (k i : ℕ) (ns : List Note) → drop i (tagged k ns) ≡ tagged k (drop i ns)
drop-tagged k zero ns = refl
drop-tagged k (suc i) [] = refl
drop-tagged k (suc i) (n ∷ ns) = drop-tagged k i ns

-- the entries of other sockets alone change nothing, however many of them are left
undone_dropped : (k : ℕ) (ls : List Line) (i : ℕ) (fs : List Logged) (t : Tree) → count k ls ≡ 0 → undone k (drop i (log ls) ++ fs) t ≡ undone k fs t
unfolding log
undone_dropped k [] zero fs t h = refl
undone_dropped k [] (suc i) fs t h = refl
undone_dropped k (l ∷ ls) i fs t h =
    let n = other k l ls h in
    ⊎_elim
    (λ a. ap (λ z. undone k (z ++ fs) t) (a.1 ∙ ap (λ z. z ++ log ls) (drop-tagged l.socket a.0 l.entries)) ∙ ap (λ z. undone k z t) (append_assoc (tagged l.socket (drop a.0 l.entries)) (log ls) fs) ∙ undone-foreign k l.socket n.0 (drop a.0 l.entries) (log ls ++ fs) t ∙ undone-lines k ls fs t n.1)
    (λ a. ap (λ z. undone k (z ++ fs) t) a.1 ∙ undone_dropped k ls a.0 fs t n.1)
    (drop-parts (tagged l.socket l.entries) (log ls) i)

module _ (g : Ledger) (kept : Kept g) (k : ℕ) (f : Found k g.lines) where
  e : log g.lines ≡ log f.before ++ (tagged k f.mine.entries ++ log f.later)
  unfolding log
  e = ap log f.lines ∙ log_join f.before (f.mine ∷ f.later) ∙ ap (λ z. log f.before ++ (tagged z f.mine.entries ++ log f.later)) f.socket

  none_left : (t : Tree) → undone k (log f.later) t ≡ t
  unfolding undone
  none_left t = ap (λ z. undone k z t) (sym (append-nil (log f.later))) ∙ undone-lines k f.later [] t f.none_later

  undone-log : (t : Tree) → undone k (log g.lines) t ≡ restore f.mine.entries t
  undone-log t = ap (λ z. undone k z t) e ∙ undone-lines k f.before _ t f.none_before ∙ undone-own k f.mine.entries (log f.later) t ∙ ap (restore f.mine.entries) (none_left t)

  others-log : others k (log g.lines) ≡ log (f.before ++ f.later)
  unfolding others
  others-log =
      ap (others k) e ∙ others-lines k f.before _ f.none_before
      ∙ ap (λ z. log f.before ++ z) (others-own k f.mine.entries (log f.later) ∙ ap (others k) (sym (append-nil (log f.later))) ∙ others-lines k f.later [] f.none_later ∙ append-nil (log f.later))
      ∙ sym (log_join f.before f.later)

  wrote-log : (q : Place) → wrote_by k q (log g.lines) ≡ wrote f.mine.entries q
  wrote-log q =
      ap (wrote_by k q) e ∙ wrote-lines k q f.before _ f.none_before ∙ wrote-own k q f.mine.entries (log f.later)
      ∙ ap (λ b. wrote f.mine.entries q || b) (ap (wrote_by k q) (sym (append-nil (log f.later))) ∙ wrote-lines k q f.later [] f.none_later)
      ∙ or_nil (wrote f.mine.entries q)

  scan-log : scan k (log g.lines) false (log g.lines) ≡ blocker f.mine.entries f.later
  scan-log =
      ap (scan k (log g.lines) false) e ∙ scan-lines k (log g.lines) f.before _ f.none_before
      ∙ go f.mine.entries wrote-log
    where
      go : (ns : List Note) → ((q : Place) → wrote_by k q (log g.lines) ≡ wrote ns q) → scan k (log g.lines) false (tagged k ns ++ log f.later) ≡ blocker ns f.later
      go [] w = scan-idle k (log g.lines) f.later false w f.none_later ∙ sym (idle-blocker f.later)
      go (n ∷ ns) w = first-own k (log g.lines) n (tagged k ns ++ log f.later) ∙ scan-own k (log g.lines) ns (log f.later) ∙ scan-blocker k (log g.lines) (n ∷ ns) f.later w f.none_later

  -- the entries still to be put back are all of the line's, or its last ones, or none
  left : (i : ℕ) → (j : ℕ) × ((t : Tree) → undone k (drop i (log g.lines)) t ≡ restore (drop j f.mine.entries) t)
  unfolding restore
  left i = ⊎_elim
      (λ a. (0, λ t. ap (λ z. undone k z t) (ap (drop i) e ∙ a.1) ∙ undone_dropped k f.before a.0 _ t f.none_before ∙ undone-own k f.mine.entries (log f.later) t ∙ ap (restore f.mine.entries) (none_left t)))
      (λ a. ⊎_elim
      (λ b. (b.0, λ t. ap (λ z. undone k z t) (ap (drop i) e ∙ a.1 ∙ b.1 ∙ ap (λ z. z ++ log f.later) (drop-tagged k b.0 f.mine.entries)) ∙ undone-own k (drop b.0 f.mine.entries) (log f.later) t ∙ ap (restore (drop b.0 f.mine.entries)) (none_left t)))
      (λ b. (length f.mine.entries, λ t. ap (λ z. undone k z t) (ap (drop i) e ∙ a.1 ∙ b.1 ∙ sym (append-nil (drop b.0 (log f.later)))) ∙ undone_dropped k f.later b.0 [] t f.none_later ∙ undone-nil k t ∙ ap (λ z. restore z t) (sym (drop-length f.mine.entries))))
      (drop-parts (tagged k f.mine.entries) (log f.later) a.0))
      (drop-parts (log f.before) (tagged k f.mine.entries ++ log f.later) i)

  pub log-of : LogOf g k (f.before, f.mine, f.later)
  unfolding left
  log-of = record {
    is = f.at;
    restores = undone-log;
    way = λ n i. let l = left i in subst Sound (sym (l.1 (ledger_tree g))) (way g kept f.before f.mine f.later f.lines (touches_none f.mine f.later n) l.0);
    strikes = others-log;
    finds = scan-log;
  }

saved-tagged : (k : ℕ) (ns : List Note) → sum (λ (e : Logged). note_bytes e.1) (tagged k ns) ≡ saved_bytes ns
unfolding sum saved_bytes
saved-tagged k [] = refl
saved-tagged k (n ∷ ns) = ap (λ z. note_bytes n + z) (saved-tagged k ns)

log-length : (ls : List Line) → length (log ls) ≡ sum (λ l. length l.entries) ls
unfolding log sum
log-length [] = refl
log-length (l ∷ ls) = length-append (tagged l.socket l.entries) (log ls) ∙ (λ i. length-map {B = Logged} l.entries (λ n. (l.socket, n)) i + log-length ls i)

log-saved : (ls : List Line) → sum (λ (e : Logged). note_bytes e.1) (log ls) ≡ sum (λ l. saved_bytes l.entries) ls
unfolding log sum
log-saved [] = refl
log-saved (l ∷ ls) = sum_join (λ (e : Logged). note_bytes e.1) (tagged l.socket l.entries) (log ls) ∙ (λ i. saved-tagged l.socket l.entries i + log-saved ls i)

log-push : (ls : List Line) (l : Line) → log (ls ++ l ∷ []) ≡ log ls ++ tagged l.socket l.entries
unfolding log
log-push ls l = log_join ls (l ∷ []) ∙ ap (λ z. log ls ++ z) (append-nil (tagged l.socket l.entries))

pub log_laws : LogLaws
log_laws = record {
  line = λ g kept k o. let f = mine g kept k o in ((f.before, f.mine, f.later), log-of g kept k f);
  entries = log-length;
  saved = log-saved;
  push = log-push;
}
