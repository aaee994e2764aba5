-- The log: the record entries of all lines in plugging order, each with its line's socket. Assumes nothing.
use Rattle.std.specs.Prelude.{◌≡◌, ℕ, Bool, true, false, cond, ◌&&◌, List, [], ◌∷◌, ◌++◌, map, length, drop, Some, None, Option, ◌==◌}
use Rattle.tree.specs.Entries.{some, same_place}
use Rattle.tree.specs.Places.{Place}
use Rattle.tree.specs.Trees.{Tree, Sound}
use Rattle.overlay_rules.specs.Records.{Note, put_back, restore, note_bytes, saved_bytes, written}
use Rattle.ledger.specs.Ledgers.{Line, sum, Ledger, ledger_tree, socket_at, Parts, parts, blocker}
use Rattle.ledger.specs.Invariants.{occupied, Kept}

abbrev pub Logged : Type 0
Logged = ℕ × Note

abbrev pub tagged : ℕ → List Note → List Logged
tagged k ns = map (λ n. (k, n)) ns

unfoldable pub log : List Line → List Logged
log [] = []
log (l ∷ ls) = tagged l.socket l.entries ++ log ls

-- the entries of a socket put back, the last first
unfoldable pub undone : ℕ → List Logged → Tree → Tree
undone k [] t = t
undone k (e ∷ es) t = cond (e.0 == k) (put_back e.1.place e.1.mark (undone k es t)) (undone k es t)

-- the entries of the other sockets
unfoldable pub others : ℕ → List Logged → List Logged
others k [] = []
others k (e ∷ es) = cond (e.0 == k) (others k es) (e ∷ others k es)

-- the socket wrote the place
abbrev pub wrote_by : ℕ → Place → List Logged → Bool
wrote_by k q es = some (λ e. (e.0 == k) && cond (written e.1.mark) (same_place e.1.place q) false) es

-- the socket of the first entry, behind one of k's and not its own, that touches what k wrote; `seen` says that one of k's came before
unfoldable pub scan : ℕ → List Logged → Bool → List Logged → Option ℕ
scan k es seen [] = None
scan k es seen (e ∷ r) = cond (e.0 == k) (scan k es true r) (cond (seen && wrote_by k e.1.place es) (Some e.0) (scan k es seen r))

-- what the log says of the line of an occupied socket
pub record LogOf (g : Ledger) (k : ℕ) (p : Parts) : Type 0 where
  pub is : parts k g.lines ≡ Some p
  -- putting back the socket's entries restores its line, at every step of the way in a tree by the rules if nobody blocks
  pub restores : (t : Tree) → undone k (log g.lines) t ≡ restore p.1.entries t
  pub way : blocker p.1.entries p.2 ≡ None → (i : ℕ) → Sound (undone k (drop i (log g.lines)) (ledger_tree g))
  -- the other entries are the log without that line
  pub strikes : others k (log g.lines) ≡ log (p.0 ++ p.2)
  -- one scan finds the earliest blocker
  pub finds : scan k (log g.lines) false (log g.lines) ≡ blocker p.1.entries p.2

pub record LogLaws : Type 0 where
  pub line : (g : Ledger) → Kept g → (k : ℕ) → occupied (socket_at g k) ≡ 1 → (p : Parts) × LogOf g k p
  pub entries : (ls : List Line) → length (log ls) ≡ sum (λ l. length l.entries) ls
  pub saved : (ls : List Line) → sum (λ e. note_bytes e.1) (log ls) ≡ sum (λ l. saved_bytes l.entries) ls
  pub push : (ls : List Line) (l : Line) → log (ls ++ l ∷ []) ≡ log ls ++ tagged l.socket l.entries
