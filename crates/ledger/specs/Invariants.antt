-- What every history keeps of a ledger. Assumes nothing.
use Rattle.std.specs.Prelude.{◌≡◌, ℕ, ◌+◌, true, cond, List, [], ◌∷◌, length, Some, None, Ok, ◌==◌}
use Rattle.tree.specs.Entries.{Entry, well_listed}
use Rattle.tree.specs.Phandles.{phandle_rule}
use Rattle.tree.specs.Places.{node_at}
use Rattle.tree.specs.Trees.{Tree, look, Sound}
use Rattle.overlay_rules.specs.Checks.{check}
use Rattle.overlay_rules.specs.Laws.{Unique}
use Rattle.overlay_rules.specs.Overlays.{symbols_path}
use Rattle.overlay_rules.specs.Plans.{Plan}
use Rattle.overlay_rules.specs.Queries.{run}
use Rattle.overlay_rules.specs.Records.{notes}
use Rattle.ledger.specs.Ledgers.{Line, plan_at, merge, room, Socket, empty, held, shelved, Ledger, ledger_tree, socket_at, Call, opening, plug, unplug, hand_over, take_back}

-- the entries of a good blob that passes the check: what a plug is given
abbrev pub Fit : List Entry → Type 0
Fit es = (well_listed es ≡ true) × (check es ≡ None)

abbrev pub FitCall : Call → Type 0
FitCall opening = Unit {0}
FitCall (plug n k es) = Fit es
FitCall (unplug n k) = Unit {0}
FitCall (hand_over k) = Unit {0}
FitCall (take_back k) = Unit {0}

-- the line's merge into t can be done at its offset, and the line's record and share are those of that merge
pub record LineAt (t : Tree) (l : Line) (p : Plan) : Type 0 where
  pub fit : Fit l.overlay
  pub merges : run t (plan_at l.overlay l.offset) ≡ Ok p
  pub entries : l.entries ≡ notes p t
  pub share : l.share ≡ p.share
  pub lawful : Unique t

-- so one after the other
unfoldable pub Made : Tree → List Line → Type 0
Made t [] = Unit {0}
Made t (l ∷ ls) = ((p : Plan) × LineAt t l p) × Made (merge t l.overlay l.offset) ls

-- how many lines a socket has
unfoldable pub count : ℕ → List Line → ℕ
count k [] = 0
count k (l ∷ ls) = cond (l.socket == k) 1 0 + count k ls

abbrev pub occupied : Socket → ℕ
occupied empty = 0
occupied held = 1
occupied shelved = 1

-- the base is what opening accepted; the lines can be merged in order and fit; just the occupied sockets have a line
pub record Kept (g : Ledger) : Type 0 where
  pub sound : Sound g.base
  pub rule : phandle_rule g.base ≡ true
  pub symbols : look g.base (node_at symbols_path) ≡ Some []
  pub made : Made g.base g.lines
  pub lawful : Unique (ledger_tree g)
  pub fits : room g.base g.lines ≡ true
  pub sixteen : length g.sockets ≡ 16
  pub tied : (k : ℕ) → count k g.lines ≡ occupied (socket_at g k)
