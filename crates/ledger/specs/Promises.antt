-- The promise over every history, in words of the subject. Assumes nothing.
use Rattle.std.specs.Prelude.{◌≡◌, ℕ, ◌<◌, ◌≤◌, true, false, ◌⊎◌, List, [], ◌∷◌, ◌++◌, drop, Some, None, Ok}
use Rattle.std.specs.List.{AllByRecursion}
use Rattle.tree.specs.Entries.{Entry}
use Rattle.tree.specs.Numbers.{be32}
use Rattle.tree.specs.Phandles.{phandle_rule, largest_phandle}
use Rattle.tree.specs.Places.{Bytes, Place, node_at}
use Rattle.tree.specs.Trees.{Tree, look, up_place, Sound}
use Rattle.overlay_rules.specs.Laws.{In, Unique, Points}
use Rattle.overlay_rules.specs.Overlays.{phandle_at, symbols_path}
use Rattle.overlay_rules.specs.Plans.{Plan, Reference, apply}
use Rattle.overlay_rules.specs.Queries.{run}
use Rattle.overlay_rules.specs.Records.{Note, created, notes, written, wrote, restore}
use Rattle.ledger.specs.Ledgers.{Line, line, plan_at, merge_all, room, held, Ledger, ledger_tree, fresh, socket_at, Call, plug, unplug, plugged, granted, refused, step, State, closed, opened, history}
use Rattle.ledger.specs.Invariants.{Fit, FitCall, Kept}

-- ---- the tree is explained by the lines

-- none of the refusals 32 to 38 applies to the line's merge behind the lines before it, at its offset; and its record is that merge's
pub record CanBeDone (base : Tree) (before : List Line) (l : Line) : Type 0 where
  pub plan : Plan
  pub merges : run (merge_all base before) (plan_at l.overlay l.offset) ≡ Ok plan
  pub fits : room base (before ++ l ∷ []) ≡ true
  pub entries : l.entries ≡ notes plan (merge_all base before)
  pub share : l.share ≡ plan.share

abbrev pub EachCanBeDone : Ledger → Type 0
EachCanBeDone g = (before : List Line) (l : Line) (after : List Line) → g.lines ≡ before ++ (l ∷ after) → CanBeDone g.base before l

-- ---- an unplug is granted exactly when no later line touches what the socket's line wrote

abbrev pub Touches : Line → Line → Type 0
Touches y x = (n : Note) × (m : Note) × In n y.entries × In m x.entries × (written m.mark ≡ true) × (n.place ≡ m.place)

abbrev pub NoneTouches : List Line → Line → Type 0
NoneTouches ys x = (y : Line) → In y ys → Touches y x → ⊥

-- the earliest of the lines that touches x, at a socket
pub record Earliest (ls : List Line) (x : Line) (j : ℕ) : Type 0 where
  pub before : List Line
  pub line : Line
  pub later : List Line
  pub lines : ls ≡ before ++ (line ∷ later)
  pub none : NoneTouches before x
  pub touches : Touches line x
  pub socket : line.socket ≡ j

-- the line of a held socket, and what an unplug of it answers
pub record Unplugs (g : Ledger) (n k : ℕ) : Type 0 where
  pub before : List Line
  pub mine : Line
  pub later : List Line
  pub lines : g.lines ≡ before ++ (mine ∷ later)
  pub socket : mine.socket ≡ k
  -- none touches: granted
  pub free : NoneTouches later mine → (step g (unplug n k)).0 ≡ granted
  pub free_only : (step g (unplug n k)).0 ≡ granted → NoneTouches later mine
  -- one does: refused, at the socket of the earliest
  pub blocked : (ys : List Line) (y : Line) (zs : List Line) → later ≡ ys ++ (y ∷ zs) → NoneTouches ys mine → Touches y mine → (step g (unplug n k)).0 ≡ refused 40 y.socket
  pub blocked_only : (c j : ℕ) → (step g (unplug n k)).0 ≡ refused c j → (c ≡ 40) × Earliest later mine j

-- ---- standing references

-- a cell that a plugged overlay filled, whose property no later one has set
pub record Stands (g : Ledger) (r : Reference) : Type 0 where
  pub before : List Line
  pub line : Line
  pub later : List Line
  pub lines : g.lines ≡ before ++ (line ∷ later)
  pub plan : Plan
  pub merges : run (merge_all g.base before) (plan_at line.overlay line.offset) ≡ Ok plan
  pub refers : In r plan.references
  pub unset : AllByRecursion (λ y. wrote y.entries r.place ≡ false) later

-- its number is the phandle of one node, and that node is the one it was meant for
pub record Refers (t : Tree) (r : Reference) : Type 0 where
  pub points : Points t r
  pub only : (q w : Bytes) → look t (phandle_at q) ≡ Some w → be32 w 0 ≡ be32 points.value r.offset → q ≡ r.meant

-- ---- the promise

pub record Promise (g : Ledger) : Type 0 where
  -- the tree is the base with the lines merged in plugging order, each at its own offset, and each of these merges can be done
  pub each : EachCanBeDone g
  -- the tree is one by the rules, within the limits
  pub sound : Sound (ledger_tree g)
  -- each phandle is valid, and no two nodes share one
  pub rule : phandle_rule (ledger_tree g) ≡ true
  -- an unplug of a held socket is granted exactly when no later line touches what its line wrote
  pub unplugs : (n k : ℕ) → 4096 ≤ n → socket_at g k ≡ held → Unplugs g n k
  -- every standing reference is the phandle of the node that it was meant for
  pub refers : (r : Reference) → Stands g r → Refers (ledger_tree g) r

-- a stack that is still closed has left the tree as it was
abbrev pub Promised : Tree → State → Type 0
Promised t (closed u) = u ≡ t
Promised t (opened g) = (g.base ≡ t) × Promise g

-- whatever the calls and their arguments, in whatever order
abbrev pub EveryHistory : Type 0
EveryHistory = (t : Tree) (calls : List Call) → Sound t → AllByRecursion FitCall calls → Promised t (history (closed t) calls)

-- ---- striking a line that no later one touches

-- the line x, between those before and those later, is restored by its record
pub record Strikes (g : Ledger) (before : List Line) (x : Line) (later : List Line) : Type 0 where
  -- each later line has the plan that it had
  pub same : (ys : List Line) (y : Line) (zs : List Line) → later ≡ ys ++ (y ∷ zs) → run (merge_all g.base (before ++ ys)) (plan_at y.overlay y.offset) ≡ run (merge_all g.base (before ++ (x ∷ ys))) (plan_at y.overlay y.offset)
  -- and the others can all be done, with the record entries that they had
  pub each : (ys : List Line) (y : Line) (zs : List Line) → before ++ later ≡ ys ++ (y ∷ zs) → CanBeDone g.base ys y
  -- restoring the entries, the last first, gives the tree of the others
  pub tree : restore x.entries (ledger_tree g) ≡ merge_all g.base (before ++ later)
  -- and at every step of that the tree is one by the rules: within the limits, each place's parent there
  pub way : (i : ℕ) → Sound (restore (drop i x.entries) (ledger_tree g))
  -- a node to be dropped has neither children nor properties
  pub drops : (i : ℕ) (n : Note) (ns : List Note) → drop i x.entries ≡ n ∷ ns → n.mark ≡ created → (k : Place) (v : Bytes) → look (restore ns (ledger_tree g)) k ≡ Some v → up_place k ≡ n.place → k ≡ n.place

abbrev pub Striking : Type 0
Striking = (g : Ledger) → Kept g → (before : List Line) (x : Line) (later : List Line) → g.lines ≡ before ++ (x ∷ later) → NoneTouches later x → Strikes g before x later

-- ---- a plug: its offset, and the writes that it makes one after the other

pub record Plugs (g : Ledger) (k : ℕ) (es : List Entry) (p : Plan) : Type 0 where
  -- no phandle of the tree is above the offset, and every one that is new is
  pub most : (q v : Bytes) → look (ledger_tree g) (phandle_at q) ≡ Some v → be32 v 0 ≤ largest_phandle (ledger_tree g)
  pub above : (q v : Bytes) → look (apply p.writes (ledger_tree g)) (phandle_at q) ≡ Some v → (look (ledger_tree g) (phandle_at q) ≡ Some v) ⊎ (largest_phandle (ledger_tree g) < be32 v 0)
  pub unique : Unique (apply p.writes (ledger_tree g))
  -- every write finds a tree by the rules with what it hangs on, a node not yet there, and leaves a tree by the rules
  pub ready : (ws : List Entry) (e : Entry) (vs : List Entry) → p.writes ≡ ws ++ (e ∷ vs) → Sound (apply ws (ledger_tree g)) × (look (apply ws (ledger_tree g)) (up_place e.place) ≡ Some []) × (e.place.1 ≡ None → look (apply ws (ledger_tree g)) e.place ≡ None)
  pub stays : (ws vs : List Entry) → p.writes ≡ ws ++ vs → Sound (apply ws (ledger_tree g))
  -- what was at a place when it was written is what was there before the merge
  pub earlier : (ws : List Entry) (e : Entry) (vs : List Entry) → p.writes ≡ ws ++ (e ∷ vs) → look (apply ws (ledger_tree g)) e.place ≡ look (ledger_tree g) e.place

-- for every plug that the plan and the space allow
abbrev pub Plugging : Type 0
Plugging = (g : Ledger) → Kept g → (k : ℕ) (es : List Entry) (p : Plan) → Fit es → run (ledger_tree g) (plan_at es (largest_phandle (ledger_tree g))) ≡ Ok p → room g.base (g.lines ++ line k es (largest_phandle (ledger_tree g)) (ledger_tree g) p ∷ []) ≡ true → Plugs g k es p

-- an answered offset is the largest phandle of the tree
abbrev pub AnsweredOffset : Type 0
AnsweredOffset = (g : Ledger) (n k : ℕ) (es : List Entry) (j d : ℕ) → (step g (plug n k es)).0 ≡ plugged j d → (j ≡ k) × (d ≡ largest_phandle (ledger_tree g))

-- ---- the invariant that code has to match

pub record Invariant : Type 0 where
  pub opens : (t : Tree) (v : Bytes) → Sound t → phandle_rule t ≡ true → look t (node_at symbols_path) ≡ Some v → Kept (fresh t)
  pub steps : (g : Ledger) → Kept g → (c : Call) → FitCall c → Kept (step g c).1
  pub promises : (g : Ledger) → Kept g → Promise g
