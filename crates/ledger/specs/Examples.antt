-- Worked examples of whole histories, on the tree with `/soc/bus`, phandle 5, which the label `bus` names. Assumes nothing.
use Rattle.std.specs.Prelude.{◌≡◌, ℕ, List, [], ◌∷◌, ◌++◌, replicate, Some, None, codes}
use Rattle.tree.specs.Entries.{Entry}
use Rattle.tree.specs.Numbers.{bytes32}
use Rattle.tree.specs.Places.{Bytes, property_at}
use Rattle.std.specs.List.{AllByRecursion}
use Rattle.tree.specs.Trees.{Tree, look, weight, Sound}
use Rattle.overlay_rules.specs.Checks.{check}
use Rattle.overlay_rules.specs.CheckExamples.{fixed}
use Rattle.overlay_rules.specs.Overlays.{phandle_at}
use Rattle.overlay_rules.specs.PlanExamples.{refers}
use Rattle.overlay_rules.specs.Samples.{node, property, text, fragment, to_path, base, base_with, adds_cell, sets_at, sets_on, adds_child}
use Rattle.ledger.specs.Ledgers.{Call, opening, plug, unplug, hand_over, take_back, Answer, plugged, receipt, granted, refused, Ledger, fresh, State, closed, opened, call, history, answers, state_tree}
use Rattle.ledger.specs.Invariants.{Fit, FitCall}
use Rattle.ledger.specs.Promises.{Promised, Stands}

abbrev pub ran : Tree → List Call → Tree
ran t cs = state_tree (history (closed t) (opening ∷ cs))

abbrev pub said : Tree → List Call → List Answer
said t cs = answers (closed t) (opening ∷ cs)

abbrev pub in0 : List Entry → Call
in0 es = plug 4096 0 es

abbrev pub in1 : List Entry → Call
in1 es = plug 4096 1 es

abbrev pub out0 : Call
out0 = unplug 4096 0

abbrev pub out1 : Call
out1 = unplug 4096 1

-- one property of `/soc`
abbrev pub mode : Bytes → List Entry
mode v = sets_on (codes "/soc") (codes "mode") v

abbrev pub rate : List Entry
rate = sets_on (codes "/soc") (codes "rate") (9 ∷ [])

abbrev pub status : List Entry
status = sets_at (codes "cell") (codes "status") (text (codes "okay"))

abbrev pub cell_path : Bytes
cell_path = codes "/soc/bus/cell@1"

abbrev pub g_and_h : List Call
g_and_h = in0 adds_cell ∷ in1 (adds_child (codes "g")) ∷ out0 ∷ in0 (adds_child (codes "h")) ∷ []

pub record Worked : Type 0 where
  -- the overlays are well listed and pass the check
  pub good : Fit adds_cell × Fit status × Fit rate × Fit (mode (9 ∷ [])) × Fit (adds_child (codes "g")) × Fit (adds_child (codes "h"))
  -- the offset is 5, and the new cell has phandle 6
  pub cell_said : said base (in0 adds_cell ∷ []) ≡ granted ∷ plugged 0 5 ∷ []
  pub cell_handle : look (ran base (in0 adds_cell ∷ [])) (phandle_at cell_path) ≡ Some (bytes32 6)
  -- a second overlay targets the cell: the first is blocked; the second out, then the first, gives the base
  pub blocked : said base (in0 adds_cell ∷ in1 status ∷ out0 ∷ out1 ∷ out0 ∷ []) ≡ granted ∷ plugged 0 5 ∷ plugged 1 6 ∷ refused 40 1 ∷ granted ∷ granted ∷ []
  pub status_set : look (ran base (in0 adds_cell ∷ in1 status ∷ out0 ∷ [])) (property_at cell_path (codes "status")) ≡ Some (text (codes "okay"))
  pub all_out : ran base (in0 adds_cell ∷ in1 status ∷ out0 ∷ out1 ∷ out0 ∷ []) ≡ base
  -- two that set different properties of one node go out in any order
  pub apart : ran base (in0 (mode (9 ∷ [])) ∷ in1 rate ∷ out0 ∷ []) ≡ ran base (in1 rate ∷ [])
  -- two that set one property: the first is blocked, and its four bytes are back without the second
  pub same_said : said base (in0 (mode (bytes32 9)) ∷ in1 (mode (7 ∷ [])) ∷ out0 ∷ out1 ∷ []) ≡ granted ∷ plugged 0 5 ∷ plugged 1 5 ∷ refused 40 1 ∷ granted ∷ []
  pub one_byte : look (ran base (in0 (mode (bytes32 9)) ∷ in1 (mode (7 ∷ [])) ∷ [])) (property_at (codes "/soc") (codes "mode")) ≡ Some (7 ∷ [])
  pub four_back : look (ran base (in0 (mode (bytes32 9)) ∷ in1 (mode (7 ∷ [])) ∷ out0 ∷ out1 ∷ [])) (property_at (codes "/soc") (codes "mode")) ≡ Some (bytes32 9)
  -- phandles 5, 7 and 8
  pub five : look (ran base g_and_h) (phandle_at (codes "/soc/bus")) ≡ Some (bytes32 5)
  pub seven : look (ran base g_and_h) (phandle_at (codes "/soc/g")) ≡ Some (bytes32 7)
  pub eight : look (ran base g_and_h) (phandle_at (codes "/soc/h")) ≡ Some (bytes32 8)
  pub no_cell : look (ran base g_and_h) (phandle_at cell_path) ≡ None
  -- the last phandle is 0xfffffffe
  pub takes_last : said (base_with (bytes32 4294967293)) (in0 (adds_child (codes "g")) ∷ []) ≡ granted ∷ plugged 0 4294967293 ∷ []
  pub past_last : said (base_with (bytes32 4294967294)) (in0 (adds_child (codes "g")) ∷ []) ≡ granted ∷ refused 34 0 ∷ []
  -- eight value bytes take a fixup at 4, and none at 5
  pub at_four : check (fixed (codes "/f/__overlay__:ref:4")) ≡ None
  pub at_five : check (fixed (codes "/f/__overlay__:ref:5")) ≡ Some (22, 56)

-- every refusal of the calls, with its place
pub record Refusals : Type 0 where
  pub closed_calls : answers (closed base) (in0 rate ∷ unplug 4096 3 ∷ hand_over 3 ∷ take_back 3 ∷ []) ≡ refused 56 0 ∷ refused 56 0 ∷ refused 56 0 ∷ refused 56 0 ∷ []
  pub bad_handle : answers (closed (base_with (bytes32 0))) (opening ∷ []) ≡ refused 16 0 ∷ []
  pub no_symbols : answers (closed (record { boot = 0; places = ((codes "/", None), []) ∷ [] })) (opening ∷ []) ≡ refused 17 0 ∷ []
  pub opened_twice : said base (opening ∷ []) ≡ granted ∷ refused 56 0 ∷ []
  pub plugs : said base (plug 4095 99 rate ∷ plug 4096 16 rate ∷ plug 4096 15 rate ∷ plug 4096 15 rate ∷ []) ≡ granted ∷ refused 55 0 ∷ refused 30 16 ∷ plugged 15 5 ∷ refused 31 15 ∷ []
  pub unplugs : said base (in0 rate ∷ unplug 4095 0 ∷ unplug 4096 1 ∷ hand_over 0 ∷ unplug 4096 0 ∷ hand_over 0 ∷ take_back 0 ∷ out0 ∷ []) ≡ granted ∷ plugged 0 5 ∷ refused 55 0 ∷ refused 39 1 ∷ granted ∷ refused 39 0 ∷ refused 39 0 ∷ receipt 0 ∷ granted ∷ []
  pub shelf : said base (take_back 16 ∷ take_back 0 ∷ in0 rate ∷ take_back 0 ∷ hand_over 0 ∷ in0 rate ∷ []) ≡ granted ∷ refused 30 16 ∷ refused 41 0 ∷ plugged 0 5 ∷ refused 41 0 ∷ granted ∷ refused 31 0 ∷ []

-- ---- mistakes that are impossible

-- a second fragment, which targets what the first creates
abbrev pub chained : List Entry
chained =
    fragment (to_path (codes "/soc"))
    (node 32 (codes "/f/__overlay__/new")
    ∷ node 40 (codes "/g") ∷ property 48 (codes "/g") (codes "target-path") (text (codes "/soc/new")) ∷ node 56 (codes "/g/__overlay__") ∷ [])

-- a value of 4,096 bytes
abbrev pub large_at : ℕ → Call
large_at k = plug 4096 k (mode (replicate 4096 0))

abbrev pub five_large : List Call
five_large = large_at 0 ∷ large_at 1 ∷ large_at 2 ∷ large_at 3 ∷ large_at 4 ∷ []

pub record NoMistakes : Type 0 where
  -- the offset is not worked out again: a line keeps the one that it had, where the tree without the earlier line would give another
  pub keeps_offset : look (ran base (in0 adds_cell ∷ in1 (adds_child (codes "g")) ∷ out0 ∷ [])) (phandle_at (codes "/soc/g")) ≡ Some (bytes32 7)
  pub other_offset : look (ran base (in1 (adds_child (codes "g")) ∷ [])) (phandle_at (codes "/soc/g")) ≡ Some (bytes32 6)
  -- a second fragment's target is sought in the tree before the merge
  pub chained_good : Fit chained
  pub before_merge : said base (in0 chained ∷ []) ≡ granted ∷ refused 33 40 ∷ []
  -- space is judged by the shares, not by the tree's present weight: the tree has room for the sixth, which sets what the others set
  pub sixth : said base (five_large ++ large_at 5 ∷ []) ≡ granted ∷ plugged 0 5 ∷ plugged 1 5 ∷ plugged 2 5 ∷ plugged 3 5 ∷ plugged 4 5 ∷ refused 38 0 ∷ []
  pub present : weight (ran base five_large).places ≡ 4153

-- ---- the premises of the theorems hold of the worked examples

abbrev pub ledger_in : State → Ledger
ledger_in (closed t) = fresh t
ledger_in (opened g) = g

abbrev pub worked_calls : List Call
worked_calls = opening ∷ in0 adds_cell ∷ in1 status ∷ out0 ∷ hand_over 0 ∷ take_back 0 ∷ out1 ∷ in1 refers ∷ []

abbrev pub refers_ledger : Ledger
refers_ledger = ledger_in (history (closed base) (opening ∷ in0 refers ∷ []))

pub record Premises : Type 0 where
  -- the base is a tree by the rules, and opening accepts it
  pub sound : Sound base
  pub opens : call (closed base) opening ≡ (granted, opened (fresh base))
  -- every call of the histories is fit, and they leave an open stack
  pub fit : AllByRecursion FitCall worked_calls
  pub open_stack : answers (closed base) worked_calls ≡ granted ∷ plugged 0 5 ∷ plugged 1 6 ∷ refused 40 1 ∷ granted ∷ receipt 0 ∷ granted ∷ plugged 1 6 ∷ []
  pub promised : Promised base (history (closed base) worked_calls)
  -- a reference stands
  pub stands : Stands refers_ledger (record { place = (codes "/soc/dev", Some (codes "uses")); offset = 0; meant = codes "/soc/bus" })
