-- The ledger: base, sockets and lines, and what each call answers and leaves by it. Assumes nothing.
use Rattle.std.specs.Prelude.{ℕ, ◌+◌, Bool, true, false, cond, ◌&&◌, List, [], ◌∷◌, ◌++◌, length, replicate, Some, None, Ok, Err, Option, Result, ◌==◌, nat_le, nat_lt, slice_index_or, slice_set}
use Rattle.tree.specs.Entries.{Entry}
use Rattle.tree.specs.Phandles.{phandle_rule, largest_phandle}
use Rattle.tree.specs.Places.{node_at}
use Rattle.tree.specs.Trees.{Tree, look, nodes, properties, weight}
use Rattle.overlay_rules.specs.Checks.{Refusal}
use Rattle.overlay_rules.specs.Overlays.{overlay_of, symbols_path}
use Rattle.overlay_rules.specs.Plans.{Share, Plan, plan, apply}
use Rattle.overlay_rules.specs.Queries.{Query, run}
use Rattle.overlay_rules.specs.Records.{Note, notes, saved_bytes, touches}

-- ---- lines

-- a plugged overlay, by the located entries of its blob: its socket, its offset, its share, and its record entries
pub record Line : Type 0 where
  pub socket : ℕ
  pub overlay : List Entry
  pub offset : ℕ
  pub share : Share
  pub entries : List Note

abbrev pub plan_at : List Entry → ℕ → Query Plan
plan_at es d = plan (overlay_of es) d

abbrev pub merged_by : Tree → Result Plan Refusal → Tree
merged_by t (Ok p) = apply p.writes t
merged_by t (Err e) = t

-- the tree with an overlay merged at an offset
abbrev pub merge : Tree → List Entry → ℕ → Tree
merge t es d = merged_by t (run t (plan_at es d))

-- the tree with lines merged in order, each at its own offset
unfoldable pub merge_all : Tree → List Line → Tree
merge_all t [] = t
merge_all t (l ∷ ls) = merge_all (merge t l.overlay l.offset) ls

-- ---- space

unfoldable pub sum : {A : Type 0} → (A → ℕ) → List A → ℕ
sum f [] = 0
sum f (x ∷ xs) = f x + sum f xs

-- the counts and the weight of a tree, and the size of the record
abbrev pub max_nodes : ℕ
max_nodes = 256

abbrev pub max_properties : ℕ
max_properties = 1024

abbrev pub max_weight : ℕ
max_weight = 24576

abbrev pub max_entries : ℕ
max_entries = 512

abbrev pub max_saved : ℕ
max_saved = 32768

-- the tree at opening plus the shares of the lines is within the counts and the weight of a tree, and the record within its own
unfoldable pub room : Tree → List Line → Bool
room base ls =
    (nat_le (nodes base.places + sum (λ l. l.share.nodes) ls) max_nodes
    && (nat_le (properties base.places + sum (λ l. l.share.properties) ls) max_properties
    && nat_le (weight base.places + sum (λ l. l.share.weight) ls) max_weight))
    && (nat_le (sum (λ l. length l.entries) ls) max_entries && nat_le (sum (λ l. saved_bytes l.entries) ls) max_saved)

-- ---- the ledger

-- held: its receipt is out
pub data Socket : Type 0 where
  empty : Socket
  held : Socket
  shelved : Socket

pub record Ledger : Type 0 where
  pub base : Tree
  pub sockets : List Socket
  pub lines : List Line

abbrev pub ledger_tree : Ledger → Tree
ledger_tree g = merge_all g.base g.lines

abbrev pub fresh : Tree → Ledger
fresh t = record { base = t; sockets = replicate 16 empty; lines = [] }

abbrev pub socket_at : Ledger → ℕ → Socket
socket_at g k = slice_index_or g.sockets k empty

-- the lines before and after a socket's, with that
abbrev pub Parts : Type 0
Parts = List Line × Line × List Line

abbrev pub after : Line → Option Parts → Option Parts
after l None = None
after l (Some p) = Some (l ∷ p.0, p.1, p.2)

unfoldable pub parts : ℕ → List Line → Option Parts
parts k [] = None
parts k (l ∷ ls) = cond (l.socket == k) (Some ([], l, ls)) (after l (parts k ls))

-- the socket of the earliest of the lines that touches a place which these entries wrote
unfoldable pub blocker : List Note → List Line → Option ℕ
blocker ns [] = None
blocker ns (l ∷ ls) = cond (touches ns l.entries) (Some l.socket) (blocker ns ls)

-- ---- the calls

-- a receipt counts as its socket; plug and unplug take the length of their scratch
pub data Call : Type 0 where
  opening : Call
  plug : ℕ → ℕ → List Entry → Call
  unplug : ℕ → ℕ → Call
  hand_over : ℕ → Call
  take_back : ℕ → Call

pub data Answer : Type 0 where
  -- a receipt for a socket, and the offset
  plugged : ℕ → ℕ → Answer
  -- a receipt for a socket
  receipt : ℕ → Answer
  granted : Answer
  refused : ℕ → ℕ → Answer

-- whether a refused unplug or hand over gives the receipt back
abbrev pub gives_back : Answer → Bool
gives_back (plugged k d) = false
gives_back (receipt k) = false
gives_back granted = false
gives_back (refused c p) = cond (c == 39) false true

-- what a call does depends on the socket's state
abbrev pub by_socket : {A : Type 0} → Socket → A → A → A → A
by_socket empty x y z = x
by_socket held x y z = y
by_socket shelved x y z = z

abbrev pub no : Ledger → ℕ → ℕ → Answer × Ledger
no g c p = (refused c p, g)

abbrev pub turned : Ledger → ℕ → Socket → List Line → Ledger
turned g k s ls = record { base = g.base; sockets = slice_set g.sockets k s; lines = ls }

-- the line of a plan in the tree t
abbrev pub line : ℕ → List Entry → ℕ → Tree → Plan → Line
line k es d t p = record { socket = k; overlay = es; offset = d; share = p.share; entries = notes p t }

-- 38 where there is no room; else one more line
abbrev pub add_by : Ledger → ℕ → ℕ → Line → Bool → Answer × Ledger
add_by g k d l true = (plugged k d, turned g k held (g.lines ++ l ∷ []))
add_by g k d l false = no g 38 0

-- 32 to 37 by the plan
abbrev pub plug_by : Ledger → ℕ → List Entry → ℕ → Tree → Result Plan Refusal → Answer × Ledger
plug_by g k es d t (Err e) = no g e.0 e.1
plug_by g k es d t (Ok p) = let l = line k es d t p in add_by g k d l (room g.base (g.lines ++ l ∷ []))

-- at the largest phandle of the tree
abbrev pub plug_in : Ledger → ℕ → List Entry → Tree → Answer × Ledger
plug_in g k es t = plug_by g k es (largest_phandle t) t (run t (plan_at es (largest_phandle t)))

-- 40 at the earliest blocker; else the line is struck
abbrev pub strike_by : Ledger → ℕ → Parts → Option ℕ → Answer × Ledger
strike_by g k p (Some j) = no g 40 j
strike_by g k p None = (granted, turned g k empty (p.0 ++ p.2))

abbrev pub unplug_by : Ledger → ℕ → Option Parts → Answer × Ledger
unplug_by g k None = no g 39 k
unplug_by g k (Some p) = strike_by g k p (blocker p.1.entries p.2)

unfoldable pub step : Ledger → Call → Answer × Ledger
step g opening = no g 56 0
step g (plug n k es) =
    cond (nat_lt n 4096) (no g 55 0)
    (cond (nat_lt 15 k) (no g 30 k)
    (by_socket (socket_at g k) (plug_in g k es (ledger_tree g)) (no g 31 k) (no g 31 k)))
step g (unplug n k) =
    cond (nat_lt n 4096) (no g 55 0)
    (by_socket (socket_at g k) (no g 39 k) (unplug_by g k (parts k g.lines)) (no g 39 k))
step g (hand_over k) = by_socket (socket_at g k) (no g 39 k) (granted, turned g k shelved g.lines) (no g 39 k)
step g (take_back k) =
    cond (nat_lt 15 k) (no g 30 k)
    (by_socket (socket_at g k) (no g 41 k) (no g 41 k) (receipt k, turned g k held g.lines))

-- ---- a stack is closed over a store's tree, or open with a ledger

pub data State : Type 0 where
  closed : Tree → State
  opened : Ledger → State

-- 16 and 17, both at place 0
abbrev pub open_by : Tree → Bool → Option (List ℕ) → Answer × State
open_by t false w = (refused 16 0, closed t)
open_by t true None = (refused 17 0, closed t)
open_by t true (Some v) = (granted, opened (fresh t))

abbrev pub stepped : Answer × Ledger → Answer × State
stepped a = (a.0, opened a.1)

abbrev pub closed_call : Tree → Call → Answer × State
closed_call t opening = open_by t (phandle_rule t) (look t (node_at symbols_path))
closed_call t (plug n k es) = (refused 56 0, closed t)
closed_call t (unplug n k) = (refused 56 0, closed t)
closed_call t (hand_over k) = (refused 56 0, closed t)
closed_call t (take_back k) = (refused 56 0, closed t)

abbrev pub call : State → Call → Answer × State
call (closed t) c = closed_call t c
call (opened g) c = stepped (step g c)

-- the state after a history of calls, and the answers to them
unfoldable pub history : State → List Call → State
history b [] = b
history b (c ∷ cs) = history (call b c).1 cs

unfoldable pub answers : State → List Call → List Answer
answers b [] = []
answers b (c ∷ cs) = (call b c).0 ∷ answers (call b c).1 cs

abbrev pub state_tree : State → Tree
state_tree (closed t) = t
state_tree (opened g) = ledger_tree g
