-- The check of an overlay: the first refusal, with the place of the first token at fault. Assumes nothing.
use Rattle.std.specs.Prelude.{ℕ, ◌+◌, ◌%◌, Bool, false, cond, not, ◌&&◌, ◌||◌, List, [], ◌∷◌, ◌++◌, length, Some, None, codes, Option, ◌==◌, nat_eq, nat_le, nat_lt}
use Rattle.std.specs.Str.{bytes_eq}
use Rattle.names.specs.Names.{each}
use Rattle.names.specs.Paths.{path_text}
use Rattle.tree.specs.Entries.{Entry, some}
use Rattle.tree.specs.Numbers.{be32}
use Rattle.tree.specs.Phandles.{is_phandle, valid_handle}
use Rattle.tree.specs.Places.{Bytes, Place, node_at, property_at}
use Rattle.overlay_rules.specs.Texts.{pick, zero_ended, split, behind}
use Rattle.overlay_rules.specs.Overlays.{symbols_path, fixups_path, locals_path, target_at, target_path_at, value_at, is_listed, fragment_nodes, in_body, body_entries, Spot, spot_of, strings, spots, numbers, locals_behind}

-- a refusal: its number, and its place
abbrev pub Refusal : Type 0
Refusal = ℕ × ℕ

-- ---- faults

-- the place of the first that is at fault
abbrev pub first_fault : (Entry → Bool) → List Entry → Option ℕ
first_fault p [] = None
first_fault p (e ∷ es) = cond (p e) (Some e.at) (first_fault p es)

-- 16: a body node's phandle that is not valid, or is another's before it
abbrev pub handle_in : Place → Bytes → Option Bytes
handle_in (p, None) v = None
handle_in (p, Some n) v = cond (is_phandle n) (Some v) None

-- the phandles of the bodies, in blob order
unfoldable pub body_handles : List Entry → List ℕ
body_handles bs = pick (λ e. elim (handle_in e.place e.value) [ None ↦ None | Some v ↦ Some (be32 v 0) ]) bs

abbrev pub bad_handle : List ℕ → Option Bytes → Bool
bad_handle seen None = false
bad_handle seen (Some v) = not (valid_handle v) || some (nat_eq (be32 v 0)) seen

abbrev pub seen_with : List ℕ → Option Bytes → List ℕ
seen_with seen None = seen
seen_with seen (Some v) = be32 v 0 ∷ seen

unfoldable pub handle_fault : List ℕ → List Entry → Option ℕ
handle_fault seen [] = None
handle_fault seen (e ∷ es) =
    let h = handle_in e.place e.value in
    cond (bad_handle seen h) (Some e.at) (handle_fault (seen_with seen h) es)

-- 21: a fragment has just one of a `target` of four bytes and a `target-path` with a path and a zero byte
abbrev pub path_value : Option Bytes → Bool
path_value None = false
path_value (Some p) = path_text p

abbrev pub good_target : Option Bytes → Option Bytes → Bool
good_target None None = false
good_target (Some v) None = length v == 4
good_target None (Some w) = path_value (zero_ended w)
good_target (Some v) (Some w) = false

abbrev pub bad_fragment : List Entry → Entry → Bool
bad_fragment es f = not (good_target (value_at es (target_at f.place.0)) (value_at es (target_path_at f.place.0)))

-- a cell within a value, if that is there
abbrev pub holds_cell : ℕ → Option Bytes → Bool
holds_cell o None = false
holds_cell o (Some v) = nat_le (o + 4) (length v)

-- a body node's property other than `phandle`, if it is there
abbrev pub body_value : List Entry → List Entry → Bytes → Bytes → Option Bytes
body_value es fs p n = cond (in_body fs p && not (is_phandle n)) (value_at es (property_at p n)) None

-- 22: a fixup names a fragment's `target` at 0, or a cell of a body node's property
abbrev pub good_spot : List Entry → List Entry → Option Spot → Bool
good_spot es fs None = false
good_spot es fs (Some s) =
    (some (λ f. bytes_eq f.place.0 s.path) fs && (bytes_eq s.name (codes "target") && (s.offset == 0 && is_listed es (target_at s.path))))
    || holds_cell s.offset (body_value es fs s.path s.name)

-- one or more such strings, under a label that is not `phandle`
abbrev pub good_strings : List Entry → List Entry → List Bytes → Bool
good_strings es fs [] = false
good_strings es fs (s ∷ ss) = each (λ x. good_spot es fs (spot_of (split 58 [] x))) (s ∷ ss)

abbrev pub bad_fixup : List Entry → List Entry → Entry → Place → Bool
bad_fixup es fs e (p, None) = false
bad_fixup es fs e (p, Some n) = bytes_eq p fixups_path && (is_phandle n || not (good_strings es fs (strings e.value)))

-- 23: a local fixup lists offsets into a body node's property, each of a cell that holds a body node's phandle
abbrev pub good_cells : List ℕ → List ℕ → Option Bytes → Bool
good_cells hs os None = false
good_cells hs os (Some v) = each (λ o. nat_le (o + 4) (length v) && some (nat_eq (be32 v o)) hs) os

abbrev pub bad_local_at : List Entry → List Entry → List ℕ → Bytes → Bytes → Option Bytes → Bool
bad_local_at es fs hs n v None = false
bad_local_at es fs hs n v (Some r) = not (length v % 4 == 0 && good_cells hs (numbers v) (body_value es fs r n))

abbrev pub bad_local : List Entry → List Entry → List ℕ → Entry → Place → Bool
bad_local es fs hs e (p, None) = false
bad_local es fs hs e (p, Some n) = bad_local_at es fs hs n e.value (behind locals_path p)

-- the cells that an entry names, as a fixup or a local one
abbrev pub named_cells : Entry → Place → List Spot
named_cells e (p, None) = []
named_cells e (p, Some n) = cond (bytes_eq p fixups_path) (spots e.value) (locals_behind n e.value (behind locals_path p))

-- two cells that share a byte
abbrev pub shares : Spot → Spot → Bool
shares a b = (bytes_eq a.path b.path && bytes_eq a.name b.name) && (nat_lt a.offset (b.offset + 4) && nat_lt b.offset (a.offset + 4))

abbrev pub overlap : List Spot → List Spot → Bool
overlap seen [] = false
overlap seen (s ∷ ss) = some (shares s) seen || overlap (s ∷ seen) ss

-- a bad local fixup, or a token with a cell that shares a byte with one before
unfoldable pub cell_fault : (Entry → Bool) → List Spot → List Entry → Option ℕ
cell_fault bad seen [] = None
cell_fault bad seen (e ∷ es) =
    let cs = named_cells e e.place in
    cond (bad e || overlap seen cs) (Some e.at) (cell_fault bad (cs ++ seen) es)

-- 24: a symbol holds the path of a body node and a zero byte, under a label that is not `phandle`
abbrev pub body_node : List Entry → List Entry → Option Bytes → Bool
body_node es fs None = false
body_node es fs (Some p) = in_body fs p && is_listed es (node_at p)

abbrev pub bad_symbol : List Entry → List Entry → Entry → Place → Bool
bad_symbol es fs e (p, None) = false
bad_symbol es fs e (p, Some n) = bytes_eq p symbols_path && (is_phandle n || not (body_node es fs (zero_ended e.value)))

-- ---- the check

abbrev pub refused_at : ℕ → Option ℕ → Option Refusal → Option Refusal
refused_at c None rest = rest
refused_at c (Some at) rest = Some (c, at)

abbrev pub bad_count : ℕ → Bool
bad_count n = n == 0 || nat_lt 32 n

-- the refusal, if any, after the reader's own
unfoldable pub check : List Entry → Option Refusal
check es =
    let fs = fragment_nodes es in
    let bs = body_entries es in
    let bad = λ (e : Entry). bad_local es fs (body_handles bs) e e.place in
    refused_at 16 (handle_fault [] bs)
    (cond (bad_count (length fs)) (Some (20, 0))
    (refused_at 21 (first_fault (bad_fragment es) fs)
    (refused_at 22 (first_fault (λ e. bad_fixup es fs e e.place) es)
    (refused_at 23 (cell_fault bad [] es)
    (refused_at 24 (first_fault (λ e. bad_symbol es fs e e.place) es) None)))))
