-- Worked examples of plans. Assumes nothing.
use Rattle.std.specs.Prelude.{◌≡◌, ℕ, ◌+◌, List, [], ◌∷◌, ◌++◌, replicate, Some, None, Ok, Err, codes, Result}
use Rattle.tree.specs.Entries.{Entry}
use Rattle.tree.specs.Numbers.{bytes32}
use Rattle.tree.specs.Places.{Bytes}
use Rattle.tree.specs.Trees.{Tree}
use Rattle.overlay_rules.specs.Checks.{Refusal, check}
use Rattle.overlay_rules.specs.Overlays.{overlay_of}
use Rattle.overlay_rules.specs.Plans.{Plan, plan}
use Rattle.overlay_rules.specs.Queries.{run}
use Rattle.overlay_rules.specs.Samples.{node, property, text, fragment, to_path, to_number, fixup, on_body, base, base_with, sets_at, sets_on, adds_child}

abbrev pub plan_on : Tree → List Entry → ℕ → Result Plan Refusal
plan_on t es d = run t (plan (overlay_of es) d)

-- the label's cell, and a cell of the body's own
abbrev pub refers : List Entry
refers =
    fragment (to_path (codes "/soc"))
    (node 32 (codes "/f/__overlay__/dev") ∷ property 40 (codes "/f/__overlay__/dev") (codes "phandle") (bytes32 1)
    ∷ property 48 (codes "/f/__overlay__/dev") (codes "uses") (replicate 4 255 ++ bytes32 1)
    ∷ node 56 (codes "/__fixups__") ∷ fixup 64 (codes "bus") (codes "/f/__overlay__/dev:uses:0")
    ∷ node 72 (codes "/__local_fixups__") ∷ node 76 (codes "/__local_fixups__/f") ∷ node 80 (codes "/__local_fixups__/f/__overlay__")
    ∷ node 84 (codes "/__local_fixups__/f/__overlay__/dev") ∷ property 88 (codes "/__local_fixups__/f/__overlay__/dev") (codes "uses") (bytes32 4) ∷ [])

-- a symbol's place is a body property's too
abbrev pub sets_symbol : Bytes → List Entry
sets_symbol l = fragment (to_path (codes "/__symbols__")) (on_body 32 l (text (codes "/")) ∷ node 48 (codes "/__symbols__") ∷ property 56 (codes "/__symbols__") (codes "top") (text (codes "/f/__overlay__")) ∷ [])

-- names of 31 bytes under one another, seven of them below /soc
abbrev pub long : Bytes
long = 47 ∷ replicate 31 97

abbrev pub deep : List Entry
deep =
    fragment (to_path (codes "/soc"))
    (node 32 (codes "/f/__overlay__" ++ long) ∷ node 40 (codes "/f/__overlay__" ++ (long ++ long)) ∷ node 48 (codes "/f/__overlay__" ++ (long ++ (long ++ (long ++ (long ++ (long ++ (long ++ long)))))))
    ∷ node 56 (codes "/f/__overlay__" ++ (long ++ (long ++ (long ++ (long ++ (long ++ (long ++ (long ++ long)))))))) ∷ [])

-- what it reads and writes at the offset 5, its share, and its two references
abbrev pub refers_plan : Plan
refers_plan = record {
  reads = (codes "/__symbols__", None) ∷ (codes "/__symbols__", Some (codes "bus")) ∷ (codes "/soc/bus", None) ∷ (codes "/soc/bus", Some (codes "phandle"))
      ∷ (codes "/soc", None) ∷ (codes "/soc", None) ∷ [];
  writes = node 32 (codes "/soc/dev") ∷ property 40 (codes "/soc/dev") (codes "phandle") (bytes32 6)
      ∷ property 48 (codes "/soc/dev") (codes "uses") (bytes32 5 ++ bytes32 6) ∷ [];
  share = record { nodes = 1; properties = 2; weight = 4 + 12 + 13 };
  references = record { place = (codes "/soc/dev", Some (codes "uses")); offset = 0; meant = codes "/soc/bus" }
      ∷ record { place = (codes "/soc/dev", Some (codes "uses")); offset = 4; meant = codes "/soc/dev" } ∷ [];
}

pub record PlanExamples : Type 0 where
  pub checks : check refers ≡ None
  pub cells : plan_on base refers 5 ≡ Ok refers_plan
  -- 32: at the label: no such symbol
  pub no_label : plan_on base (sets_at (codes "cell") (codes "status") []) 5 ≡ Err (32, 56)
  -- 33: at the fragment: no such node, no such phandle
  pub no_node : plan_on base (sets_on (codes "/sic") (codes "status") []) 5 ≡ Err (33, 8)
  pub no_number : plan_on base (fragment (to_number 4) []) 5 ≡ Err (33, 8)
  -- 34: the last phandle is 0xfffffffe
  pub last : plan_on (base_with (bytes32 4294967294)) (adds_child (codes "g")) 4294967294 ≡ Err (34, 0)
  -- 35: the later of two that write one place
  pub twice : plan_on base (sets_symbol (codes "top")) 5 ≡ Err (35, 56)
  -- 36: a symbol that is there, a phandle that is there
  pub symbol_there : plan_on base (sets_symbol (codes "bus")) 5 ≡ Err (36, 32)
  pub handle_there : plan_on base (sets_on (codes "/soc/bus") (codes "phandle") (bytes32 1)) 5 ≡ Err (36, 32)
  -- 37: at the node whose path passes 255 bytes
  pub too_long : plan_on base deep 5 ≡ Err (37, 56)
