-- A plan as steps with early refusals, for the code that follows it. Assumes nothing.
use Rattle.std.specs.Prelude.{◌≡◌, ℕ, cond, List, map, Some, None, Ok, Err, Option, Result}
use Rattle.tree.specs.Entries.{Entry}
use Rattle.tree.specs.Places.{Place}
use Rattle.tree.specs.Trees.{Tree, look}
use Rattle.overlay_rules.specs.Checks.{Refusal}
use Rattle.overlay_rules.specs.Overlays.{Overlay}
use Rattle.overlay_rules.specs.Plans.{labelled, located, images, Touch, put, if_there, put_in, lowest, twice, once, again_at, long_at, overlay_handles, raised_past, planned, plan, allowed}
use Rattle.overlay_rules.specs.Queries.{run, for_each}
use Rattle.overlay_rules.specs.Texts.{pick}

-- go on with a result, or stay refused
abbrev pub then_ok : {A B : Type 0} → Result A Refusal → (A → Result B Refusal) → Result B Refusal
then_ok (Ok a) f = f a
then_ok (Err e) f = Err e

-- refused at a place, if there is one
abbrev pub refused_if : ℕ → Option ℕ → Result (Unit {0}) Refusal
refused_if c None = Ok tt
refused_if c (Some p) = Err (c, p)

abbrev pub or_refused : {A : Type 0} → Option A → ℕ → ℕ → Result A Refusal
or_refused None c p = Err (c, p)
or_refused (Some a) c p = Ok a

-- what an image does in a tree: a node that is there is read, all else is written
abbrev pub touch_at : Tree → Entry → Place → Touch
touch_at t e (p, None) = if_there e (look t e.place)
touch_at t e (p, Some n) = put e

abbrev pub touches_in : Tree → List Entry → List Touch
touches_in t es = map (λ e. touch_at t e e.place) es

-- what is written into a tree
abbrev pub puts_in : Tree → List Entry → List Entry
puts_in t es = pick put_in (touches_in t es)

-- the token of a place that may be set once and is there
abbrev pub again_in : Tree → Entry → Option ℕ
again_in t e = cond (once e.place) (again_at e.at (look t e.place)) None

pub record InSteps : Type 0 where
  -- the plan: labels, targets, raised phandles, writes
  pub plans : (t : Tree) (v : Overlay) (d : ℕ) → run t (plan v d) ≡
      then_ok (run t (for_each labelled v.labels)) (λ env.
      then_ok (run t (for_each (λ f. located env f f.target) v.fragments)) (λ ls.
      then_ok (refused_if 34 (raised_past d (overlay_handles v))) (λ u.
      then_ok (run t (allowed (puts_in t (images env d ls v)))) (λ c.
      Ok (planned env d ls v (touches_in t (images env d ls v)))))))
  -- the writes: none twice, none set again, none too long
  pub allows : (t : Tree) (ws : List Entry) → run t (allowed ws) ≡
      then_ok (refused_if 35 (twice ws)) (λ a. then_ok (refused_if 36 (lowest (again_in t) ws)) (λ b. refused_if 37 (lowest long_at ws)))
