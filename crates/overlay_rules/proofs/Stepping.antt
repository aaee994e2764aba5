-- A plan as steps with early refusals. Assumes nothing.
use Rattle.std.proofs.Common.{◌≡◌, ℕ, Bool, true, false, cond, List, [], ◌∷◌, map, Some, None, Ok, Err, Option, Result, refl, ap, ◌∙◌}
use Rattle.tree.specs.Entries.{Entry}
use Rattle.tree.specs.Phandles.{holder}
use Rattle.tree.specs.Places.{Place, node_at}
use Rattle.tree.specs.Trees.{Tree, look}
use Rattle.overlay_rules.specs.Checks.{Refusal}
use Rattle.overlay_rules.specs.Overlays.{symbols_path, Overlay}
use Rattle.overlay_rules.specs.Plans.{Known, labelled, Located, located, images, Touch, touch, put_in, lowest, lower, twice, once, again_at, again, long_at, Plan, overlay_handles, raised_past, has_labels, read_symbols, planned, plan, allowed}
use Rattle.overlay_rules.specs.Queries.{Query, done, refuse, ask, seek, ◌>>=◌, run, need, stop_at, for_each}
use Rattle.overlay_rules.specs.Steps.{then_ok, refused_if, or_refused, touch_at, touches_in, puts_in, again_in, InSteps}
use Rattle.overlay_rules.specs.Texts.{pick}

pub run_then : {A B : Type 0} (t : Tree) (m : Query A) (f : A → Query B) → run t (m >>= f) ≡ then_ok (run t m) (λ a. run t (f a))
unfolding run ◌>>=◌
run_then t (done a) f = refl
run_then t (refuse c p) f = refl
run_then t (ask k g) f = run_then t (g (look t k)) f
run_then t (seek n g) f = run_then t (g (holder t n)) f

pub run-need : {A : Type 0} (t : Tree) (o : Option A) (c p : ℕ) → run t (need o c p) ≡ or_refused o c p
unfolding run
run-need t None c p = refl
run-need t (Some a) c p = refl

pub run-stop : (t : Tree) (c : ℕ) (o : Option ℕ) → run t (stop_at c o) ≡ refused_if c o
unfolding run
run-stop t c None = refl
run-stop t c (Some p) = refl

run-done : {A : Type 0} (t : Tree) (a : A) → run t (done a) ≡ Ok a
unfolding run
run-done t a = refl

-- a first step whose result is known
pub run-first : {A B : Type 0} (t : Tree) (m : Query A) (f : A → Query B) (r : Result A Refusal) → run t m ≡ r → run t (m >>= f) ≡ then_ok r (λ a. run t (f a))
run-first t m f r h = run_then t m f ∙ ap (λ z. then_ok z (λ a. run t (f a))) h

-- results that are equal for all values go on alike
pub then_same : {A B : Type 0} (r : Result A Refusal) (f g : A → Result B Refusal) → ((a : A) → f a ≡ g a) → then_ok r f ≡ then_ok r g
then_same (Ok a) f g h = h a
then_same (Err e) f g h = refl

pub run-pass : {A B : Type 0} (t : Tree) (f : A → Query B) (x : A) (xs : List A) → run t (for_each f (x ∷ xs)) ≡ then_ok (run t (f x)) (λ b. then_ok (run t (for_each f xs)) (λ bs. Ok (b ∷ bs)))
unfolding for_each
run-pass t f x xs = run_then t (f x) _ ∙ then_same (run t (f x)) _ _ (λ b. run_then t (for_each f xs) _ ∙ then_same (run t (for_each f xs)) _ _ (λ bs. run-done t (b ∷ bs)))

-- a pass that never refuses
pub run-all : {A B : Type 0} (t : Tree) (f : A → Query B) (g : A → B) → ((a : A) → run t (f a) ≡ Ok (g a)) → (xs : List A) → run t (for_each f xs) ≡ Ok (map g xs)
run-all t f g h [] = unfold for_each run in refl
run-all t f g h (x ∷ xs) = run-pass t f x xs ∙ ap (λ r. then_ok r (λ b. then_ok (run t (for_each f xs)) (λ bs. Ok (b ∷ bs)))) (h x) ∙ ap (λ r. then_ok r (λ bs. Ok (g x ∷ bs))) (run-all t f g h xs)

run-touch : (t : Tree) (e : Entry) (k : Place) → run t (touch e k) ≡ Ok (touch_at t e k)
unfolding run
run-touch t e (p, None) = refl
run-touch t e (p, Some n) = refl

pub run-touches : (t : Tree) (es : List Entry) → run t (for_each (λ e. touch e e.place) es) ≡ Ok (touches_in t es)
run-touches t es = run-all t (λ e. touch e e.place) (λ e. touch_at t e e.place) (λ e. run-touch t e e.place) es

run-again : (t : Tree) (e : Entry) → run t (again e) ≡ Ok (again_in t e)
unfolding run again
run-again t e = go (once e.place)
  where
    go : (b : Bool) → run t (cond b (ask e.place (λ w. done (again_at e.at w))) (done None)) ≡ Ok (cond b (again_at e.at (look t e.place)) None)
    go true = refl
    go false = refl

run-symbols : (t : Tree) (v : Overlay) → run t (read_symbols v) ≡ Ok tt
unfolding run read_symbols
run-symbols t v = go (has_labels v)
  where
    go : (b : Bool) → run {A = Unit {0}} t (cond b (ask (node_at symbols_path) (λ u. done tt)) (done tt)) ≡ Ok tt
    go true = refl
    go false = refl

lowest-map : (f : Entry → Option ℕ) (ws : List Entry) → lowest (λ o. o) (map f ws) ≡ lowest f ws
unfolding lowest
lowest-map f [] = refl
lowest-map f (w ∷ ws) = ap (lower (f w)) (lowest-map f ws)

run-allowed : (t : Tree) (ws : List Entry) → run t (allowed ws) ≡ then_ok (refused_if 35 (twice ws)) (λ a. then_ok (refused_if 36 (lowest (again_in t) ws)) (λ b. refused_if 37 (lowest long_at ws)))
unfolding allowed
run-allowed t ws =
    let p3 : Unit {0} → Query (Unit {0}) = λ y. stop_at 37 (lowest long_at ws) in
    let p2 : List (Option ℕ) → Query (Unit {0}) = λ fs. stop_at 36 (lowest (λ f. f) fs) >>= p3 in
    let p1 : Unit {0} → Query (Unit {0}) = λ a. for_each again ws >>= p2 in
    let marks = map (again_in t) ws in
    run-first t (stop_at 35 (twice ws)) p1 (refused_if 35 (twice ws)) (run-stop t 35 (twice ws))
    ∙ then_same (refused_if 35 (twice ws)) _ _ (λ a.
    run-first t (for_each again ws) p2 (Ok marks) (run-all t again (again_in t) (run-again t) ws)
    ∙ run-first t (stop_at 36 (lowest (λ f. f) marks)) p3 (refused_if 36 (lowest (again_in t) ws)) (run-stop t 36 (lowest (λ f. f) marks) ∙ ap (refused_if 36) (lowest-map (again_in t) ws))
    ∙ then_same (refused_if 36 (lowest (again_in t) ws)) _ _ (λ b. run-stop t 37 (lowest long_at ws)))

run-plan : (t : Tree) (v : Overlay) (d : ℕ) → run t (plan v d) ≡
    then_ok (run t (for_each labelled v.labels)) (λ env.
    then_ok (run t (for_each (λ f. located env f f.target) v.fragments)) (λ ls.
    then_ok (refused_if 34 (raised_past d (overlay_handles v))) (λ u.
    then_ok (run t (allowed (puts_in t (images env d ls v)))) (λ c.
    Ok (planned env d ls v (touches_in t (images env d ls v)))))))
unfolding plan
run-plan t v d =
    let q6 : List Known → List Located → List Touch → Unit {0} → Query Plan = λ env ls ts c. done (planned env d ls v ts) in
    let q5 : List Known → List Located → List Touch → Query Plan = λ env ls ts. allowed (pick put_in ts) >>= q6 env ls ts in
    let q4 : List Known → List Located → Unit {0} → Query Plan = λ env ls n. for_each (λ e. touch e e.place) (images env d ls v) >>= q5 env ls in
    let q3 : List Known → List Located → Query Plan = λ env ls. stop_at 34 (raised_past d (overlay_handles v)) >>= q4 env ls in
    let q2 : List Known → Query Plan = λ env. for_each (λ f. located env f f.target) v.fragments >>= q3 env in
    let q1 : Unit {0} → Query Plan = λ u. for_each labelled v.labels >>= q2 in
    run-first t (read_symbols v) q1 (Ok tt) (run-symbols t v)
    ∙ run_then t (for_each labelled v.labels) q2 ∙ then_same (run t (for_each labelled v.labels)) _ _ (λ env.
    run_then t (for_each (λ f. located env f f.target) v.fragments) (q3 env) ∙ then_same (run t (for_each (λ f. located env f f.target) v.fragments)) _ _ (λ ls.
    run-first t (stop_at 34 (raised_past d (overlay_handles v))) (q4 env ls) (refused_if 34 (raised_past d (overlay_handles v))) (run-stop t 34 (raised_past d (overlay_handles v))) ∙ then_same (refused_if 34 (raised_past d (overlay_handles v))) _ _ (λ u.
    run-first t (for_each (λ e. touch e e.place) (images env d ls v)) (q5 env ls) (Ok (touches_in t (images env d ls v))) (run-touches t (images env d ls v))
    ∙ run_then t (allowed (puts_in t (images env d ls v))) (q6 env ls (touches_in t (images env d ls v))) ∙ then_same (run t (allowed (puts_in t (images env d ls v)))) _ _ (λ c. run-done t (planned env d ls v (touches_in t (images env d ls v)))))))

pub in-steps : InSteps
in-steps = record { plans = run-plan; allows = run-allowed }
