-- What a plan that can be done has found, and what it asked. Assumes nothing.
use Rattle.std.proofs.Common.{◌≡◌, ℕ, ◌+◌, ◌≤◌, min, Bool, true, false, cond, ltb, ◌⊎◌, List, [], ◌∷◌, ◌++◌, length, Some, None, Ok, Option, Result, sym, refl, ap, ◌∙◌, subst, inl, inr, append-nil}
use Rattle.std.specs.List.{AllByRecursion}
use Rattle.std.proofs.lemmas.Bool.{ltb-false}
use Rattle.tree.specs.Entries.{Entry}
use Rattle.tree.specs.Numbers.{be32}
use Rattle.tree.specs.Phandles.{holder}
use Rattle.tree.specs.Places.{Bytes, Place, node_at, property_at}
use Rattle.tree.specs.Trees.{Tree, look}
use Rattle.tree.proofs.Maps.{some-none}
use Rattle.overlay_rules.specs.Texts.{pick, zero_ended}
use Rattle.overlay_rules.specs.Overlays.{symbols_path, phandle_at, Label, Target, by_path, by_number, by_label, Fragment, Overlay}
use Rattle.overlay_rules.specs.Queries.{Query, done, ask, ◌>>=◌, run, sought, asked, stop_at, for_each}
use Rattle.overlay_rules.specs.Plans.{Known, labelled, known, Located, node_there, number_there, located, images, Touch, there, put, if_there, touch, put_in, lower, lowest, later_of, twice, once, again_at, again, long_at, Plan, overlay_handles, raised_past, read_symbols, known_reads, planned, allowed, plan}
use Rattle.overlay_rules.specs.Laws.{Rising, In, Free}
use Rattle.overlay_rules.proofs.Lists.{all-at, all_from, some-false}
use Rattle.overlay_rules.proofs.Looks.{place-not, holder-found}
use Rattle.overlay_rules.proofs.Asking.{ok_one, run_bind, asked_bind, goes, stop-none, stop-asks, Gave, gave, gave-to, asked-each}
use Rattle.overlay_rules.proofs.Journals.{Distinct}

-- ---- labels

pub record Labelled (t : Tree) (l : Label) (k : Known) : Type 0 where
  pub name : k.name ≡ l.name
  pub symbol : Bytes
  pub symbol_is : look t (property_at symbols_path l.name) ≡ Some symbol
  pub path_is : zero_ended symbol ≡ Some k.path
  pub node : Bytes
  pub node_is : look t (node_at k.path) ≡ Some node
  pub handle : Bytes
  pub handle_is : look t (phandle_at k.path) ≡ Some handle
  pub number : k.number ≡ be32 handle 0
  pub asks : asked t (labelled l) ≡ known_reads k

pub labelled-is : (t : Tree) (l : Label) (k : Known) → run t (labelled l) ≡ Ok k → Labelled t l k
unfolding labelled run asked ◌>>=◌
labelled-is t l k h =
    let A = property_at symbols_path l.name in
    let n1 = goes t (look t A) 32 l.at _ k h in
    let n2 = goes t (zero_ended n1.value) 32 l.at _ k n1.rest in
    let p = n2.value in
    let n3 = goes t (look t (node_at p)) 32 l.at _ k n2.rest in
    let n4 = goes t (look t (phandle_at p)) 32 l.at _ k n3.rest in
    let e = ok_one n4.rest in
    let ep : p ≡ k.path = ap (λ z. z.path) e in
    record {
      name = sym (ap (λ z. z.name) e);
      symbol = n1.value;
      symbol_is = n1.is;
      path_is = n2.is ∙ ap Some ep;
      node = n3.value;
      node_is = ap (λ z. look t (node_at z)) (sym ep) ∙ n3.is;
      handle = n4.value;
      handle_is = ap (λ z. look t (phandle_at z)) (sym ep) ∙ n4.is;
      number = sym (ap (λ z. z.number) e);
      asks =
          ap (λ z. A ∷ z) (n1.asks ∙ n2.asks ∙ ap (λ z. node_at p ∷ z) (n3.asks ∙ ap (λ z. phandle_at p ∷ z) n4.asks))
          ∙ (λ i. property_at symbols_path (e i).name ∷ node_at (e i).path ∷ phandle_at (e i).path ∷ []);
    }

-- ---- targets

pub record LocatedAt (t : Tree) (f : Fragment) (q : Query Located) (l : Located) : Type 0 where
  pub body : l.body ≡ f.body
  pub node : Bytes
  pub node_is : look t (node_at l.to) ≡ Some node
  pub asks : asked t q ≡ l.reads
  -- the target's node, and its phandle where it was sought by that: both are there
  pub firm : Rising t → (k : Place) → In k l.reads → ((v : Bytes) × (look t k ≡ Some v)) × ((k ≡ node_at l.to) ⊎ (k ≡ phandle_at l.to))

node-located : (t : Tree) (f : Fragment) (rs : List Place) (p : Bytes) (l : Located) → run t (node_there f rs p) ≡ Ok l
    → (l.body ≡ f.body) × (p ≡ l.to) × ((n : Bytes) × (look t (node_at l.to) ≡ Some n)) × (asked t (node_there f rs p) ≡ node_at p ∷ []) × (rs ++ node_at p ∷ [] ≡ l.reads)
unfolding node_there run asked ◌>>=◌
node-located t f rs p l h =
    let n = goes t (look t (node_at p)) 33 f.at _ l h in
    let e = ok_one n.rest in
    let ep : p ≡ l.to = ap (λ z. z.to) e in
    (sym (ap (λ z. z.body) e), ep, (n.value, ap (λ z. look t (node_at z)) (sym ep) ∙ n.is), ap (λ z. node_at p ∷ z) n.asks, ap (λ z. z.reads) e)

path-located : (t : Tree) (f : Fragment) (p : Bytes) (l : Located) → run t (node_there f [] p) ≡ Ok l → LocatedAt t f (node_there f [] p) l
path-located t f p l h =
    let x = node-located t f [] p l h in
    record {
      body = x.0;
      node = x.2.0;
      node_is = x.2.1;
      asks = x.3 ∙ x.4;
      firm = λ r k i. one k x.2 (subst (In k) (sym x.4 ∙ ap (λ z. node_at z ∷ []) x.1) i);
    }
  where
    one : (k : Place) → (n : Bytes) × (look t (node_at l.to) ≡ Some n) → In k (node_at l.to ∷ []) → ((v : Bytes) × (look t k ≡ Some v)) × ((k ≡ node_at l.to) ⊎ (k ≡ phandle_at l.to))
    one k n (inl e) = ((n.0, ap (look t) e ∙ n.1), inl e)
    one k n (inr j) = absurd j

number-located : (t : Tree) (f : Fragment) (n : ℕ) (l : Located) → run t (number_there f n) ≡ Ok l → LocatedAt t f (number_there f n) l
unfolding number_there run asked ◌>>=◌
number-located t f n l h =
    let g = goes t (holder t n) 33 f.at _ l h in
    let p = g.value in
    let x = node-located t f (phandle_at p ∷ []) p l g.rest in
    record {
      body = x.0;
      node = x.2.0;
      node_is = x.2.1;
      asks = ap (λ z. sought (holder t n) ++ z) (g.asks ∙ x.3) ∙ ap (λ z. sought z ++ (node_at p ∷ [])) g.is ∙ x.4;
      firm = λ r k i.
          let hf = holder-found t n p r g.is in
          two k x.2 (hf.0, ap (λ z. look t (phandle_at z)) (sym x.1) ∙ hf.1) (subst (In k) (sym x.4 ∙ ap (λ z. phandle_at z ∷ node_at z ∷ []) x.1) i);
    }
  where
    two : (k : Place) → (n : Bytes) × (look t (node_at l.to) ≡ Some n) → (v : Bytes) × (look t (phandle_at l.to) ≡ Some v) → In k (phandle_at l.to ∷ node_at l.to ∷ []) → ((v : Bytes) × (look t k ≡ Some v)) × ((k ≡ node_at l.to) ⊎ (k ≡ phandle_at l.to))
    two k n v (inl e) = ((v.0, ap (look t) e ∙ v.1), inr e)
    two k n v (inr (inl e)) = ((n.0, ap (look t) e ∙ n.1), inl e)
    two k n v (inr (inr j)) = absurd j

pub located-is : (t : Tree) (env : List Known) (f : Fragment) (a : Target) (l : Located) → run t (located env f a) ≡ Ok l → LocatedAt t f (located env f a) l
located-is t env f (by_path p) l h = path-located t f p l h
located-is t env f (by_number n) l h = number-located t f n l h
located-is t env f (by_label b) l h = number-located t f (known env b).number l h

-- ---- touches

pub record Was (t : Tree) (e : Entry) (k : Place) (x : Touch) : Type 0 where
  pub is : x ≡ there e.place
  pub value : Bytes
  pub value_is : look t e.place ≡ Some value
  pub asks : asked t (touch e k) ≡ e.place ∷ []
  pub node : k.1 ≡ None

pub record New (t : Tree) (e : Entry) (k : Place) (x : Touch) : Type 0 where
  pub is : x ≡ put e
  pub absent : k.1 ≡ None → look t e.place ≡ None
  pub asks : (j : Place) → In j (asked t (touch e k)) → j ≡ e.place

pub touch_is : (t : Tree) (e : Entry) (k : Place) (x : Touch) → run t (touch e k) ≡ Ok x → Was t e k x ⊎ New t e k x
unfolding run asked
touch_is t e (p, None) x h = go (look t e.place) refl h
  where
    one : (j : Place) → In j (e.place ∷ []) → j ≡ e.place
    one j (inl e) = e
    one j (inr i) = absurd i

    go : (w : Option Bytes) → look t e.place ≡ w → ◌≡◌ {A = Result Touch (ℕ × ℕ)} (Ok (if_there e w)) (Ok x) → Was t e (p, None) x ⊎ New t e (p, None) x
    go None a g = inr (record { is = sym (ok_one g); absent = λ z. a; asks = one })
    go (Some v) a g = inl (record { is = sym (ok_one g); value = v; value_is = a; asks = refl; node = refl })
touch_is t e (p, Some n) x h = inr (record { is = sym (ok_one h); absent = λ z. absurd (some-none n z); asks = λ j i. absurd i })

-- ---- refusals of writes

lower-none : (a b : Option ℕ) → lower a b ≡ None → (a ≡ None) × (b ≡ None)
lower-none None b h = (refl, h)
lower-none (Some m) None h = absurd (some-none m h)
lower-none (Some m) (Some n) h = absurd (some-none (min m n) h)

pub lowest-none : {A : Type 0} (f : A → Option ℕ) (xs : List A) → lowest f xs ≡ None → AllByRecursion (λ x. f x ≡ None) xs
unfolding lowest
lowest-none f [] h = tt
lowest-none f (x ∷ xs) h = let n = lower-none _ _ h in (n.0, lowest-none f xs n.1)

cond-none : (b : Bool) (m : ℕ) → cond b (Some m) None ≡ None → b ≡ false
cond-none true m h = absurd (some-none m h)
cond-none false m h = refl

pub twice-none : (ws : List Entry) → twice ws ≡ None → Distinct ws
unfolding twice
twice-none [] h = tt
twice-none (w ∷ ws) h =
    let n = lower-none _ _ h in
    (apart ws (lowest-none (later_of w) ws n.0), twice-none ws n.1)
  where
    apart : (xs : List Entry) → AllByRecursion (λ f. later_of w f ≡ None) xs → Free xs w.place
    apart [] h = tt
    apart (f ∷ xs) h = (place-not w.place f.place (cond-none _ _ h.0), apart xs h.1)

-- what may be set once is absent
again-absent : (t : Tree) (e : Entry) (o : Option ℕ) → run t (again e) ≡ Ok o → o ≡ None → once e.place ≡ true → look t e.place ≡ None
unfolding again run
again-absent t e o h n b = go (look t e.place) refl (subst (λ z. run t (cond z (ask e.place (λ w. done (again_at e.at w))) (done None)) ≡ Ok o) b h)
  where
    go : (w : Option Bytes) → look t e.place ≡ w → ◌≡◌ {A = Result (Option ℕ) (ℕ × ℕ)} (Ok (again_at e.at w)) (Ok o) → look t e.place ≡ None
    go None a g = a
    go (Some v) a g = absurd (some-none e.at (ok_one g ∙ n))

again-asks : (t : Tree) (e : Entry) (k : Place) → In k (asked t (again e)) → k ≡ e.place
unfolding again asked
again-asks t e k i = go (once e.place) i
  where
    go : (b : Bool) → In k (asked t (cond b (ask e.place (λ w. done (again_at e.at w))) (done None))) → k ≡ e.place
    go true (inl p) = p
    go true (inr j) = absurd j
    go false j = absurd j

pub record Allowed (t : Tree) (ws : List Entry) : Type 0 where
  pub distinct : Distinct ws
  pub absent : AllByRecursion (λ e. once e.place ≡ true → look t e.place ≡ None) ws
  pub short : AllByRecursion (λ e. length e.place.0 ≤ 255) ws
  pub asks : (k : Place) → In k (asked t (allowed ws)) → (e : Entry) × In e ws × (k ≡ e.place)

agains : (t : Tree) (ws : List Entry) (fs : List (Option ℕ)) → Gave t again ws fs → AllByRecursion (λ f. f ≡ None) fs → AllByRecursion (λ e. once e.place ≡ true → look t e.place ≡ None) ws
agains t ws fs g n = all_from _ ws (λ e i. let r = gave-to t again ws fs e g i in again-absent t e r.0 r.2 (all-at (λ f. f ≡ None) r.0 fs n r.1))

shorts : (ws : List Entry) → AllByRecursion (λ e. long_at e ≡ None) ws → AllByRecursion (λ e. length e.place.0 ≤ 255) ws
shorts [] h = tt
shorts (e ∷ ws) h = (ltb-false _ _ (cond-none _ _ h.0), shorts ws h.1)

pub allowed-is : (t : Tree) (ws : List Entry) (u : Unit {0}) → run t (allowed ws) ≡ Ok u → Allowed t ws
unfolding allowed
allowed-is t ws u h =
    let a = run_bind t (stop_at 35 (twice ws)) _ u h in
    let b = run_bind t (for_each again ws) _ u a.2 in
    let c = run_bind t (stop_at 36 (lowest (λ f. f) b.0)) _ u b.2 in
    let e1 = asked_bind t (stop_at 35 (twice ws)) (λ z. for_each again ws >>= λ fs. stop_at 36 (lowest (λ f. f) fs) >>= λ y. stop_at 37 (lowest long_at ws)) a.0 a.1 in
    let e2 = asked_bind t (for_each again ws) (λ fs. stop_at 36 (lowest (λ f. f) fs) >>= λ y. stop_at 37 (lowest long_at ws)) b.0 b.1 in
    let e3 = asked_bind t (stop_at 36 (lowest (λ f. f) b.0)) (λ y. stop_at 37 (lowest long_at ws)) c.0 c.1 in
    let e : asked t (allowed ws) ≡ asked t (for_each again ws) ++ [] =
    e1 ∙ (λ i. stop-asks t 35 (twice ws) i ++ e2 i) ∙ ap (λ z. asked t (for_each again ws) ++ z) (e3 ∙ (λ i. stop-asks t 36 (lowest (λ f. f) b.0) i ++ stop-asks t 37 (lowest long_at ws) i)) in
    record {
      distinct = twice-none ws (stop-none t 35 (twice ws) a.0 a.1);
      absent = agains t ws b.0 (gave t again ws b.0 b.1) (lowest-none (λ f. f) b.0 (stop-none t 36 _ c.0 c.1));
      short = shorts ws (lowest-none long_at ws (stop-none t 37 _ u c.2));
      asks = λ k i.
          let r = asked-each t again ws b.0 k b.1 (subst (In k) (e ∙ append-nil _) i) in
          (r.0, r.1, again-asks t r.0 k r.2);
    }

-- ---- the whole plan

raised-none : (d : ℕ) (ns : List ℕ) → raised_past d ns ≡ None → AllByRecursion (λ n. n + d ≤ 4294967294) ns
raised-none d ns h = all_from _ ns (λ n i. ltb-false _ _ (all-at _ n ns (some-false (λ n. ltb 4294967294 (n + d)) ns (cond-none _ _ h)) i))

abbrev pub touch_all : List Entry → Query (List Touch)
touch_all es = for_each (λ e. touch e e.place) es

-- what a plan that can be done went through
pub record Planned (t : Tree) (v : Overlay) (d : ℕ) (p : Plan) : Type 0 where
  pub env : List Known
  pub ls : List Located
  pub ts : List Touch
  pub is : planned env d ls v ts ≡ p
  pub labels : run t (for_each labelled v.labels) ≡ Ok env
  pub targets : run t (for_each (λ f. located env f f.target) v.fragments) ≡ Ok ls
  pub raised : AllByRecursion (λ n. n + d ≤ 4294967294) (overlay_handles v)
  pub touched : run t (touch_all (images env d ls v)) ≡ Ok ts
  pub allows : Allowed t (pick put_in ts)
  pub asks : asked t (plan v d) ≡ asked t (read_symbols v) ++ (asked t (for_each labelled v.labels) ++ (asked t (for_each (λ f. located env f f.target) v.fragments) ++ (asked t (touch_all (images env d ls v)) ++ asked t (allowed (pick put_in ts)))))

last-asks : (t : Tree) (ks : List Place) (p : Plan) → ks ++ asked t (done p) ≡ ks
unfolding asked
last-asks t ks p = append-nil ks

pub plan-is : (t : Tree) (v : Overlay) (d : ℕ) (p : Plan) → run t (plan v d) ≡ Ok p → Planned t v d p
unfolding plan
plan-is t v d p h =
    let q6 : List Known → List Located → List Touch → Unit {0} → Query Plan = λ env ls ts c. done (planned env d ls v ts) in
    let q5 : List Known → List Located → List Touch → Query Plan = λ env ls ts. allowed (pick put_in ts) >>= q6 env ls ts in
    let q4 : List Known → List Located → Unit {0} → Query Plan = λ env ls n. touch_all (images env d ls v) >>= q5 env ls in
    let q3 : List Known → List Located → Query Plan = λ env ls. stop_at 34 (raised_past d (overlay_handles v)) >>= q4 env ls in
    let q2 : List Known → Query Plan = λ env. for_each (λ f. located env f f.target) v.fragments >>= q3 env in
    let q1 : Unit {0} → Query Plan = λ u. for_each labelled v.labels >>= q2 in
    let a = run_bind t (read_symbols v) q1 p h in
    let b = run_bind t (for_each labelled v.labels) q2 p a.2 in
    let c = run_bind t (for_each (λ f. located b.0 f f.target) v.fragments) (q3 b.0) p b.2 in
    let e = run_bind t (stop_at 34 (raised_past d (overlay_handles v))) (q4 b.0 c.0) p c.2 in
    let f = run_bind t (touch_all (images b.0 d c.0 v)) (q5 b.0 c.0) p e.2 in
    let g = run_bind t (allowed (pick put_in f.0)) (q6 b.0 c.0 f.0) p f.2 in
    record {
      env = b.0;
      ls = c.0;
      ts = f.0;
      is = unfold run in ok_one g.2;
      labels = b.1;
      targets = c.1;
      raised = raised-none d (overlay_handles v) (stop-none t 34 _ e.0 e.1);
      touched = f.1;
      allows = allowed-is t (pick put_in f.0) g.0 g.1;
      asks =
          asked_bind t (read_symbols v) q1 a.0 a.1
          ∙ ap (λ z. asked t (read_symbols v) ++ z) (asked_bind t (for_each labelled v.labels) q2 b.0 b.1
          ∙ ap (λ z. asked t (for_each labelled v.labels) ++ z) (asked_bind t (for_each (λ f. located b.0 f f.target) v.fragments) (q3 b.0) c.0 c.1
          ∙ ap (λ z. asked t (for_each (λ f. located b.0 f f.target) v.fragments) ++ z) (asked_bind t (stop_at 34 (raised_past d (overlay_handles v))) (q4 b.0 c.0) e.0 e.1
          ∙ ap (λ z. z ++ asked t (q4 b.0 c.0 e.0)) (stop-asks t 34 _)
          ∙ asked_bind t (touch_all (images b.0 d c.0 v)) (q5 b.0 c.0) f.0 f.1
          ∙ ap (λ z. asked t (touch_all (images b.0 d c.0 v)) ++ z) (asked_bind t (allowed (pick put_in f.0)) (q6 b.0 c.0 f.0) g.0 g.1 ∙ last-asks t _ _))));
    }
