-- One token of a blob after the other, as writes to a store. Assumes nothing.
use Rattle.std.proofs.Common.{◌≡◌, ℕ, ◌^◌, ◌<◌, ◌≤◌, true, eqb, leb, List, [], ◌∷◌, ◌++◌, length, Some, Ok, Err, drop, Result, sym, refl, ap, ◌∙◌, subst, append_assoc, append-nil, length-append, arith}
use Rattle.std.proofs.lemmas.Bool.{and_parts, cond-true, leb-true, le-leb, true≢false}
use Rattle.store.specs.declared.Refusal.{Refusal}
use Rattle.store.specs.declared.Refusal.TheVariants.{Limit}
use Rattle.names.specs.Names.{each, node_name}
use Rattle.names.specs.Paths.{root, stem, child, parent}
use Rattle.names.proofs.NameLaws.{node_names}
use Rattle.names.proofs.PathLaws.{child_parent, root_ends}
use Rattle.store.specs.Calls.{Meaning, holds, add_node, set_property, changed}
use Rattle.tree.specs.Entries.{Entry, listed, tree_of, well_listed}
use Rattle.tree.specs.Places.{Bytes, node_at, property_at}
use Rattle.tree.specs.Trees.{roomy, short_place}
use Rattle.blob.specs.Tokens.{Tok, begin, property, end, nop, finish}
use Rattle.reader.specs.Format.{Spelt, node_entry, property_entry}
use Rattle.reader.specs.Handing.{named_item, until}
use Rattle.reader.specs.Reading.{entries, innermost, outer}
use Rattle.loader.specs.Filling.{BlobFeeds, Loads}
use Rattle.loader.specs.Loading.{root_tree, grow}
use Rattle.loader.specs.Writing.{answered, written, onward, then_run, run}
use Rattle.loader.proofs.Trails.{some_parent}
use Rattle.loader.proofs.Growing.{grown, Ready, ready, node-granted, property-granted, grow_last, root-stays}

-- each path's parent is the next one, and the last is the root's
abbrev pub Chain : List Bytes → Type 0
Chain [] = Unit {0}
Chain (p ∷ []) = p ≡ root
Chain (p ∷ (q ∷ qs)) = (parent p ≡ q) × Chain (q ∷ qs)

-- the entries of ls are written, those of xs are to come; the open nodes have these paths
pub record Going (xs : Spelt) (path : Bytes) (m : Meaning) (boot : ℕ) (es : List Entry) : Type 0 where
  pub ls : List Entry
  pub paths : List Bytes
  pub split : es ≡ ls ++ entries paths xs
  pub tree : m ≡ holds (grow (root_tree boot) ls)
  pub named : each named_item xs ≡ true
  pub here : innermost paths ≡ path
  pub chain : Chain paths

-- tokens behind the root's beginning, whose entries come in a good order behind the root's and are within the limits
pub record Feeds (xs : Spelt) (boot : ℕ) (first : Entry) (es : List Entry) : Type 0 where
  pub lists : entries (root ∷ []) xs ≡ es
  pub named : each named_item xs ≡ true
  pub good : well_listed (first ∷ es) ≡ true
  pub room : roomy (listed (first ∷ es)) ≡ true
  pub low : boot < 2 ^ 32

module _ (boot : ℕ) (first : Entry) (es : List Entry) (good : well_listed (first ∷ es) ≡ true) (room : roomy (listed (first ∷ es)) ≡ true) (low : boot < 2 ^ 32) where
  -- there is one root, and the next entry is one that the store takes
  due : (ls : List Entry) (e : Entry) (bs : List Entry) → es ≡ ls ++ (e ∷ bs) → Ready (grow (root_tree boot) ls) e
  due ls e bs s = ready boot first ls e bs (subst (λ z. well_listed (first ∷ z) ≡ true) s good) (subst (λ z. roomy (listed (first ∷ z)) ≡ true) s room) low

  -- one entry more is written
  more : (ls : List Entry) (e : Entry) (m : Meaning) → m ≡ holds (grow (root_tree boot) ls) → changed m e.place (Some e.value) ≡ holds (grow (root_tree boot) (ls ++ (e ∷ [])))
  more ls e m h = ap (λ z. changed z e.place (Some e.value)) h ∙ ap holds (sym (grow_last (root_tree boot) ls e))

  pub record Enters (at : ℕ) (name : Bytes) (xs : Spelt) (path : Bytes) (m : Meaning) : Type 0 where
    pub short : length (child path name) ≤ 255
    pub granted : add_node m (child path name) ≡ Ok tt
    pub going : Going xs (child path name) (changed m (node_at (child path name)) (Some [])) boot es

  module _ (at : ℕ) (name : Bytes) (xs : Spelt) (path : Bytes) (m : Meaning) where
    enters_on : (paths : List Bytes) (ls : List Entry) → es ≡ ls ++ entries paths ((at, begin name) ∷ xs) → m ≡ holds (grow (root_tree boot) ls) → node_name name ≡ true → each named_item xs ≡ true → innermost paths ≡ path → Chain paths → 0 < length path → Enters at name xs path m
    unfolding entries
    enters_on [] ls split tree ok rest here chain long =
        let r = due ls (node_entry at root) (entries (root ∷ []) xs) split in
        let t = root-stays boot first es ls (node_entry at root) (entries (root ∷ []) xs) good split in
        let z : ◌≡◌ {A = ℕ} 0 1 = let a = r.absent in cc in absurd (omega arith)
    enters_on (q ∷ qs) ls split tree ok rest here chain long =
        let e : Entry = node_entry at (child q name) in
        let r = due ls e (entries (child q name ∷ q ∷ qs) xs) split in
        let s = (and_parts (short_place (node_at (child q name)) []) _ r.fits).0 in
        let l : length (child q name) ≤ 255 = leb-true _ 255 (and_parts (leb (length (child q name)) 255) true s).0 in
        let up : parent (child q name) ≡ q = child_parent q name (subst (λ z. 0 < length z) (sym here) long) (node_names name ok).0 in
        record {
          short = subst (λ z. length (child z name) ≤ 255) here l;
          granted = subst (λ z. add_node m (child z name) ≡ Ok tt) here (ap (λ z. add_node z (child q name)) tree ∙ node-granted (grow (root_tree boot) ls) at (child q name) [] r refl);
          going = subst (λ z. Going xs (child z name) (changed m (node_at (child z name)) (Some [])) boot es) here (record {
            ls = ls ++ (e ∷ []);
            paths = child q name ∷ q ∷ qs;
            split = split ∙ sym (append_assoc ls (e ∷ []) (entries (child q name ∷ q ∷ qs) xs));
            tree = more ls e m tree;
            named = rest;
            here = refl;
            chain = (up, chain);
          });
        }

    pub enters : Going ((at, begin name) ∷ xs) path m boot es → 0 < length path → Enters at name xs path m
    enters g long =
        let n = and_parts (node_name name) (each named_item xs) g.named in
        enters_on g.paths g.ls g.split g.tree n.0 n.1 g.here g.chain long

  pub record Sets (name value : Bytes) (xs : Spelt) (path : Bytes) (m : Meaning) : Type 0 where
    pub granted : set_property m path name value ≡ Ok tt
    pub going : Going xs path (changed m (property_at path name) (Some value)) boot es

  pub sets : (at : ℕ) (name value : Bytes) (xs : Spelt) (path : Bytes) (m : Meaning) → Going ((at, property name value) ∷ xs) path m boot es → Sets name value xs path m
  unfolding entries
  sets at name value xs path m g =
      let q = innermost g.paths in
      let e : Entry = property_entry at (innermost g.paths) name value in
      let r = due g.ls e (entries g.paths xs) g.split in
      record {
        granted = subst (λ z. set_property m z name value ≡ Ok tt) g.here (ap (λ z. set_property z (innermost g.paths) name value) g.tree ∙ property-granted (grow (root_tree boot) g.ls) at (innermost g.paths) name value r);
        going = subst (λ z. Going xs path (changed m (property_at z name) (Some value)) boot es) g.here (record {
          ls = g.ls ++ (e ∷ []);
          paths = g.paths;
          split = g.split ∙ sym (append_assoc g.ls (e ∷ []) (entries g.paths xs));
          tree = more g.ls e m g.tree;
          named = g.named;
          here = g.here;
          chain = g.chain;
        });
      }

  pub finished : (path : Bytes) (m : Meaning) → Going [] path m boot es → m ≡ holds (tree_of boot (first ∷ es))
  unfolding entries
  finished path m g =
      let all : es ≡ g.ls = g.split ∙ append-nil g.ls in
      g.tree ∙ ap (λ z. holds (grow (root_tree boot) z)) (sym all) ∙ ap holds (grown boot first es good)

-- a node is left
pub leaves : (at : ℕ) (xs : Spelt) (path : Bytes) (m : Meaning) (boot : ℕ) (es : List Entry) → Going ((at, end) ∷ xs) path m boot es → Going xs (parent path) m boot es
unfolding entries
leaves at xs path m boot es g =
    let k = out g.paths g.chain in
    record {
      ls = g.ls;
      paths = outer g.paths;
      split = g.split;
      tree = g.tree;
      named = g.named;
      here = k.0 ∙ ap parent g.here;
      chain = k.1;
    }
  where
    out : (ps : List Bytes) → Chain ps → (innermost (outer ps) ≡ parent (innermost ps)) × Chain (outer ps)
    out [] c = (sym root_ends.2, tt)
    out (p ∷ []) c = (sym root_ends.2 ∙ ap parent (sym c), tt)
    out (p ∷ (q ∷ qs)) c = (sym c.0, c.1)

-- the root's beginning comes first, and the rest is fed behind it
pub record Behind (xs : Spelt) (boot : ℕ) (es : List Entry) : Type 0 where
  pub first : Entry
  pub rest : List Entry
  pub is : es ≡ first ∷ rest
  pub feeds : Feeds xs boot first rest

pub behind-root : (x : ℕ × Tok) (xs : Spelt) (boot : ℕ) (es : List Entry) → BlobFeeds (x ∷ xs) boot es → Behind xs boot es
unfolding entries
behind-root (p, begin name) xs boot es f =
    let n = and_parts (eqb (length name) 0) (each named_item xs) f.named in
    record {
      first = node_entry p root;
      rest = entries (root ∷ []) xs;
      is = sym f.lists;
      feeds = record {
        lists = refl;
        named = n.1;
        good = subst (λ z. well_listed z ≡ true) (sym f.lists) f.good;
        room = subst (λ z. roomy (listed z) ≡ true) (sym f.lists) f.room;
        low = f.low;
      };
    }
behind-root (p, property name value) xs boot es f = absurd (true≢false (sym f.named))
behind-root (p, end) xs boot es f = absurd (true≢false (sym f.named))
behind-root (p, nop) xs boot es f = absurd (true≢false (sym f.named))
behind-root (p, finish) xs boot es f = absurd (true≢false (sym f.named))

-- what is handed out goes up to the end token of the block
abbrev pub Unfinished : Spelt → Type 0
Unfinished [] = Unit {0}
Unfinished ((p, begin name) ∷ xs) = Unfinished xs
Unfinished ((p, property name value) ∷ xs) = Unfinished xs
Unfinished ((p, end) ∷ xs) = Unfinished xs
Unfinished ((p, nop) ∷ xs) = Unfinished xs
Unfinished ((p, finish) ∷ xs) = ⊥

pub until_unfinished : (xs : Spelt) → Unfinished (until xs)
unfolding until
until_unfinished [] = tt
until_unfinished ((p, begin name) ∷ xs) = until_unfinished xs
until_unfinished ((p, property name value) ∷ xs) = until_unfinished xs
until_unfinished ((p, end) ∷ xs) = until_unfinished xs
until_unfinished ((p, nop) ∷ xs) = until_unfinished xs
until_unfinished ((p, finish) ∷ xs) = tt

unfinished_on : (x : ℕ × Tok) (xs : Spelt) → Unfinished (x ∷ xs) → Unfinished xs
unfinished_on (p, begin name) xs u = u
unfinished_on (p, property name value) xs u = u
unfinished_on (p, end) xs u = u
unfinished_on (p, nop) xs u = u
unfinished_on (p, finish) xs u = absurd u

-- a skipped token
skips : (at : ℕ) (xs : Spelt) (path : Bytes) (m : Meaning) (boot : ℕ) (es : List Entry) → Going ((at, nop) ∷ xs) path m boot es → Going xs path m boot es
unfolding entries
skips at xs path m boot es g = record { ls = g.ls; paths = g.paths; split = g.split; tree = g.tree; named = g.named; here = g.here; chain = g.chain }

some_child : (p n : Bytes) → 0 < length (child p n)
some_child p n = omega (arith, length-append (stem p) (47 ∷ n))

grown_none : (boot : ℕ) → holds (root_tree boot) ≡ holds (grow (root_tree boot) [])
unfolding grow
grown_none boot = refl

-- where the store goes on towards the tree of a blob, the writes that are to come lead there
pub run_on : (boot : ℕ) (first : Entry) (es : List Entry) → well_listed (first ∷ es) ≡ true → roomy (listed (first ∷ es)) ≡ true → boot < 2 ^ 32 → (xs : Spelt) (path : Bytes) (m : Meaning) → Unfinished xs → 0 < length path → Going xs path m boot es → run xs path m ≡ (Ok tt, holds (tree_of boot (first ∷ es)))
unfolding run
run_on boot first es good room low [] path m u long g = ap (λ z. (Ok tt, z)) (finished boot first es good room low path m g)
run_on boot first es good room low ((at, begin name) ∷ xs) path m u long g =
    let e = enters boot first es good room low at name xs path m g long in
    let granted : answered (at, begin name) path m ≡ Ok tt = cond-true (leb (length (child path name)) 255) (add_node m (child path name)) (Err Limit) (le-leb (length (child path name)) 255 e.short) ∙ e.granted in
    ap (λ r. then_run r (run xs (child path name) (changed m (node_at (child path name)) (Some []))) m) granted
    ∙ run_on boot first es good room low xs (child path name) (changed m (node_at (child path name)) (Some [])) u (some_child path name) e.going
run_on boot first es good room low ((at, property name value) ∷ xs) path m u long g =
    let e = sets boot first es good room low at name value xs path m g in
    ap (λ r. then_run r (run xs path (changed m (property_at path name) (Some value))) m) e.granted
    ∙ run_on boot first es good room low xs path (changed m (property_at path name) (Some value)) u long e.going
run_on boot first es good room low ((at, end) ∷ xs) path m u long g =
    run_on boot first es good room low xs (parent path) m u (some_parent path) (leaves at xs path m boot es g)
run_on boot first es good room low ((at, nop) ∷ xs) path m u long g =
    run_on boot first es good room low xs path m u long (skips at xs path m boot es g)
run_on boot first es good room low ((at, finish) ∷ xs) path m u long g = absurd u

-- one write more, or the refusal that ends them
pub run_more : (x : ℕ × Tok) (xs : Spelt) (p q : Bytes) (m n : Meaning) → Ok tt ≡ answered x p m → q ≡ onward x p → n ≡ written x p m → run xs q n ≡ run (x ∷ xs) p m
unfolding run
run_more x xs p q m n a b d = (λ i. run xs (b i) (d i)) ∙ ap (λ r. then_run r (run xs (onward x p) (written x p m)) m) a

pub run_stop : (x : ℕ × Tok) (xs : Spelt) (p : Bytes) (m n : Meaning) (e : Refusal) → Err e ≡ answered x p m → n ≡ m → ◌≡◌ {A = Result (Unit {0}) Refusal × Meaning} (Err e, n) (run (x ∷ xs) p m)
unfolding run
run_stop x xs p m n e a b = ap (λ z. (Err e, z)) b ∙ ap (λ r. then_run r (run xs (onward x p) (written x p m)) m) a

pub run_none : (xs : Spelt) (p : Bytes) (m : Meaning) → xs ≡ [] → ◌≡◌ {A = Result (Unit {0}) Refusal × Meaning} (Ok tt, m) (run xs p m)
unfolding run
run_none xs p m e = ap (λ z. run z p m) (sym e)

-- a store that held the root alone holds a blob's tree after the writes behind the root's beginning
pub run_loads : (xs : Spelt) (m is : Meaning) (r : Result (Unit {0}) Refusal) → ◌≡◌ {A = Result (Unit {0}) Refusal × Meaning} (r, is) (run (drop 1 (until xs)) root m) → Loads (until xs) m r is
run_loads xs m is r e boot es f h =
    let l = e ∙ go (until xs) (until_unfinished xs) f in
    (ap (λ z. z.0) l, ap (λ z. z.1) l)
  where
    go : (ys : Spelt) → Unfinished ys → BlobFeeds ys boot es → run (drop 1 ys) root m ≡ (Ok tt, holds (tree_of boot es))
    go [] u f = absurd (true≢false (sym f.named))
    go (y ∷ ys) u f =
        let b = behind-root y ys boot es f in
        let g : Going ys root m boot b.rest = record { ls = []; paths = root ∷ []; split = sym b.feeds.lists; tree = h ∙ grown_none boot; named = b.feeds.named; here = refl; chain = refl } in
        run_on boot b.first b.rest b.feeds.good b.feeds.room b.feeds.low ys root m (unfinished_on y ys u) (omega arith) g
        ∙ ap (λ z. (Ok tt, holds (tree_of boot z))) (sym b.is)
