-- What is written is a blob of the tree. Assumes nothing.
use Rattle.std.proofs.Common.{◌≡◌, ℕ, ◌+◌, ◌^◌, ◌<◌, ◌≤◌, true, false, leb, List, [], ◌∷◌, ◌++◌, length, replicate, Some, sym, refl, ap, ◌∙◌, subst, append_assoc, arith, length-append}
use Rattle.std.proofs.lemmas.List.{get_or-append-add, get_or_append_left, get_or-replicate}
use Rattle.std.proofs.lemmas.Bool.{and_parts, leb-true}
use Rattle.names.specs.Paths.{root, leaf, behind_last, stem}
use Rattle.tree.specs.Entries.{Entry, listed, inserted}
use Rattle.tree.specs.Maps.{find, Rises, total}
use Rattle.tree.specs.Numbers.{be32, bytes32}
use Rattle.tree.specs.Places.{Bytes, Place, node_at, order}
use Rattle.tree.specs.Trees.{Places, Tree, Sound, look, short_place, nodes, properties, weight}
use Rattle.tree.proofs.Maps.{some-none, find-tail, head-found}
use Rattle.tree.proofs.Places.{place-order}
use Rattle.blob.specs.Grammar.{Header}
use Rattle.blob.specs.declared.types.Layout.{Layout}
use Rattle.reader.specs.Format.{Blob, Root}
use Rattle.reader.specs.Reading.{entries, sound}
use Rattle.tree.specs.Counting.{zero}
use Rattle.reader.specs.Verdict.{verdict, root_only, opened}
use Rattle.reader.proofs.Accepted.{raw, kept-raw, Lexed, accepted-whole}
use Rattle.reader.proofs.Complete.{somes}
use Rattle.reader.proofs.Exact.{exact}
use Rattle.walk.specs.Runs.{Runs, run_end, run_root, run_property, run_node, run_leave}
use Rattle.walk.proofs.Runs.{tree-runs}
use Rattle.writer.specs.Strings.{with_name, strings}
use Rattle.writer.specs.Written.{Piece, spelt, ends, pieces, structure_block, strings_block, header_bytes, written, Image, Images}
use Rattle.writer.proofs.Bytes.{be32-bytes}
use Rattle.writer.proofs.Entries.{places_list, insert_risen}
use Rattle.writer.proofs.Lexes.{spell, Apts, lexes}
use Rattle.walk.proofs.Full.{full-property, full-node}
use Rattle.writer.proofs.Sizes.{both-size, pieces-node, pieces-leave}
use Rattle.writer.proofs.Strings.{strings_laws, strings-longer, name-stands}
use Rattle.writer.proofs.Verdicts.{Shorts, Room, Accepted, accept}

-- what holds of all that is found holds of each place
shorts-from : (es : Places) → Rises order es → ((k : Place) (v : Bytes) → find order es k ≡ Some v → short_place k v ≡ true) → Shorts es
shorts-from [] r f = tt
shorts-from (e ∷ es) r f =
    (f e.0 e.1 (head-found place-order e es), shorts-from es r.1 (λ k v h. f k v (find-tail place-order e es k v r h)))

-- the tokens find their names in the strings block
ends_apt : (block : Bytes) (ps : List Bytes) → Apts block (ends ps)
ends_apt block [] = (refl, tt)
ends_apt block (p ∷ ps) = (tt, ends_apt block ps)

apts : {ps : List Bytes} {es : Places} → Runs ps es → (block : Bytes) → length (strings block es) < 2 ^ 32 → Shorts es → Apts (strings block es) (pieces ps block es)
unfolding pieces strings behind_last
apts {ps} run_end block h s = ends_apt block ps
apts (run_root {es} r) block h s = (tt, apts r block h s.1)
apts (run_property {p} {n} {v} {ps} {es} g r) block h s =
    let a = and_parts (leb (length p) 255) (leb (length v) 4096) s.0 in
    let b = leb-true (length v) 4096 a.1 in
    let w = strings_laws.within block n in
    let m = strings_laws.grows block n in
    let l = strings-longer (with_name block n) es in
    let k = ap length m.1 ∙ length-append block m.0 in
    ((full-property n g, omega arith, omega arith, name-stands block n es), apts r (with_name block n) h s.1)
apts (run_node {p} {q} {ps} {es} e f g r) block h s =
    subst (Apts (strings block es)) (sym (pieces-node p q [] ps block es e)) (full-node (leaf q) g, apts r block h s.1)
apts (run_leave {p} {q} {ps} {es} n r) block h s =
    subst (Apts (strings block es)) (sym (pieces-leave p q [] ps block es n)) (tt, apts r block h s)

-- from the root on
accept-root : {es : Places} → Runs [] es → find order es (node_at root) ≡ Some [] → (o : ℕ) → Rises order es → Shorts es → nodes es ≤ 256 → properties es ≤ 1024 → weight es ≤ 24576 → Accepted [] zero o (pieces [] [] es)
unfolding find pieces verdict somes spell behind_last total stem
accept-root run_end f o r s a b d = absurd (some-none [] (sym f))
accept-root (run_root {es} x) f o r s a b d =
    let room : Room root_only es = record { some = omega arith; nodes = omega arith; properties = omega arith; weight = omega arith } in
    accept x (opened 0 false [] ∷ []) root_only (o + 8) []
    (record { path = refl; kin = λ m y. let z : ◌≡◌ {A = ℕ} 0 1 = cc in absurd (omega arith); own = λ z m y. let w : ◌≡◌ {A = ℕ} 0 1 = cc in absurd (omega arith); late = λ z m. let w : ◌≡◌ {A = ℕ} 0 1 = cc in absurd (omega arith) }, tt)
    r.0 r.1 s.1 room

module _ (t : Tree) (s : Sound t) where
  S : Bytes
  S = structure_block t

  N : Bytes
  N = strings_block t

  runs : Runs [] t.places
  runs = tree-runs t s

  shorts : Shorts t.places
  unfolding look
  shorts = shorts-from t.places s.rises (λ k v h. s.short k v h)

  counts : (nodes t.places ≤ 256) × (properties t.places ≤ 1024) × (weight t.places ≤ 24576)
  counts =
      let a = and_parts (leb (nodes t.places) 256) _ s.roomy in
      let b = and_parts (leb (properties t.places) 1024) (leb (weight t.places) 24576) a.1 in
      (leb-true _ _ a.0, leb-true _ _ b.0, leb-true _ _ b.1)

  sizes : length S + length N ≤ 38916
  unfolding S N structure_block strings_block
  sizes = let a = both-size runs [] in let c = counts in omega arith

  length-written : length (written t) ≡ 56 + length S + length N
  unfolding S N written
  length-written =
      let a = length-append (structure_block t) (strings_block t) in
      let b = length-append (replicate {A = ℕ} 16 0) (structure_block t ++ strings_block t) in
      omega arith

  l : Layout
  l = record { start = 56; end = 56 + length S; strings = 56 + length S; strings_end = 56 + length S + length N; boot = t.boot }

  header : Header (written t) l
  unfolding l S N written be32
  header =
      let w = sizes in
      let n = length-written in
      let s9 : Bytes = replicate 16 0 ++ (structure_block t ++ strings_block t) in
      let s8 : Bytes = bytes32 (length (structure_block t)) ++ s9 in
      let s7 : Bytes = bytes32 (length (strings_block t)) ++ s8 in
      let s6 : Bytes = bytes32 t.boot ++ s7 in
      let s5 : Bytes = bytes32 16 ++ s6 in
      let s4 : Bytes = bytes32 17 ++ s5 in
      let s3 : Bytes = bytes32 40 ++ s4 in
      let s2 : Bytes = bytes32 (56 + length (structure_block t)) ++ s3 in
      let s1 : Bytes = bytes32 56 ++ s2 in
      let s0 : Bytes = bytes32 (56 + length (structure_block t) + length (strings_block t)) ++ s1 in
      let total : be32 (written t) 4 ≡ 56 + length (structure_block t) + length (strings_block t) = be32-bytes _ s1 (omega arith) in
      let strings : be32 (written t) 12 ≡ 56 + length (structure_block t) = be32-bytes _ s3 (omega arith) in
      let strings_size : be32 (written t) 32 ≡ length (strings_block t) = be32-bytes _ s8 (omega arith) in
      let structure_size : be32 (written t) 36 ≡ length (structure_block t) = be32-bytes _ s9 (omega arith) in
      record {
        whole = omega arith;
        magic = be32-bytes 0xd00d_feed s0 (omega arith);
        least = omega arith;
        held = omega arith;
        small = omega arith;
        version = refl;
        compatible = refl;
        structure_held = omega arith;
        strings_held = omega arith;
        reservation_held = omega arith;
        structure_aligned = refl;
        reservation_aligned = refl;
        empty = λ k h. get_or-append-add (header_bytes (length (structure_block t)) (length (strings_block t)) t.boot) s9 k 0 ∙ get_or_append_left (replicate 16 0) (structure_block t ++ strings_block t) 0 k h ∙ get_or-replicate 16 k 0 0 h;
        start = refl;
        stop = omega arith;
        strings = omega arith;
        strings_stop = omega arith;
        boot = sym (be32-bytes t.boot s7 s.boot);
      }

  P : List Piece
  P = pieces [] [] t.places

  -- what stands before the structure block
  front : Bytes
  front = header_bytes (length S) (length N) t.boot ++ replicate 16 0

  cut : written t ≡ front ++ (spelt P ++ N)
  unfolding S N P front written structure_block strings_block
  cut = sym (append_assoc (header_bytes (length (structure_block t)) (length (strings_block t)) t.boot) (replicate 16 0) (structure_block t ++ strings_block t))

  lexed : Lexed (written t) l 56 (somes (spell 56 P))
  unfolding S N P l front structure_block strings_block
  lexed =
      let w = sizes in
      let a = apts runs [] (omega arith) shorts in
      let c : written t ≡ (front ++ spelt P) ++ N = cut ∙ sym (append_assoc front (spelt P) N) in
      let k = length-append front (spelt P) in
      lexes (written t) N l (front ++ spelt P) c (sym k) (sym length-written) P front N a cut refl

  taken : Accepted [] zero 56 P
  unfolding P look
  taken = let c = counts in accept-root runs s.root 56 s.rises shorts c.0 c.1 c.2

  image : Image t
  unfolding l P S N
  image =
      let w = accepted-whole (written t) l (somes (spell 56 P)) taken.0 56 lexed taken.1 in
      let es : List Entry = entries [] (sound (somes (spell 56 P))) in
      let is : listed es ≡ t.places = places_list runs 56 [] in
      let made : inserted es ≡ t.places = insert_risen es (subst (Rises order) (sym is) s.rises) ∙ is in
      let b : Blob (written t) t.boot es = record {
        layout = l;
        header = header;
        cpu = refl;
        tokens = raw (somes (spell 56 P));
        fills = w.fills;
        tree = subst (λ z. Root z es) (sym (kept-raw (somes (spell 56 P)))) w.tree;
      } in
      record {
        small = let n = length-written in let z = sizes in omega arith;
        entries = es;
        blob = b;
        within = w.within;
        same = λ i. record { boot = t.boot; places = made i };
        read = (exact (written t)).complete t.boot es b w.within;
      }

pub images : Images
images t s = image t s
