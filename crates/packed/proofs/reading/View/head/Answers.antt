use Rattle.std.proofs.Common.{◌≡◌, ℕ, ◌+◌, length, sym, ap, ◌∙◌, arith}
use Rattle.tree.specs.Numbers.{pad4}
use Rattle.tape.specs.Tapes.{nth}
use Rattle.packed.specs.Packing.{mark_of}
use Rattle.packed.specs.Regions.{nodes_of}
use Rattle.packed.proofs.Marks.{first-mark}
use Rattle.packed.proofs.Places.{open_at, at_spot, first-is}
use Rattle.packed.proofs.Spots.{next-spot}
use Rattle.packed.proofs.reading.View.head.Goals as goal

pub overflow_add-from : goal.overflow_add-from
overflow_add-from c = let f = at_spot c.args.self.now c.args.s c.requires in omega (arith, c.begin-b.ensures.at)

pub overflow_add-n : goal.overflow_add-n
overflow_add-n c = let f = at_spot c.args.self.now c.args.s c.requires in omega (arith, c.name_length-n.ensures)

pub rounded4-requires : goal.rounded4-requires
rounded4-requires c = let f = at_spot c.args.self.now c.args.s c.requires in omega (arith, c.name_length-n.ensures)

pub overflow_add-from-2 : goal.overflow_add-from-2
overflow_add-from-2 c = let f = at_spot c.args.self.now c.args.s c.requires in omega (arith, c.begin-b.ensures.at, ap (λ k. pad4 (k + 1)) c.name_length-n.ensures, c.rounded4.ensures)

pub run-run-requires : goal.run-run-requires
run-run-requires c = record { here = c.requires; from = first-is c.args.self.now c.args.s c.requires c.begin-b.result.at c.name_length-n.result c.rounded4.result c.begin-b.ensures.at c.name_length-n.ensures c.rounded4.ensures }

pub overflow_add-next : goal.overflow_add-next
overflow_add-next c = let f = at_spot c.args.self.now c.args.s c.requires in omega arith

pub overflow_add-next-2 : goal.overflow_add-next-2
overflow_add-next-2 c = let f = at_spot c.args.self.now c.args.s c.requires in omega (arith, c.begin-b.ensures.depth)

pub returns : goal.returns
unfolding mark_of
returns c =
    let x = c.args.self.now.region.now in
    let i : ℕ = c.args.s.node in
    let l = c.requires.inside in
    let o = open_at c.args.self.now i l in
    let d = c.begin-b.ensures.depth in
    let f : c.begin-b.result.at + 4 + c.rounded4.result ≡ (mark_of (nodes_of x) i 0).at = first-is c.args.self.now c.args.s c.requires c.begin-b.result.at c.name_length-n.result c.rounded4.result c.begin-b.ensures.at c.name_length-n.ensures c.rounded4.ensures ∙ first-mark x o i l in
    let k = c.run-run.ensures.count in
    let z : c.run-run.result.end ≡ (mark_of (nodes_of x) i (length (nth (nodes_of x) i).properties)).at = c.run-run.ensures.end ∙ ap (λ n. (mark_of (nodes_of x) i n).at) k in
    record {
      depth = d;
      properties = k;
      first = λ r. record { node = i; number = 0; property = 0; at = f r };
      next = (λ r. record { node = i + 1; property = d r + 1; at = z r }) ∙ sym (next-spot x o i l);
    }
