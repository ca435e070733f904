use Rattle.std.proofs.Common.{◌≡◌, ◌<◌, ◌+◌, ◌-◌, ◌/◌, get_or, length, map, ap, sym, ◌∙◌, arith}
use Rattle.std.proofs.lemmas.List.{length-map}
use Rattle.ftl_schedule.specs.stages.Stages.{pass_of}
use Rattle.ftl_order.proofs.orders.Kids.{root_there}
use Rattle.ftl_deps.specs.reads.Meant.{meant}
use Rattle.ftl_items.proofs.numbers.Places.{pass_stands, start_next}
use Rattle.ftl_cursors.specs.items.StageItems.{cuts_in, item_in, passes_in, start_in, tops_in}
use Rattle.ftl_cursors.proofs.items.Starts.{length-pass_starts, some_before, start_is}
use Rattle.ftl_cursors.proofs.items.view.StageItems.place.Goals as goal

pub bounds-self-middle : goal.bounds-self-middle
bounds-self-middle c =
    let s = c.args.self.now in
    let rows = s.rows.now in
    let len = length-pass_starts (length (passes_in s)) (cuts_in s) rows.tree.now.tree s.starts.now s.fit in
    let count = length-map s.passes.now pass_of in
    let inv = c.loop-high.invariant in
    let order = inv.order in
    let known = inv.known in
    omega (arith, len, count, order, known)

pub loop-high-init : goal.loop-high-init
loop-high-init c =
    let s = c.args.self.now in
    let rows = s.rows.now in
    let item = c.requires.item in
    let all = ap (start_in s) (length-map s.passes.now pass_of) in
    let to : c.args.item < start_in s (length s.passes.now) = omega (arith, item, all) in
    record {
      order = some_before (cuts_in s) rows.tree.now.tree (length s.passes.now) c.args.item to;
      known = omega arith;
      from = omega arith;
      to = to;
    }

pub loop-high-preserved-then-self-middle : goal.loop-high-preserved-then-self-middle
loop-high-preserved-then-self-middle c =
    let s = c.args.self.now in
    let rows = s.rows.now in
    let middle = c.loop-high.low + (c.loop-high.high - c.loop-high.low) / 2 in
    let count = length-map s.passes.now pass_of in
    let inv = c.loop-high.invariant in
    let order = inv.order in
    let known = inv.known in
    let some = c.loop-high-test.true in
    let test = c.if-self-middle.true in
    let low : middle < c.loop-high.high = omega (arith, order, some) in
    let is =
    start_is (length (passes_in s)) (cuts_in s) rows.tree.now.tree s.starts.now s.fit middle
    (omega (arith, low, known, count)) in
    record { order = low; known = known; from = omega (arith, is, test); to = inv.to }

pub loop-high-preserved : goal.loop-high-preserved
loop-high-preserved c =
    let s = c.args.self.now in
    let rows = s.rows.now in
    let middle = c.loop-high.low + (c.loop-high.high - c.loop-high.low) / 2 in
    let count = length-map s.passes.now pass_of in
    let inv = c.loop-high.invariant in
    let order = inv.order in
    let known = inv.known in
    let some = c.loop-high-test.true in
    let test = c.if-self-middle.false in
    let low : middle < c.loop-high.high = omega (arith, order, some) in
    let is =
    start_is (length (passes_in s)) (cuts_in s) rows.tree.now.tree s.starts.now s.fit middle
    (omega (arith, low, known, count)) in
    record {
      order = omega (arith, order, some);
      known = omega (arith, low, known);
      from = inv.from;
      to = omega (arith, is, test);
    }

pub bounds-self-low : goal.bounds-self-low
bounds-self-low c =
    let s = c.args.self.now in
    let rows = s.rows.now in
    let len = length-pass_starts (length (passes_in s)) (cuts_in s) rows.tree.now.tree s.starts.now s.fit in
    let count = length-map s.passes.now pass_of in
    let inv = c.loop-high.invariant in
    let order = inv.order in
    let known = inv.known in
    omega (arith, len, count, order, known)

pub overflow_sub-result : goal.overflow_sub-result
overflow_sub-result c =
    let s = c.args.self.now in
    let rows = s.rows.now in
    let count = length-map s.passes.now pass_of in
    let inv = c.loop-high.invariant in
    let order = inv.order in
    let known = inv.known in
    let from = inv.from in
    let is =
    start_is (length (passes_in s)) (cuts_in s) rows.tree.now.tree s.starts.now s.fit c.loop-high.low
    (omega (arith, order, known, count)) in
    omega (arith, is, from)

pub returns : goal.returns
returns c =
    let s = c.args.self.now in
    let rows = s.rows.now in
    let t = rows.tree.now in
    let ps = map pass_of s.passes.now in
    let m = c.loop-high.low in
    let count = length-map s.passes.now pass_of in
    let inv = c.loop-high.invariant in
    let order = inv.order in
    let known = inv.known in
    let from = inv.from in
    let to = inv.to in
    let last = c.loop-high-test.false in
    let is = start_is (length ps) (cuts_in s) t.tree s.starts.now s.fit m (omega (arith, order, known, count)) in
    let j = c.args.item - get_or s.starts.now m 0 in
    let high : c.loop-high.high ≡ m + 1 = omega (arith, order, last) in
    let end = ap (start_in s) high in
    let next = start_next (cuts_in s) t.tree m in
    let below : j < length (tops_in s m) = omega (arith, is, from, to, end, next) in
    let start : start_in s m + j ≡ c.args.item = omega (arith, is, from) in
    let inside : m < length ps = omega (arith, order, known, count) in
    record {
      place = record {
        known = omega (arith, order, known);
        start = start;
        within = below;
        entry =
            ap (item_in s) (sym start)
            ∙ pass_stands (length ps) (cuts_in s) t.tree
            (root_there (meant t.checked) t.tree c.node_count-nodes.ensures.is_tree) m j
            inside below;
      };
    }
