use Rattle.std.proofs.Common.{◌<◌, ◌+◌, ◌-◌, ◌/◌, ◌≡◌, ap, ◌∙◌, arith}
use Rattle.ftl_deps.specs.reads.Meant.{meant}
use Rattle.ftl_step_value.proofs.limits.reads.Entries.{whole}
use Rattle.ftl_plan.proofs.cells.CellPlaces.{all_before, cells_before, first_is, is_cell}
use Rattle.maugzeris.proofs.pages.instances.node_of_cell.Goals as goal

pub loop-high-init : goal.loop-high-init
loop-high-init c =
    let t = c.args.tree.now in
    let g = meant t.checked in
    let fits = c.node_count-high.ensures.is_tree in
    let count = c.node_count-high.ensures.count in
    let some = whole g t.tree fits in
    let cell = c.requires.cell in
    let all = ap (cells_before g t.tree) count ∙ all_before g t.tree fits in
    record {
      order = omega (arith, count, some);
      known = omega (arith, count);
      from = omega arith;
      to = omega (arith, all, cell);
    }

pub loop-high-preserved-then-first_instance-cell : goal.loop-high-preserved-then-first_instance-cell
loop-high-preserved-then-first_instance-cell c =
    let t = c.args.tree.now in
    let g = meant t.checked in
    let fits = c.node_count-high.ensures.is_tree in
    let middle = c.loop-high.low + (c.loop-high.high - c.loop-high.low) / 2 in
    let inv = c.loop-high.invariant in
    let order = inv.order in
    let known = inv.known in
    let some = c.loop-high-test.true in
    let test = c.if-first_instance-cell.true in
    let low : middle < c.loop-high.high = omega (arith, order, some) in
    let is = c.first_instance.ensures.first ∙ first_is g t.tree fits middle (omega (arith, low, known)) in
    record { order = low; known = known; from = omega (arith, is, test); to = inv.to }

pub loop-high-preserved : goal.loop-high-preserved
loop-high-preserved c =
    let t = c.args.tree.now in
    let g = meant t.checked in
    let fits = c.node_count-high.ensures.is_tree in
    let middle = c.loop-high.low + (c.loop-high.high - c.loop-high.low) / 2 in
    let inv = c.loop-high.invariant in
    let order = inv.order in
    let known = inv.known in
    let some = c.loop-high-test.true in
    let test = c.if-first_instance-cell.false in
    let low : middle < c.loop-high.high = omega (arith, order, some) in
    let is = c.first_instance.ensures.first ∙ first_is g t.tree fits middle (omega (arith, low, known)) in
    record {
      order = omega (arith, order, some);
      known = omega (arith, low, known);
      from = inv.from;
      to = omega (arith, is, test);
    }

pub returns : goal.returns
returns c =
    let t = c.args.tree.now in
    let g = meant t.checked in
    let fits = c.node_count-high.ensures.is_tree in
    let inv = c.loop-high.invariant in
    let order = inv.order in
    let known = inv.known in
    let to = inv.to in
    let last = c.loop-high-test.false in
    let high : c.loop-high.high ≡ c.loop-high.low + 1 = omega (arith, order, last) in
    let end = ap (cells_before g t.tree) high in
    record {
      node =
          is_cell g t.tree fits c.loop-high.low c.args.cell (omega (arith, order, known)) inv.from
          (omega (arith, to, end));
    }
