use Rattle.std.proofs.Common.{arith}
use Rattle.ftl_deps.specs.reads.Meant.{meant}
use Rattle.ftl_step_value.proofs.limits.reads.Entries.{there}
use Rattle.ftl_model.specs.layout.Path.{node_at}
use Rattle.ftl_order.proofs.orders.Instances.{number_within}
use Rattle.ftl_demand.proofs.demand.solve.evaluate_attr.Goals as goal

pub bounds-words-cell : goal.bounds-words-cell
bounds-words-cell c =
    let t = c.args.site.now.tree.now in
    let g = meant t.checked in
    let known = c.requires.known in
    let within = number_within g t.tree (node_at t.tree c.args.wanted.node) c.args.wanted.attr
    (there g c.requires.site.sound.law t.tree c.node_count-nodes.ensures.is_tree c.args.wanted.node known.node)
    known.attr in
    let is = c.instance-cell.ensures.instance in
    let count = c.requires.words.count in
    omega (arith, within, is, count)
