use Rattle.std.proofs.Common.{◌<◌, arith}
use Rattle.ftl_deps.specs.reads.Meant.{meant}
use Rattle.ftl_tree.proofs.rows.Access.{size-one}
use Rattle.ftl_example.proofs.examples.plain_steps.add_sequence.Goals as goal

pub new-left-requires-clause-first : goal.new-left-requires-clause-first
new-left-requires-clause-first c =
    let one = size-one (meant c.args.tree.now.checked) c.args.tree.now.tree c.node_count-nodes.ensures.is_tree in
    omega (arith, one)
