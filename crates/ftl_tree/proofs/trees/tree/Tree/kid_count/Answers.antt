use Rattle.std.proofs.Common.{ap, arith, length}
use Rattle.ftl_tree.proofs.trees.Known.{known, length_slots}
use Rattle.ftl_tree.proofs.trees.tree.Tree.kid_count.Goals as goal

pub run_of-run-requires-clause-node : goal.run_of-run-requires-clause-node
run_of-run-requires-clause-node c =
    let k = known c.self.inside c.args.self.now c.self.invariant c.self.view_is in
    omega (arith, length_slots c.self.inside c.args.self.now k, c.requires.at.known, ap length c.deref.ensures.value)

pub run_of-run-requires-clause-within : goal.run_of-run-requires-clause-within
run_of-run-requires-clause-within c =
    let k = known c.self.inside c.args.self.now c.self.invariant c.self.view_is in
    let run = k.runs c.args.node c.args.child c.requires.at in
    rw c.deref.ensures.value (rw c.deref-2.ensures.value run.within)
