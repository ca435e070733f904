use Rattle.std.proofs.Common.{arith, ◌∙◌}
use Rattle.ftl_tree.proofs.trees.Known.{first_is, known, length_first_instances}
use Rattle.ftl_tree.proofs.trees.tree.Tree.first_instance.Goals as goal

pub index-requires : goal.index-requires
index-requires c =
    let k = known c.self.inside c.args.self.now c.self.invariant c.self.view_is in
    omega (arith, length_first_instances c.self.inside c.args.self.now k, c.requires.node)

pub returns : goal.returns
returns c =
    let k = known c.self.inside c.args.self.now c.self.invariant c.self.view_is in
    record { first = c.index.ensures ∙ first_is c.self.inside c.args.self.now k c.args.node c.index.result.now c.requires.node }
