use Rattle.std.proofs.Common.{arith, ◌∙◌}
use Rattle.ftl_deps.specs.reads.Meant.{meant}
use Rattle.ftl_model.specs.layout.Path.{size_at}
use Rattle.ftl_tree.proofs.rows.Access.{at_node}
use Rattle.ftl_tree.proofs.trees.Known.{known, length_sizes}
use Rattle.ftl_tree.proofs.trees.tree.Tree.subtree_size.Goals as goal

pub index-requires : goal.index-requires
index-requires c =
    let k = known c.self.inside c.args.self.now c.self.invariant c.self.view_is in
    omega (arith, length_sizes c.self.inside c.args.self.now k, c.requires.node)

pub returns : goal.returns
returns c =
    let i = c.self.inside in
    let t = c.args.self.now in
    let k = known i t c.self.invariant c.self.view_is in
    record { size = c.index.ensures ∙ at_node (meant t.checked) t.tree (size_at t.tree) i.sizes.items c.args.node c.index.result.now k.rows.is_tree k.rows.sizes_are c.requires.node }
