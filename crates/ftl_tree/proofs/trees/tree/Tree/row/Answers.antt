use Rattle.std.proofs.Common.{arith, ◌∙◌}
use Rattle.ftl_deps.specs.reads.Meant.{meant}
use Rattle.ftl_tree.specs.rows.Rows.{row_of}
use Rattle.ftl_tree.proofs.rows.Access.{at_node}
use Rattle.ftl_tree.proofs.trees.Known.{known, length_rows}
use Rattle.ftl_tree.proofs.trees.tree.Tree.row.Goals as goal

pub index-requires : goal.index-requires
index-requires c =
    let k = known c.self.inside c.args.self.now c.self.invariant c.self.view_is in
    omega (arith, length_rows c.self.inside c.args.self.now k, c.requires.node)

pub returns-clause-row : goal.returns-clause-row
returns-clause-row c =
    let i = c.self.inside in
    let t = c.args.self.now in
    let k = known i t c.self.invariant c.self.view_is in
    c.index.ensures ∙ at_node (meant t.checked) t.tree (row_of t.tree) i.rows.items c.args.node c.index.result.now k.rows.is_tree k.rows.rows_are c.requires.node
