use Rattle.std.proofs.Common.{arith}
use Rattle.ftl_tree.proofs.trees.Known.{known, length_rows}
use Rattle.ftl_tree.proofs.trees.tree.Tree.node_count.Goals as goal

pub overflow_cast-result : goal.overflow_cast-result
overflow_cast-result c =
    let k = known c.self.inside c.args.self.now c.self.invariant c.self.view_is in
    omega (arith, length_rows c.self.inside c.args.self.now k, c.len.ensures, k.rows.few_nodes)

pub returns-clause-count : goal.returns-clause-count
returns-clause-count c =
    let k = known c.self.inside c.args.self.now c.self.invariant c.self.view_is in
    omega (arith, c.len.ensures, length_rows c.self.inside c.args.self.now k)

pub returns-clause-bound : goal.returns-clause-bound
returns-clause-bound c =
    let k = known c.self.inside c.args.self.now c.self.invariant c.self.view_is in
    omega (arith, length_rows c.self.inside c.args.self.now k, c.len.ensures, k.rows.few_nodes)
