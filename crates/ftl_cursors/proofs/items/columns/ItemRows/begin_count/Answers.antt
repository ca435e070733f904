use Rattle.std.proofs.Common.{arith}
use Rattle.ftl_deps.specs.reads.Meant.{meant}
use Rattle.ftl_cursors.specs.items.RowsCut.{is_whole_in}
use Rattle.ftl_cursors.proofs.items.RowFacts.{few_rows, length-firsts}
use Rattle.ftl_cursors.proofs.items.columns.ItemRows.begin_count.Goals as goal

pub overflow_cast-result : goal.overflow_cast-result
overflow_cast-result c =
    let s = c.args.self.now in
    let t = s.tree.now in
    let few = few_rows (is_whole_in s) t.tree s.firsts.items s.before.items s.fit (meant t.checked)
    c.node_count-nodes.ensures.is_tree in
    omega (arith, few, c.node_count-nodes.ensures.count, c.node_count-nodes.ensures.bound, c.len.ensures)

pub returns : goal.returns
returns c =
    let s = c.args.self.now in
    let t = s.tree.now in
    let few = few_rows (is_whole_in s) t.tree s.firsts.items s.before.items s.fit (meant t.checked)
    c.node_count-nodes.ensures.is_tree in
    let all = length-firsts (is_whole_in s) t.tree s.firsts.items s.before.items s.fit in
    record {
      count = omega (arith, all, c.len.ensures);
      bound = omega (arith, few, c.node_count-nodes.ensures.count, c.node_count-nodes.ensures.bound, c.len.ensures);
    }
