use Rattle.std.proofs.Common.{get_or, arith}
use Rattle.ftl_deps.specs.reads.Meant.{meant}
use Rattle.ftl_model.specs.layout.Path.{top}
use Rattle.ftl_schedule.specs.stages.Stages.{kind_of}
use Rattle.ftl_cursors.specs.items.RowsCut.{is_whole_in}
use Rattle.ftl_cursors.specs.items.StageItems.{tops_of, tree_in}
use Rattle.ftl_cursors.proofs.items.ItemNodes.{begins_at, classes_of_nodes, range_of}
use Rattle.ftl_cursors.proofs.items.classes.classes_of.Goals as goal

pub node_count-requires : goal.node_count-requires
node_count-requires c =
    let rows = c.args.rows.now in
    record {
      node =
          (begins_at (meant rows.tree.now.checked) (tree_in rows) c.node_count-nodes.ensures.is_tree (is_whole_in rows)
          (kind_of c.args.kind) c.args.item c.first-first.result c.requires.item c.first-first.ensures.first).known;
    }

pub overflow_add-end : goal.overflow_add-end
overflow_add-end c =
    let rows = c.args.rows.now in
    let g = meant rows.tree.now.checked in
    let t = tree_in rows in
    let fits = c.node_count-nodes.ensures.is_tree in
    let whole = is_whole_in rows in
    let p = get_or (tops_of rows c.args.kind) c.args.item top in
    let first = c.first-first.result in
    let begins =
    begins_at g t fits whole (kind_of c.args.kind) c.args.item first c.requires.item c.first-first.ensures.first in
    let range =
    range_of g t fits whole p first c.node_count.result begins c.first-first.ensures.first c.node_count.ensures.count in
    let within = range.within in
    let nodes = c.node_count-nodes.ensures.count in
    let bound = c.node_count-nodes.ensures.bound in
    omega (arith, within, nodes, bound)

pub classes_between-requires : goal.classes_between-requires
classes_between-requires c =
    let rows = c.args.rows.now in
    let g = meant rows.tree.now.checked in
    let t = tree_in rows in
    let fits = c.node_count-nodes.ensures.is_tree in
    let whole = is_whole_in rows in
    let p = get_or (tops_of rows c.args.kind) c.args.item top in
    let first = c.first-first.result in
    let begins =
    begins_at g t fits whole (kind_of c.args.kind) c.args.item first c.requires.item c.first-first.ensures.first in
    record {
      end =
          (range_of g t fits whole p first c.node_count.result begins c.first-first.ensures.first
          c.node_count.ensures.count).within;
    }

pub returns : goal.returns
returns c =
    let rows = c.args.rows.now in
    let g = meant rows.tree.now.checked in
    let t = tree_in rows in
    let fits = c.node_count-nodes.ensures.is_tree in
    let whole = is_whole_in rows in
    let p = get_or (tops_of rows c.args.kind) c.args.item top in
    let first = c.first-first.result in
    let begins =
    begins_at g t fits whole (kind_of c.args.kind) c.args.item first c.requires.item c.first-first.ensures.first in
    let range =
    range_of g t fits whole p first c.node_count.result begins c.first-first.ensures.first c.node_count.ensures.count in
    record {
      classes =
          classes_of_nodes whole t p first c.node_count.result range c.classes_between.result
          c.classes_between.ensures.classes;
    }
