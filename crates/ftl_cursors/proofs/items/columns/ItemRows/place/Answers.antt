use Rattle.std.proofs.Common.{◌-◌, length, ap, sym, ◌∙◌, arith}
use Rattle.ftl_model.specs.layout.Path.{node_at}
use Rattle.ftl_deps.specs.reads.Meant.{meant}
use Rattle.ftl_items.specs.numbers.ItemNumbers.{first_nodes_by, items_before_by, place_by}
use Rattle.ftl_schedule.specs.declared.syntax.kind.PassKind.{PassKind}
use Rattle.ftl_schedule.specs.stages.Stages.{kind_of}
use Rattle.ftl_tree.proofs.rows.Access.{number_at}
use Rattle.ftl_cursors.specs.items.RowsCut.{is_whole_in}
use Rattle.ftl_cursors.proofs.items.RowFacts.{before_at, before_room, length-before}
use Rattle.ftl_cursors.proofs.items.columns.ItemRows.place.Goals as goal

pub index-before-requires : goal.index-before-requires
index-before-requires c =
    let s = c.args.self.now in
    let len = length-before (is_whole_in s) s.tree.now.tree s.firsts.items s.before.items s.fit in
    omega (arith, len, c.requires.node)

pub overflow_sub-result-in-BottomUp : goal.overflow_sub-result-in-BottomUp
overflow_sub-result-in-BottomUp c =
    let s = c.args.self.now in
    let t = s.tree.now in
    let at =
    before_at (is_whole_in s) t.tree s.firsts.items s.before.items s.fit c.args.first c.index-before.result.now
    c.requires.node in
    let room =
    before_room (is_whole_in s) t.tree s.firsts.items s.before.items s.fit (meant t.checked)
    c.node_count-nodes.ensures.is_tree c.args.first c.requires.node c.requires.begins in
    let read = c.index-before.ensures in
    let all = c.begin_count.ensures.count in
    omega (arith, at, room, read, all)

pub returns-in-TopDown : goal.returns-in-TopDown
returns-in-TopDown c =
    let s = c.args.self.now in
    let t = s.tree.now in
    let p = node_at t.tree c.args.first in
    let number = number_at (meant t.checked) t.tree c.args.first c.node_count-nodes.ensures.is_tree c.requires.node in
    record {
      place =
          c.index-before.ensures
          ∙ before_at (is_whole_in s) t.tree s.firsts.items s.before.items s.fit c.args.first c.index-before.result.now
          c.requires.node
          ∙ ap (items_before_by (is_whole_in s) t.tree) (sym number)
          ∙ ap (λ (k : PassKind). place_by (kind_of k) (is_whole_in s) t.tree p) (sym c.in-TopDown.is);
    }

pub returns-in-BottomUp : goal.returns-in-BottomUp
returns-in-BottomUp c =
    let s = c.args.self.now in
    let t = s.tree.now in
    let p = node_at t.tree c.args.first in
    let number = number_at (meant t.checked) t.tree c.args.first c.node_count-nodes.ensures.is_tree c.requires.node in
    record {
      place =
          ap (λ n. n - 1 - c.index-before.result.now) c.begin_count.ensures.count
          ∙ ap (λ b. length (first_nodes_by (is_whole_in s) t.tree) - 1 - b)
          (c.index-before.ensures
          ∙ before_at (is_whole_in s) t.tree s.firsts.items s.before.items s.fit c.args.first c.index-before.result.now
          c.requires.node
          ∙ ap (items_before_by (is_whole_in s) t.tree) (sym number))
          ∙ ap (λ (k : PassKind). place_by (kind_of k) (is_whole_in s) t.tree p) (sym c.in-BottomUp.is);
    }
