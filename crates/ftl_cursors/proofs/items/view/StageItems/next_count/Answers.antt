use Rattle.std.proofs.Common.{length, ◌∙◌}
use Rattle.ftl_deps.specs.reads.Meant.{meant}
use Rattle.ftl_schedule.specs.declared.syntax.kind.PassKind.TheVariants.{BottomUp, InOrder, TopDown}
use Rattle.ftl_cursors.specs.items.StageItems.{cuts_in, passes_in}
use Rattle.ftl_cursors.proofs.items.Found.{below_is, known_in, node_known}
use Rattle.ftl_cursors.proofs.items.StageFacts.{next_count_down, next_count_none, next_count_up}
use Rattle.ftl_cursors.proofs.items.view.StageItems.next_count.Goals as goal

pub rows_of-requires : goal.rows_of-requires
rows_of-requires c = record { known = c.find-found.ensures.found.pass_known }

pub count_below-requires : goal.count_below-requires
count_below-requires c =
    record {
      node =
          node_known c.args.self.now c.args.item c.find-found.result c.find-found.ensures.found c.rows_of.result.now
          c.rows_of.ensures.rows;
    }

pub returns-in-TopDown : goal.returns-in-TopDown
returns-in-TopDown c =
    let s = c.args.self.now in
    let i = c.args.item in
    let found = c.find-found.result in
    let f = c.find-found.ensures.found in
    let known = known_in s i found TopDown c.in-TopDown.is f in
    let count =
    next_count_down (meant s.rows.now.tree.now.checked) s.rows.now.tree.now.tree f.is_tree
    (length (passes_in s)) (cuts_in s) i c.requires.item found.start found.node known in
    record { count = c.count_below.ensures.count ∙ below_is s i found f c.rows_of.result.now c.rows_of.ensures.rows ∙ count }

pub returns-in-BottomUp : goal.returns-in-BottomUp
returns-in-BottomUp c =
    let s = c.args.self.now in
    let i = c.args.item in
    let found = c.find-found.result in
    let f = c.find-found.ensures.found in
    let known = known_in s i found BottomUp c.in-BottomUp.is f in
    let count =
    next_count_up (meant s.rows.now.tree.now.checked) s.rows.now.tree.now.tree f.is_tree
    (length (passes_in s)) (cuts_in s) i c.requires.item found.start found.node known in
    record { count = c.count_above.ensures.count ∙ count }

pub returns-in-InOrder : goal.returns-in-InOrder
returns-in-InOrder c =
    let s = c.args.self.now in
    let i = c.args.item in
    let found = c.find-found.result in
    let f = c.find-found.ensures.found in
    let known = known_in s i found InOrder c.in-InOrder.is f in
    let count =
    next_count_none (meant s.rows.now.tree.now.checked) s.rows.now.tree.now.tree f.is_tree
    (length (passes_in s)) (cuts_in s) i c.requires.item found.start found.node known in
    record { count = count }
