use Rattle.std.proofs.Common.{◌<◌, length, ◌+◌, ap, sym, ◌∙◌, arith}
use Rattle.ftl_model.specs.layout.Path.{node_at}
use Rattle.ftl_deps.specs.reads.Meant.{meant}
use Rattle.ftl_schedule.specs.declared.syntax.kind.PassKind.TheVariants.{BottomUp, InOrder, TopDown}
use Rattle.ftl_cursors.specs.items.RowsFit.{IsBegunBelow}
use Rattle.ftl_cursors.specs.items.StageItems.{cuts_in, kids_of, passes_in}
use Rattle.ftl_cursors.proofs.items.Found.{above_is, before_is, holds, known_in, node_known}
use Rattle.ftl_cursors.proofs.items.StageFacts.{next_above, next_down, next_known, next_up, no_next}
use Rattle.ftl_cursors.proofs.items.view.StageItems.next.Goals as goal

-- ---- down to a kid's item

pub rows_of-requires : goal.rows_of-requires
rows_of-requires c = record { known = c.find-found.ensures.found.pass_known }

pub kid_item-requires-clause-node : goal.kid_item-requires-clause-node
kid_item-requires-clause-node c =
    node_known c.args.self.now c.args.item c.find-found.result c.find-found.ensures.found c.rows_of.result.now
    c.rows_of.ensures.rows

pub kid_item-requires-clause-place : goal.kid_item-requires-clause-place
kid_item-requires-clause-place c =
    let s = c.args.self.now in
    let i = c.args.item in
    let found = c.find-found.result in
    let f = c.find-found.ensures.found in
    let known = known_in s i found TopDown c.in-TopDown.is f in
    let next =
    next_down (meant s.rows.now.tree.now.checked) s.rows.now.tree.now.tree f.is_tree
    (length (passes_in s)) (cuts_in s) i c.requires.item found.start found.node c.args.place c.requires.place known in
    holds s i found f c.rows_of.result.now c.rows_of.ensures.rows
    (λ w t. c.args.place < length (kids_of t found.node)) next.0

pub overflow_add-result : goal.overflow_add-result
overflow_add-result c =
    let s = c.args.self.now in
    let i = c.args.item in
    let found = c.find-found.result in
    let f = c.find-found.ensures.found in
    let known = known_in s i found TopDown c.in-TopDown.is f in
    let next =
    next_down (meant s.rows.now.tree.now.checked) s.rows.now.tree.now.tree f.is_tree
    (length (passes_in s)) (cuts_in s) i c.requires.item found.start found.node c.args.place c.requires.place known in
    let is = next.1 in
    let low =
    next_known (meant s.rows.now.tree.now.checked) s.rows.now.tree.now.tree f.is_tree
    (length (passes_in s)) (cuts_in s) i c.requires.item found.start found.node c.args.place c.requires.place in
    let few = f.few in
    let item =
    c.kid_item.ensures.item ∙ before_is s i found f c.rows_of.result.now c.rows_of.ensures.rows c.args.place in
    omega (arith, is, low, few, item)

pub returns-in-TopDown : goal.returns-in-TopDown
returns-in-TopDown c =
    let s = c.args.self.now in
    let i = c.args.item in
    let found = c.find-found.result in
    let f = c.find-found.ensures.found in
    let known = known_in s i found TopDown c.in-TopDown.is f in
    let next =
    next_down (meant s.rows.now.tree.now.checked) s.rows.now.tree.now.tree f.is_tree
    (length (passes_in s)) (cuts_in s) i c.requires.item found.start found.node c.args.place c.requires.place known in
    let item =
    c.kid_item.ensures.item ∙ before_is s i found f c.rows_of.result.now c.rows_of.ensures.rows c.args.place in
    record { next = ap (λ m. found.start + m) item ∙ sym next.1 }

-- ---- up to the parent's item

pub rows_of-requires-in-BottomUp : goal.rows_of-requires-in-BottomUp
rows_of-requires-in-BottomUp c = record { known = c.find-found.ensures.found.pass_known }

pub parent_item-requires-clause-node : goal.parent_item-requires-clause-node
parent_item-requires-clause-node c =
    node_known c.args.self.now c.args.item c.find-found.result c.find-found.ensures.found
    c.rows_of-in-BottomUp.result.now c.rows_of-in-BottomUp.ensures.rows

pub parent_item-requires-clause-parent : goal.parent_item-requires-clause-parent
parent_item-requires-clause-parent c =
    let s = c.args.self.now in
    let i = c.args.item in
    let found = c.find-found.result in
    let f = c.find-found.ensures.found in
    let known = known_in s i found BottomUp c.in-BottomUp.is f in
    holds s i found f c.rows_of-in-BottomUp.result.now c.rows_of-in-BottomUp.ensures.rows
    (λ w t. IsBegunBelow w (node_at t.tree found.node))
    (next_up (meant s.rows.now.tree.now.checked) s.rows.now.tree.now.tree f.is_tree
    (length (passes_in s)) (cuts_in s) i c.requires.item found.start found.node c.args.place c.requires.place known)

pub overflow_add-result-in-BottomUp : goal.overflow_add-result-in-BottomUp
overflow_add-result-in-BottomUp c =
    let s = c.args.self.now in
    let i = c.args.item in
    let found = c.find-found.result in
    let f = c.find-found.ensures.found in
    let known = known_in s i found BottomUp c.in-BottomUp.is f in
    let is =
    next_above (meant s.rows.now.tree.now.checked) s.rows.now.tree.now.tree f.is_tree
    (length (passes_in s)) (cuts_in s) i c.requires.item found.start found.node c.args.place c.requires.place known
    (found.start + c.parent_item.result)
    (sym (above_is s i found f c.rows_of-in-BottomUp.result.now c.rows_of-in-BottomUp.ensures.rows found.start)
    ∙ c.parent_item.ensures.item found.start) in
    let low =
    next_known (meant s.rows.now.tree.now.checked) s.rows.now.tree.now.tree f.is_tree
    (length (passes_in s)) (cuts_in s) i c.requires.item found.start found.node c.args.place c.requires.place in
    let few = f.few in
    omega (arith, is, low, few)

pub returns-in-BottomUp : goal.returns-in-BottomUp
returns-in-BottomUp c =
    let s = c.args.self.now in
    let i = c.args.item in
    let found = c.find-found.result in
    let f = c.find-found.ensures.found in
    let known = known_in s i found BottomUp c.in-BottomUp.is f in
    let is =
    next_above (meant s.rows.now.tree.now.checked) s.rows.now.tree.now.tree f.is_tree
    (length (passes_in s)) (cuts_in s) i c.requires.item found.start found.node c.args.place c.requires.place known
    (found.start + c.parent_item.result)
    (sym (above_is s i found f c.rows_of-in-BottomUp.result.now c.rows_of-in-BottomUp.ensures.rows found.start)
    ∙ c.parent_item.ensures.item found.start) in
    record { next = sym is }

-- ---- an inorder pass hands on to none

pub unreachable-requires : goal.unreachable-requires
unreachable-requires c =
    let s = c.args.self.now in
    let i = c.args.item in
    let found = c.find-found.result in
    let f = c.find-found.ensures.found in
    let known = known_in s i found InOrder c.in-InOrder.is f in
    no_next (meant s.rows.now.tree.now.checked) s.rows.now.tree.now.tree f.is_tree
    (length (passes_in s)) (cuts_in s) i c.requires.item found.start found.node c.args.place c.requires.place known
