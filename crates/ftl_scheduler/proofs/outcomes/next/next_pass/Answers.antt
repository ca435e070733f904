use Rattle.std.proofs.Common.{arith}
use Rattle.ftl_order.specs.orders.Schedule.{bottomup, inorder, topdown}
use Rattle.ftl_scheduler.proofs.outcomes.NextPass.{is_empty, not_empty, next_down, next_in_order, next_up}
use Rattle.ftl_scheduler.proofs.outcomes.RowLists.{rows_give_list}
use Rattle.ftl_scheduler.proofs.outcomes.next.next_pass.Goals as goal

pub returns-then-len-clause-next : goal.returns-then-len-clause-next
returns-then-len-clause-next c g list law tables computed is_row =
    let t = c.args.tables.now in
    let all = c.args.all.now in
    let row = c.args.done.now in
    let down = rows_give_list g topdown t.down all row list c.in_ok-down.down law tables.down computed is_row
    c.in_ok-down.ensures.largest in
    let up = rows_give_list g bottomup t.up all row list c.in_ok-up.up law tables.up computed is_row c.in_ok-up.ensures.largest in
    let less = c.if-len.true in
    let x = c.len.ensures in
    let y = c.len-2.ensures in
    next_up g law list c.in_ok-down.down c.in_ok-up.up down up (omega (arith, less, x, y))

pub returns-then-not-is_empty-clause-next : goal.returns-then-not-is_empty-clause-next
returns-then-not-is_empty-clause-next c g list law tables computed is_row =
    let t = c.args.tables.now in
    let all = c.args.all.now in
    let row = c.args.done.now in
    let down = rows_give_list g topdown t.down all row list c.in_ok-down.down law tables.down computed is_row
    c.in_ok-down.ensures.largest in
    let up = rows_give_list g bottomup t.up all row list c.in_ok-up.up law tables.up computed is_row c.in_ok-up.ensures.largest in
    let few = c.if-len.false in
    let x = c.len.ensures in
    let y = c.len-2.ensures in
    next_down g law list c.in_ok-down.down c.in_ok-up.up down up (not_empty c.is_empty.result c.in_ok-down.down c.is_empty.ensures c.if-not-is_empty.true)
    (omega (arith, few, x, y))

pub returns-clause-next : goal.returns-clause-next
returns-clause-next c g list law tables computed is_row =
    let t = c.args.tables.now in
    let all = c.args.all.now in
    let row = c.args.done.now in
    let down = rows_give_list g topdown t.down all row list c.in_ok-down.down law tables.down computed is_row
    c.in_ok-down.ensures.largest in
    let up = rows_give_list g bottomup t.up all row list c.in_ok-up.up law tables.up computed is_row c.in_ok-up.ensures.largest in
    let in_order = rows_give_list g inorder t.in_order all row list c.in_ok-attrs.attrs law tables.in_order computed is_row
    c.in_ok-attrs.ensures.largest in
    let few = c.if-len.false in
    let x = c.len.ensures in
    let y = c.len-2.ensures in
    next_in_order g law list c.in_ok-down.down c.in_ok-up.up down up c.in_ok-attrs.attrs in_order
    (is_empty c.is_empty.result c.in_ok-down.down c.is_empty.ensures c.if-not-is_empty.false)
    (omega (arith, few, x, y))
