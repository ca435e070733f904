use Rattle.std.proofs.Common.{arith, get_or, length, sym, ap}
use Rattle.ftl_noncircular.proofs.walks.LedTables.{rows_are, rows_more, rows_none}
use Rattle.ftl_noncircular.proofs.walks.table.Walks.new.Goals as goal

pub loop-start-init : goal.loop-start-init
loop-start-init c = rows_none c.args.edges c.args.starts.items c.in_ok-rows.rows.items c.in_ok-rows.ensures.items

pub loop-start-preserved : goal.loop-start-preserved
loop-start-preserved c =
    rows_more c.args.edges c.args.starts.items c.loop-start.rows.items c.push.new.self.items c.loop-start.start-index
    (get_or c.deref-start-items.result.now c.loop-start.start-index 0) c.row_from.result c.loop-start.invariant
    c.in_ok-push.ensures.items (ap (λ xs. get_or xs c.loop-start.start-index 0) (sym c.deref-start-items.ensures.value))
    c.row_from.ensures.exact

pub invariant_of-result : goal.invariant_of-result
invariant_of-result c =
    rows_are c.args.edges c.args.starts.items c.loop-start.rows.items c.loop-start.start-index c.requires.ends
    (omega (arith, c.loop-start-test.false, ap length c.deref-start-items.ensures.value))
    (omega (arith, c.loop-start.auto.start-index-end, ap length c.deref-start-items.ensures.value))
    c.loop-start.invariant
