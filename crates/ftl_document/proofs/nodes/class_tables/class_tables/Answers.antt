use Rattle.std.proofs.Common.{◌∷◌, [], sym, subst, ap, arith, length, length-append}
use Rattle.ftl_document.specs.nodes.Tables.{AreTables}
use Rattle.ftl_document.proofs.nodes.ClassWidths.{tables_more}
use Rattle.ftl_document.proofs.nodes.class_tables.class_tables.Goals as goal

pub loop-class-preserved : goal.loop-class-preserved
loop-class-preserved c =
    let g = c.args.checked.now.grammar in
    let ts = c.loop-class.tables.items in
    let t = c.in_ok-class_table.field-0 in
    let held = c.loop-class.invariant in
    let items = c.in_ok-push.ensures.items in
    let many = ap length items in
    let both = length-append ts (t ∷ []) in
    let count = held.count in
    record {
      tables = subst (AreTables g) (sym items) (tables_more g ts t c.loop-class.class held.count held.tables
          c.in_ok-class_table.ensures.table);
      count = omega (arith, many, both, count);
    }
