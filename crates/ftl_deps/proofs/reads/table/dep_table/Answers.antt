use Rattle.std.proofs.Common.{sym, subst}
use Rattle.ftl_deps.specs.reads.DepRows.{IsAligned, writer_table}
use Rattle.ftl_deps.specs.reads.Meant.{meant}
use Rattle.ftl_deps.proofs.reads.WriterRows.{aligned}
use Rattle.ftl_deps.proofs.reads.table.dep_table.Goals as goal

pub invariant_of-result : goal.invariant_of-result
invariant_of-result c =
    let m = meant c.args.checked.now in
    subst (IsAligned c.in_ok-reads.reads) (sym c.in_ok-writers.ensures.writers)
    (subst (λ reads. IsAligned reads (writer_table m)) (sym c.in_ok-reads.ensures.rows) (aligned m))
