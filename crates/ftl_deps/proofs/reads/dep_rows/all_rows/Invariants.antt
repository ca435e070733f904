use Rattle.std.proofs.Common.{◌≡◌, take}
use Rattle.ftl_order.specs.dependencies.DepReads.{dep_table}
use Rattle.ftl_deps.specs.reads.Meant.{meant}
use Rattle.ftl_deps.proofs.reads.dep_rows.all_rows.Given as goal

abbrev pub invariant-loop-rule : goal.invariant-loop-rule
invariant-loop-rule l = l.rows ≡ take l.rule (dep_table (meant l.checked))
