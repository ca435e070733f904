use Rattle.std.proofs.Common.{◌≡◌, take}
use Rattle.ftl_deps.specs.reads.DepRows.{writer_table}
use Rattle.ftl_deps.specs.reads.Meant.{meant}
use Rattle.ftl_deps.proofs.reads.dep_writers.all_writers.Given as goal

abbrev pub invariant-loop-rule : goal.invariant-loop-rule
invariant-loop-rule l = l.writers ≡ take l.rule (writer_table (meant l.checked))
