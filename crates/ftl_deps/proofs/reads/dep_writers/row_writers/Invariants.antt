use Rattle.std.proofs.Common.{◌≡◌, ◌++◌, drop, map}
use Rattle.ftl_order.specs.dependencies.Writers.{first_writer}
use Rattle.ftl_deps.specs.reads.Meant.{meant}
use Rattle.ftl_deps.proofs.reads.dep_writers.row_writers.Given as goal

abbrev pub invariant-loop-place : goal.invariant-loop-place
invariant-loop-place l =
    l.writers ++ map (first_writer (meant l.checked) l.class) (drop l.place l.reads)
    ≡ map (first_writer (meant l.checked) l.class) l.reads
