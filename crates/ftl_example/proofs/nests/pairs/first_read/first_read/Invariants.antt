use Rattle.std.proofs.Common.{ℕ, ◌<◌}
use Rattle.ftl_deps.specs.reads.Meant.{meant}
use Rattle.ftl_nests.specs.Nests.{nest_placing_of}
use Rattle.ftl_nest_check.specs.stages.Nested.{nests_of}
use Rattle.ftl_example.specs.pairs.FirstPlace.{read_count}
use Rattle.ftl_example.specs.nests.pairs.FirstRefused.{HasNone}
use Rattle.ftl_example.proofs.nests.pairs.first_read.first_read.Given as goal

abbrev pub invariant-loop-rule : goal.invariant-loop-rule
invariant-loop-rule l =
    (m : ℕ) → m < l.rule
    → HasNone (meant l.checked) (nest_placing_of (nests_of l.placed)) m (read_count (meant l.checked) m)
