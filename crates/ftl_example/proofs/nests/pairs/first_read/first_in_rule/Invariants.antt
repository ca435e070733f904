use Rattle.ftl_deps.specs.reads.Meant.{meant}
use Rattle.ftl_nests.specs.Nests.{nest_placing_of}
use Rattle.ftl_nest_check.specs.stages.Nested.{nests_of}
use Rattle.ftl_example.specs.nests.pairs.FirstRefused.{HasNone}
use Rattle.ftl_example.proofs.nests.pairs.first_read.first_in_rule.Given as goal

abbrev pub invariant-loop-place : goal.invariant-loop-place
invariant-loop-place l = HasNone (meant l.checked) (nest_placing_of (nests_of l.placed)) l.rule l.place
