use Rattle.std.proofs.Common.{take}
use Rattle.ftl_deps.specs.reads.Meant.{meant}
use Rattle.ftl_visit.specs.visits.Targets.{FindsFirst}
use Rattle.ftl_visit.proofs.visits.rule_index.rule_numbers.Given as goal

abbrev pub invariant-loop-rule : goal.invariant-loop-rule
invariant-loop-rule l = FindsFirst (take l.rule (meant l.checked).rules) l.numbers
