use Rattle.std.proofs.Common.{◌≡◌, map, take}
use Rattle.ftl_deps.specs.reads.Meant.{meant}
use Rattle.ftl_visit.specs.passes.VisitRows.{target_of}
use Rattle.ftl_visit.proofs.passes.rule_target.rule_targets.Given as goal

abbrev pub invariant-loop-rule : goal.invariant-loop-rule
invariant-loop-rule l = l.targets.items ≡ map target_of (take l.rule (meant l.checked).rules)
