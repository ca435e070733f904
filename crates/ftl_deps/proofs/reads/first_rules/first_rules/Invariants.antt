use Rattle.std.proofs.Common.{take}
use Rattle.ftl_deps.specs.reads.Meant.{meant}
use Rattle.ftl_deps.specs.reads.Products.{FindsFirst}
use Rattle.ftl_deps.proofs.reads.first_rules.first_rules.Given as goal

abbrev pub invariant-loop-rule : goal.invariant-loop-rule
invariant-loop-rule l = FindsFirst (meant l.checked) (take l.rule (meant l.checked).rules) l.first
