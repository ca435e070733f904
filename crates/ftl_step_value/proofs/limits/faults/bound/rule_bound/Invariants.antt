use Rattle.std.proofs.Common.{All, take}
use Rattle.ftl_deps.specs.parts.RuleParts.{parts_meant}
use Rattle.ftl_step_value.specs.limits.faults.ReadBound.{IsWithinReadLimit, PartsWithin}
use Rattle.ftl_step_value.proofs.limits.faults.bound.rule_bound.Given as goal

abbrev pub invariant-loop-parts : goal.invariant-loop-parts
invariant-loop-parts l = record {
  within : All (λ parts. PartsWithin l.bound (parts_meant parts)) (take l.parts-index l.rows);
  small : IsWithinReadLimit l.bound;
}
