use Rattle.std.proofs.Common.{◌≡◌, map, take}
use Rattle.ftl_deps.specs.reads.Meant.{meant}
use Rattle.ftl_deps.specs.parts.RuleParts.{all_parts, parts_meant}
use Rattle.ftl_deps.proofs.parts.all_parts.parts_in_order.Given as goal

abbrev pub invariant-loop-rule : goal.invariant-loop-rule
invariant-loop-rule l = map parts_meant l.rows ≡ take l.rule (all_parts (meant l.checked))
