use Rattle.std.proofs.Common.{map}
use Rattle.ftl_deps.specs.parts.RuleParts.{parts_meant}
use Rattle.ftl_relayout.specs.readers.Tables.{Comes, IsOfRules}
use Rattle.ftl_relayout.proofs.readers.table.add_rules.Given as goal

-- the reads of the rules before this one have come
abbrev pub invariant-loop-rule : goal.invariant-loop-rule
invariant-loop-rule l = Comes l.classes l.fn.lists l.lists (IsOfRules l.checked (map parts_meant l.parts) l.rule)
