use Rattle.std.proofs.Common.{◌≡◌, ◌++◌, take}
use Rattle.std.specs.List.{flat_map}
use Rattle.ftl_answer.specs.refusals.ScheduleLines.{spaced_text}
use Rattle.ftl_answer.proofs.refusals.names.spaced_all.Given as goal

-- the attributes so far
abbrev pub invariant-loop-attr : goal.invariant-loop-attr
invariant-loop-attr l = l.out.items ≡ l.fn.out.items ++ flat_map (spaced_text l.checked.grammar) (take l.attr-index l.attrs)
