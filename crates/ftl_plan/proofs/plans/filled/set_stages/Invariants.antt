use Rattle.std.proofs.Common.{◌≡◌, length, take}
use Rattle.ftl_nest_check.specs.stages.Nested.{nests_of}
use Rattle.ftl_nests.specs.Nests.{outer_schedule}
use Rattle.ftl_plan.specs.plans.FilledStages.{AreStagesSet, StaySet}
use Rattle.ftl_plan.proofs.plans.filled.set_stages.Given as goal

abbrev pub invariant-loop-attr : goal.invariant-loop-attr
invariant-loop-attr l =
    (length l.marks.items ≡ length l.initial.marks.items)
    × (StaySet l.initial.marks.items l.marks.items)
    × (AreStagesSet (outer_schedule (nests_of l.accepted.schedule)) (take l.attr-index l.attrs) l.marks.items)
