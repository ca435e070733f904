use Rattle.std.proofs.Common.{◌≡◌, ℕ, ◌<◌, length}
use Rattle.ftl_deps.specs.reads.Meant.{meant}
use Rattle.ftl_model.specs.layout.AttributeGrammar.{attributes_of}
use Rattle.ftl_nest_check.specs.stages.Nested.{nests_of}
use Rattle.ftl_nests.specs.Nests.{outer_schedule}
use Rattle.ftl_plan.specs.plans.FilledStages.{AreStagesSet, IsSet}
use Rattle.ftl_plan.proofs.plans.filled.marks_for_nodes.Given as goal

abbrev pub invariant-loop-class : goal.invariant-loop-class
invariant-loop-class l =
    (length l.marks.items ≡ l.count)
    × ((k : ℕ) → k < l.class → IsSet l.classes.items k
    → AreStagesSet (outer_schedule (nests_of l.accepted.schedule)) (attributes_of (meant l.tree.checked) k) l.marks.items)
