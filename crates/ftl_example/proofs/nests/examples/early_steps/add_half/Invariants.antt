use Rattle.std.proofs.Common.{◌≡◌, ◌++◌, drop, filter}
use Rattle.ftl_deps.specs.reads.Meant.{meant}
use Rattle.ftl_example.specs.nests.examples.EarlySteps.{is_in_half}
use Rattle.ftl_nests.specs.Nests.{nest_placing_of}
use Rattle.ftl_nest_check.specs.stages.Nested.{nests_of}
use Rattle.ftl_example.proofs.nests.examples.early_steps.add_half.Given as goal

abbrev pub invariant-loop-place : goal.invariant-loop-place
invariant-loop-place l =
    l.order.items
    ++ filter (is_in_half (meant l.tree.checked) (nest_placing_of (nests_of l.placed)) l.tree.tree l.reader.step l.half)
    (drop l.place l.steps)
    ≡ l.initial.order.items
    ++ filter (is_in_half (meant l.tree.checked) (nest_placing_of (nests_of l.placed)) l.tree.tree l.reader.step l.half) l.steps
