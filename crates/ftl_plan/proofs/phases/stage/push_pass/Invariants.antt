use Rattle.std.proofs.Common.{◌≡◌, ◌++◌}
use Rattle.ftl_cursors.specs.items.RowsCut.{is_whole_in}
use Rattle.ftl_cursors.specs.items.StageItems.{tree_in}
use Rattle.ftl_schedule.specs.stages.Stages.{kind_of}
use Rattle.ftl_plan.specs.phases.StagePhases.{grammar_in}
use Rattle.ftl_plan.proofs.phases.Pushed.{pushed}
use Rattle.ftl_plan.proofs.phases.stage.push_pass.Given as goal

abbrev pub invariant-loop-item : goal.invariant-loop-item
invariant-loop-item l =
    l.phases.items
    ≡ l.initial.phases.items ++ pushed (grammar_in l.rows) (is_whole_in l.rows) (tree_in l.rows) l.size (kind_of l.kind) l.item
