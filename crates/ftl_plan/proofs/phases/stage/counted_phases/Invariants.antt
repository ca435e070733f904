use Rattle.std.proofs.Common.{◌≡◌}
use Rattle.ftl_cursors.specs.items.StageItems.{cuts_in, tree_of}
use Rattle.ftl_plan.specs.phases.StagePhases.{grammar_of_items, phases_to}
use Rattle.ftl_plan.proofs.phases.stage.counted_phases.Given as goal

abbrev pub invariant-loop-pass : goal.invariant-loop-pass
invariant-loop-pass l =
    l.phases.items ≡ phases_to (grammar_of_items l.items) (cuts_in l.items) (tree_of l.items) l.size l.pass
