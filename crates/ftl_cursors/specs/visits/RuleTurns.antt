-- The steps of a rule at a node, for some kids, one after the other.
use Rattle.std.specs.Prelude.{◌-◌, List, map}
use Rattle.std.specs.List.{range_with_len}
use Rattle.ftl_order.specs.declared.steps.step.Step.{Step}
use Rattle.ftl_cursors.specs.declared.visits.rule_turns.Turns.{Turns}
use Rattle.ftl_cursors.specs.visits.VisitSteps.{step}

-- the steps, from the first kid to the last before the end
abbrev pub turn_steps : Turns → List Step
turn_steps x = map (step x.node x.rule) (range_with_len x.kid (x.kid_end - x.kid))
