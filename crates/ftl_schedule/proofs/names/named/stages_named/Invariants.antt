use Rattle.std.proofs.Common.{◌≡◌, drop}
use Rattle.ftl_schedule.specs.names.Named.{after, each, stage_named}
use Rattle.ftl_schedule.proofs.names.named.stages_named.Given as goal

abbrev pub invariant-loop-stage : goal.invariant-loop-stage
invariant-loop-stage l =
    after l.found (each (stage_named l.checked.grammar) (drop l.stage-index l.stages)) ≡ each (stage_named l.checked.grammar) l.stages
