use Rattle.std.proofs.Common.{◌≡◌, ◌++◌, drop, map}
use Rattle.ftl_nest_check.specs.places.NestPlaced.{entries_in, stage_entries}
use Rattle.ftl_nest_check.specs.declared.stages.types.NestingPass.{NestingPass}
use Rattle.ftl_nest_check.proofs.places.inner.stage_entries.Given as goal

abbrev pub invariant-loop-pass : goal.invariant-loop-pass
invariant-loop-pass l =
    l.passes ++ map (λ (pass : NestingPass). entries_in pass.nest) (drop l.pass l.all)
    ≡ (stage_entries l.stage).passes
