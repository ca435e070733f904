use Rattle.std.proofs.Common.{◌≡◌, ◌++◌, drop}
use Rattle.ftl_nest_text.specs.reading.NestLimits.{inner_stage_sizes}
use Rattle.ftl_nest_text.proofs.reading.limits.add_stages.Given as goal

abbrev pub invariant-loop-stage : goal.invariant-loop-stage
invariant-loop-stage l =
    l.sizes ++ inner_stage_sizes (drop l.stage-index l.stages) ≡ l.initial.sizes ++ inner_stage_sizes l.stages
