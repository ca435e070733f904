use Rattle.std.proofs.Common.{◌≡◌, ◌++◌, drop}
use Rattle.ftl_nest_text.specs.reading.NestLimits.{stage_sizes}
use Rattle.ftl_nest_text.proofs.reading.limits.stage_sizes.Given as goal

abbrev pub invariant-loop-stage : goal.invariant-loop-stage
invariant-loop-stage l = l.sizes ++ stage_sizes (drop l.stage-index l.stages) ≡ stage_sizes l.stages
