use Rattle.std.proofs.Common.{◌≡◌, ◌++◌, drop}
use Rattle.ftl_nest_text.specs.reading.NestLimits.{inner_sizes}
use Rattle.ftl_nest_text.proofs.reading.limits.add_inner.Given as goal

abbrev pub invariant-loop-pass : goal.invariant-loop-pass
invariant-loop-pass l =
    l.sizes ++ inner_sizes (drop l.pass-index l.passes) ≡ l.initial.sizes ++ inner_sizes l.passes
