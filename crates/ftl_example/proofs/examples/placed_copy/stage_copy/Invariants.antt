use Rattle.std.proofs.Common.{◌≡◌, ◌++◌, drop}
use Rattle.ftl_example.proofs.examples.placed_copy.stage_copy.Given as goal

abbrev pub invariant-loop-pass : goal.invariant-loop-pass
invariant-loop-pass l = l.passes ++ drop l.pass l.all ≡ l.fn.stage.passes
