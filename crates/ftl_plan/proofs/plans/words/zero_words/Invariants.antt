use Rattle.std.proofs.Common.{◌≡◌, ◌*◌, replicate}
use Rattle.ftl_plan.proofs.plans.words.zero_words.Given as goal

abbrev pub invariant-loop-run : goal.invariant-loop-run
invariant-loop-run l = l.words.items ≡ replicate (l._run * 256) 0
