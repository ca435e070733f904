use Rattle.std.proofs.Common.{◌≡◌, ◌-◌}
use Rattle.ftl_relayout.proofs.queue.Running.{IsRunning}
use Rattle.ftl_relayout.proofs.queue.run.run_all.Given as goal

abbrev pub invariant-loop-key : goal.invariant-loop-key
invariant-loop-key g l =
    (g.R.Rules.net l.rules ≡ g.R.Rules.net l.fn.rules)
    × IsRunning (g.R.Rules.net l.fn.rules) l.fn.values l.fn.waiting.keys (g.R.Rules.spent l.fn.rules) l.values l.waiting.keys
    l.trail.items (g.R.Rules.spent l.rules) l.least
    × (g.R.Rules.code l.rules ≡ g.R.Rules.code l.fn.rules)

abbrev pub decreases-loop-key : goal.decreases-loop-key
decreases-loop-key g l = 340282366920938463463374607431768211456 - l.least
