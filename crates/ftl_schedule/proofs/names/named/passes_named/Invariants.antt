use Rattle.std.proofs.Common.{◌≡◌, drop}
use Rattle.ftl_schedule.specs.names.Named.{after, each, pass_named}
use Rattle.ftl_schedule.proofs.names.named.passes_named.Given as goal

abbrev pub invariant-loop-pass : goal.invariant-loop-pass
invariant-loop-pass l =
    after l.found (each (pass_named l.checked.grammar) (drop l.pass-index l.passes)) ≡ each (pass_named l.checked.grammar) l.passes
