use Rattle.std.proofs.Common.{drop}
use Rattle.ftl_tokens.specs.scanner.Run.{goes_on}
use Rattle.ftl_tokens.proofs.scanner.RunLemmas.{RunsThrough}
use Rattle.ftl_tokens.proofs.scanner.run.run_length.Given as goal

abbrev pub invariant-loop-at : goal.invariant-loop-at
invariant-loop-at l = RunsThrough (goes_on l.run) l.text l.at (drop l.at l.text)
