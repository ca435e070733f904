use Rattle.std.proofs.Common.{◌≤◌}
use Rattle.ftl_refusals.specs.tokens.Named.{SaysPath}
use Rattle.ftl_refusals.proofs.tokens.NamedLemmas.{NoneIn}
use Rattle.ftl_refusals.proofs.tokens.finding.first_path.Given as goal

-- none of the tokens so far is one
abbrev pub invariant-loop-k : goal.invariant-loop-k
invariant-loop-k l = (l.from ≤ l.k) × NoneIn (SaysPath l.scanned l.owner l.name) l.from l.k
