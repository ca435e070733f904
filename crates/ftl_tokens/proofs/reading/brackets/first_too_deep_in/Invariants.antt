use Rattle.ftl_tokens.specs.reading.Depth.{brackets_of}
use Rattle.ftl_tokens.proofs.reading.ShallowLemmas.{Counted}
use Rattle.ftl_tokens.proofs.reading.brackets.first_too_deep_in.Given as goal

abbrev pub invariant-loop-token : goal.invariant-loop-token
invariant-loop-token l = Counted (brackets_of l.opening l.closing) l.limit l.scanned l.token-index l.opened l.closed
