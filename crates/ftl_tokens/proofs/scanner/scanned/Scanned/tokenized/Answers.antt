use Rattle.std.proofs.Common.{subst}
use Rattle.ftl_tokens.specs.scanner.Tokenized.{AreTokensOf}
use Rattle.ftl_tokens.proofs.scanner.scanned.Scanned.tokenized.Goals as goal

pub returns-clause-tokens : goal.returns-clause-tokens
returns-clause-tokens c = subst (λ s. AreTokensOf 2147483647 s.text 0 s.tokens) c.self.view_is c.self.invariant
