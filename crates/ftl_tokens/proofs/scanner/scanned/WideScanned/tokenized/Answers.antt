use Rattle.std.proofs.Common.{subst}
use Rattle.ftl_tokens.specs.scanner.Tokenized.{AreTokensOf}
use Rattle.ftl_tokens.proofs.scanner.scanned.WideScanned.tokenized.Goals as goal

pub returns-clause-tokens : goal.returns-clause-tokens
returns-clause-tokens c = subst (λ s. AreTokensOf s.greatest s.tokenized.text 0 s.tokenized.tokens) c.self.view_is c.self.invariant.0
