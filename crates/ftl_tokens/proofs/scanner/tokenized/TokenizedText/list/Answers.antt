use Rattle.std.proofs.Common.{subst}
use Rattle.ftl_tokens.specs.scanner.Tokenized.{AreTokensOf}
use Rattle.ftl_tokens.proofs.scanner.tokenized.TokenizedText.list.Goals as goal

pub returns-clause-tokens : goal.returns-clause-tokens
returns-clause-tokens c = subst (λ s. AreTokensOf 140737488355327 s.text 0 s.tokens) c.self.view_is c.self.invariant
