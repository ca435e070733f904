use Rattle.ftl_tokens.proofs.scanner.TokenLemmas.{is_token_of-each}
use Rattle.ftl_tokens.proofs.scanner.scanned.Scanned.slice.Goals as goal

pub returns-clause-token : goal.returns-clause-token
returns-clause-token c = is_token_of-each 2147483647 c.args.self.now.text 0 c.args.self.now.tokens c.args.k c.tokenized.ensures.tokens
