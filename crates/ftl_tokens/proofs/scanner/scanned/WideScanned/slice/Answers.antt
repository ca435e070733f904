use Rattle.ftl_tokens.proofs.scanner.TokenLemmas.{is_token_of-each}
use Rattle.ftl_tokens.proofs.scanner.scanned.WideScanned.slice.Goals as goal

pub returns-clause-token : goal.returns-clause-token
returns-clause-token c = is_token_of-each c.args.self.now.greatest c.args.self.now.tokenized.text 0 c.args.self.now.tokenized.tokens c.args.k c.tokenized.ensures.tokens
