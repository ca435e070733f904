use Rattle.std.proofs.Common.{◌≡◌, ◌≤◌, subst}
use Rattle.std.specs.Prelude.{slice_get, IfSome}
use Rattle.std.specs.Str.Parse.{digits_value}
use Rattle.ftl_tokens.specs.scanner.Tokenized.{token_text}
use Rattle.ftl_tokens.proofs.scanner.TokenLemmas.{value-small}
use Rattle.ftl_tokens.proofs.scanner.scanned.WideScanned.number.Goals as goal
use Rattle.ftl_tokens.proofs.scanner.scanned.WideScanned.number.Goals.{After-number}

-- the number is at most the greatest, as each of the text's
small : (c : After-number) → c.number.result ≤ c.args.self.now.greatest
small c =
    value-small c.args.self.now.greatest c.args.self.now.tokenized.text c.args.self.now.tokenized.tokens c.args.k c.number.result c.tokenized.ensures.tokens c.requires.number
    (subst (λ s. IfSome (slice_get s.tokens c.args.k) (λ t. c.number.result ≡ digits_value 10 (token_text s.text t))) c.tokenized.ensures.tokenized c.number.ensures.value)

pub returns-clause-small : goal.returns-clause-small
returns-clause-small c = small c
