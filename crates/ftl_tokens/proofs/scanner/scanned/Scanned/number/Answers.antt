use Rattle.std.proofs.Common.{◌≡◌, ◌≤◌, subst, arith}
use Rattle.std.specs.Prelude.{slice_get, IfSome}
use Rattle.std.specs.Str.Parse.{digits_value}
use Rattle.ftl_tokens.specs.scanner.Tokenized.{token_text}
use Rattle.ftl_tokens.proofs.scanner.TokenLemmas.{value-small}
use Rattle.ftl_tokens.proofs.scanner.scanned.Scanned.number.Goals as goal
use Rattle.ftl_tokens.proofs.scanner.scanned.Scanned.number.Goals.{After-number}

-- the number is at most the greatest, as each of the text's
small : (c : After-number) → c.number.result ≤ 2147483647
small c =
    value-small 2147483647 c.args.self.now.text c.args.self.now.tokens c.args.k c.number.result c.tokenized.ensures.tokens c.requires.number
    (subst (λ s. IfSome (slice_get s.tokens c.args.k) (λ t. c.number.result ≡ digits_value 10 (token_text s.text t))) c.tokenized.ensures.tokenized c.number.ensures.value)

-- and so fits 32 bits
pub overflow_cast-result : goal.overflow_cast-result
overflow_cast-result c = omega (arith, small c)

pub returns-clause-small : goal.returns-clause-small
returns-clause-small c = small c
