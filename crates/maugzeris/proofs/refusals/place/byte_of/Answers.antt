use Rattle.std.proofs.Common.{ℕ, ◌⊎◌}
use Rattle.ftl_tokens.specs.declared.scanner.fault.TokenFault.TheVariants as token
use Rattle.ftl_answer.specs.refusals.TextLines.{syntax_at, token_line, too_deep_at}
use Rattle.maugzeris.specs.refusals.Places.{IsLine}
use Rattle.maugzeris.proofs.refusals.Places.{told_last}
use Rattle.maugzeris.proofs.refusals.place.byte_of.Goals as goal

pub returns : goal.returns
returns c =
    let text = c.args.line.now in
    let which = c.args.section in
    let bad : ℕ → Type 0 = λ n. IsLine (token_line which (token.BadChar n)) text in
    let large : ℕ → Type 0 = λ n. IsLine (token_line which (token.NumberTooLarge n)) text in
    let syntax : ℕ → Type 0 = λ n. IsLine (syntax_at which n) text in
    let deep : ℕ → Type 0 = λ n. IsLine (too_deep_at which n) text in
    let r = c.byte_for-4.result in
    record {
      byte = told_last bad (λ n. large n ⊎ (syntax n ⊎ deep n)) c.in_default.ensures.byte r
          (told_last large (λ n. syntax n ⊎ deep n) c.in_default-byte_for.ensures.byte r
          (told_last syntax deep c.in_default-byte_for-2.ensures.byte r c.byte_for-4.ensures.byte));
    }
