use Rattle.std.proofs.Common.{◌≡◌, ◌-◌, length, sym, ap, ◌∙◌, subst, arith}
use Rattle.ftl_tokens.specs.scanner.Tokenized.{Tokenized}
use Rattle.ftl_tokens.specs.reading.Place.{place_of}
use Rattle.ftl_tokens.specs.reading.Reader.{Tokens, AreAtMost}
use Rattle.ftl_edits.specs.syntax.Reading.{edits}
use Rattle.ftl_edits.proofs.syntax.Edits.{is_spelled, is_no_edits}
use Rattle.ftl_edits.proofs.syntax.Numbers.{edits-le-end, edits-within}
use Rattle.ftl_edits.proofs.syntax.read.read_written_edits.Goals as goal

pub returns-in-Ok-clause-answer : goal.returns-in-Ok-clause-answer
returns-in-Ok-clause-answer c =
    is_spelled _ _ c.in-Ok.edits (sym (ap edits c.new-input.ensures.tokens) ∙ c.in-Ok.ensures.reads)

pub returns-in-Ok-clause-values : goal.returns-in-Ok-clause-values
returns-in-Ok-clause-values c =
    let s = c.args.scanned.now in
    edits-within s.greatest
    (is_spelled _ _ c.in-Ok.edits (sym (ap edits c.new-input.ensures.tokens) ∙ c.in-Ok.ensures.reads))
    (subst (λ (ts : Tokens). AreAtMost s.greatest ts) c.new-input.ensures.tokens c.new-input.ensures.numbers)

pub returns-in-Ok-clause-count : goal.returns-in-Ok-clause-count
returns-in-Ok-clause-count c =
    let s = c.args.scanned.now in
    let few =
    edits-le-end s.greatest s.tokenized
    (is_spelled _ _ c.in-Ok.edits (sym (ap edits c.new-input.ensures.tokens) ∙ c.in-Ok.ensures.reads))
    c.list-tokens.ensures.tokens in
    let none : length s.tokenized.tokens - 0 ≡ length s.tokenized.tokens = omega arith in
    let end : c.place_in-end.result ≡ place_of s.tokenized.tokens (length s.tokenized.tokens) =
    c.place_in-end.ensures.place
    ∙ ap (λ (t : Tokenized). place_of t.tokens (length t.tokens - 0)) c.tokenized.ensures.tokenized
    ∙ ap (place_of s.tokenized.tokens) none in
    omega (arith, few, end, c.place_in-end.type_inv)

-- the fault isn't that of memory
pub returns-in-Err-Refused-clause-answer : goal.returns-in-Err-Refused-clause-answer
returns-in-Err-Refused-clause-answer c =
    let e = c.in-Err-Refused.ensures.reads (λ memory. cc (c.in-Err-Refused.field-0-is)) in
    let place =
    c.place_in.ensures.place
    ∙ ap (λ (t : Tokenized). place_of t.tokens (length t.tokens - c.left.result))
    c.tokenized-in-Err-Refused.ensures.tokenized in
    is_no_edits c.args.scanned.now.tokenized c.edits.new.input c.left.result c.place_in.result
    (sym (ap edits c.new-input.ensures.tokens) ∙ e) c.left.ensures.count place
