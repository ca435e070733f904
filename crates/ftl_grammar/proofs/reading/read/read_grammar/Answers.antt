use Rattle.std.proofs.Common.{sym, ap, ◌∙◌}
use Rattle.ftl_grammar.specs.syntax.GrammarReading.{grammar}
use Rattle.ftl_grammar.proofs.reading.ReadLemmas.{is_grammar, is_no_grammar}
use Rattle.ftl_grammar.proofs.reading.read.read_grammar.Goals as goal

pub returns-in-Ok : goal.returns-in-Ok
returns-in-Ok c =
    let e = c.in-Ok.ensures.reads in
    let is = is_grammar c.args.scanned.now c.in-Ok.grammar _ c.in_default.ensures.first
    (sym (ap grammar c.new-input.ensures.tokens) ∙ e) in
    record { answer = is; readable = c.read_is_readable.ensures.readable c.in-Ok.grammar is }

-- the fault isn't that of memory
pub returns-in-Err-Refused-clause-answer : goal.returns-in-Err-Refused-clause-answer
returns-in-Err-Refused-clause-answer c =
    let e = c.in-Err-Refused.ensures.reads (λ memory. cc (c.in-Err-Refused.field-0-is)) in
    is_no_grammar c.args.scanned.now c.grammar.new.input c.left.result c.place.result c.in_default.ensures.first
    (sym (ap grammar c.new-input.ensures.tokens) ∙ e) c.left.ensures.count c.place.ensures.place
