use Rattle.std.proofs.Common.{◌≤◌, ◌-◌, length, sym, ap, ◌∙◌, subst, arith}
use Rattle.ftl_tokens.specs.scanner.Tokenized.{Tokenized, symbols_of}
use Rattle.ftl_tokens.specs.reading.Reader.{Tokens, AreAtMost}
use Rattle.ftl_tokens.specs.reading.Depth.{IsShallow}
use Rattle.ftl_tokens.specs.reading.Place.{place_of}
use Rattle.ftl_model.specs.layout.Limits.{most_nodes}
use Rattle.ftl_document.specs.syntax.Braces.{braces}
use Rattle.ftl_document.specs.syntax.Read.{IsNotTooDeep, opened_in}
use Rattle.ftl_document.specs.syntax.RowReading.{document}
use Rattle.ftl_document.proofs.syntax.Documents.{is_document, is_no_document}
use Rattle.ftl_document.proofs.syntax.read.read_written_document.Goals as goal

pub returns-in-Ok : goal.returns-in-Ok
returns-in-Ok c = record {
  answer =
      let s = c.args.scanned.now in
      let shallow : IsNotTooDeep s.tokenized =
      subst (λ (t : Tokenized). IsShallow braces 512 (symbols_of t)) c.tokenized.ensures.tokenized c.in_default.ensures.first in
      let few : opened_in s.tokenized ≤ most_nodes = omega (arith, c.if-count-gt-MOST_NODES.false, c.node_count-count.ensures.count) in
      let short : length s.tokenized.tokens ≤ 4294967295 =
      omega (arith, c.token_count-tokens.ensures.count, c.token_count-tokens.type_inv) in
      let small = subst (λ (ts : Tokens). AreAtMost s.greatest ts) c.new.ensures.tokens c.new.ensures.numbers in
      let e = sym (ap document (c.scanned-input.ensures.tokens ∙ c.new.ensures.tokens)) ∙ c.in-Ok.ensures.reads in
      is_document s c.in-Ok.document c.document.new.input shallow few short small e;
}

-- the fault isn't that of memory
pub returns-in-Err-Refused : goal.returns-in-Err-Refused
returns-in-Err-Refused c = record {
  answer =
      let s = c.args.scanned.now in
      let shallow : IsNotTooDeep s.tokenized =
      subst (λ (t : Tokenized). IsShallow braces 512 (symbols_of t)) c.tokenized.ensures.tokenized c.in_default.ensures.first in
      let few : opened_in s.tokenized ≤ most_nodes = omega (arith, c.if-count-gt-MOST_NODES.false, c.node_count-count.ensures.count) in
      let refused = c.in-Err-Refused.ensures.reads (λ memory. cc (c.in-Err-Refused.field-0-is)) in
      let e = sym (ap document (c.scanned-input.ensures.tokens ∙ c.new.ensures.tokens)) ∙ refused in
      let place =
      c.place_in.ensures.place
      ∙ ap (λ (t : Tokenized). place_of t.tokens (length t.tokens - c.left.result)) c.tokenized-in-Err-Refused.ensures.tokenized in
      is_no_document s.tokenized c.document.new.input c.left.result c.place_in.result shallow few e c.left.ensures.count place;
}
