use Rattle.std.proofs.Common.{◌≡◌, ◌-◌, List, length, ap, ◌∙◌, arith}
use Rattle.ftl_tokens.specs.scanner.Tokenized.{Tokenized}
use Rattle.ftl_tokens.specs.declared.scanner.kind.Token.{Token}
use Rattle.ftl_tokens.specs.reading.Place.{place_of}
use Rattle.ftl_tokens.proofs.reading.TokenCounts.{tokens-le-place}
use Rattle.ftl_document.proofs.syntax.counts.token_count.Goals as goal

pub returns : goal.returns
returns c = record {
  count =
      let s = c.args.scanned.now in
      let tokens = s.tokenized.tokens in
      let few = tokens-le-place s.greatest s.tokenized.text tokens c.list.ensures.tokens in
      let none : length tokens - 0 ≡ length tokens = omega arith in
      let end : c.place_in-end.result ≡ place_of tokens (length tokens) =
      c.place_in-end.ensures.place
      ∙ ap (λ (t : Tokenized). place_of t.tokens (length t.tokens - 0)) c.tokenized.ensures.tokenized
      ∙ ap (place_of tokens) none in
      let count : length c.list.result.now ≡ length tokens = ap (λ (l : List Token). length l) c.list.ensures.list in
      omega (arith, few, end, count, c.min.ensures);
}
