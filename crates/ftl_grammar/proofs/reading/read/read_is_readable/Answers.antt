use Rattle.std.proofs.Common.{◌≡◌, ◌-◌, length, ap, ◌∙◌, subst, arith}
use Rattle.std.specs.Str.{IsUtf8}
use Rattle.ftl_tokens.specs.scanner.Tokenized.{symbols_of}
use Rattle.ftl_tokens.specs.reading.Place.{place_of}
use Rattle.ftl_tokens.proofs.reading.TokenCounts.{tokens-le-place}
use Rattle.ftl_tokens.proofs.scanner.TokenLemmas.{length-symbols_of}
use Rattle.ftl_grammar.proofs.printing.CanonicalTexts.{tokens_said}
use Rattle.ftl_grammar.proofs.reading.read.read_is_readable.Goals as goal

pub returns : goal.returns
returns c = record {
  readable = λ g is.
      let s = c.args.scanned.now in
      let tokens = c.list-tokens.ensures.tokens in
      let utf8 : IsUtf8 s.text = subst IsUtf8 c.text-text.ensures.text c.text-text.utf8 in
      let few = tokens-le-place 2147483647 s.text s.tokens tokens in
      let none : length s.tokens - 0 ≡ length s.tokens = omega arith in
      let end : c.place-end.result ≡ place_of s.tokens (length s.tokens) =
      c.place-end.ensures.place ∙ ap (place_of s.tokens) none in
      record {
        tokens = symbols_of s;
        said = tokens_said s.text 0 s.tokens utf8 tokens;
        few = omega (arith, few, end, length-symbols_of s, c.place-end.type_inv);
        shallow = is.shallow;
        spells = is.spells;
      };
}
