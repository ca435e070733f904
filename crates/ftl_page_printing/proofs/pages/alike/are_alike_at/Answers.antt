use Rattle.std.proofs.Common.{rules, ◌≡◌, Some, sym, ap, ◌∙◌}
use Rattle.std.proofs.lemmas.Slice.Eq.{bytes_eq-Decides}
use Rattle.ftl_tokens.specs.scanner.Tokenized.{symbol}
use Rattle.ftl_page_printing.proofs.pages.alike.are_alike_at.Goals as goal

-- tokens of one kind and with one text say the same
pub returns-then-eq : goal.returns-then-eq
returns-then-eq c = record {
  alike = λ t.
      let one = c.in-Some-Some.token in
      let two = c.in-Some-Some.other in
      let kinds : one.kind ≡ two.kind = search rules in
      let texts : one.text.now ≡ two.text.now =
      (bytes_eq-Decides one.text.now two.text.now).0 (sym c.eq-then-eq.ensures ∙ t) in
      c.in-Some-Some.ensures.says
      ∙ ap (λ k. Some (symbol k one.text.now)) kinds
      ∙ ap (λ x. Some (symbol two.kind x)) texts
      ∙ sym c.in-Some-Some.ensures'.says;
}
