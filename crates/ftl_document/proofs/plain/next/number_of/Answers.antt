use Rattle.std.proofs.Common.{◌∷◌, List, ℕ, sym, ap, ◌∙◌, arith}
use Rattle.ftl_tokens.specs.declared.scanner.run.Run.TheVariants.{Digits}
use Rattle.ftl_tokens.specs.scanner.Tokenized.{number}
use Rattle.ftl_document.specs.plain.Plain.{plain_tokens}
use Rattle.ftl_document.proofs.plain.Fronts.{boundary_behind, digit_first, digits_behind, found_number, found_stop, large_number}
use Rattle.ftl_document.proofs.plain.next.number_of.Goals as goal

pub returns-then-number-greatest : goal.returns-then-number-greatest
returns-then-number-greatest c = record {
  found =
      found_stop c.args.greatest c.args.text.now c.stopped.result c.stopped.ensures.next c.stopped.ensures.rest
      (large_number c.args.greatest c.args.text.now c.args.length c.args.number c.requires.gapless c.requires.digits c.requires.length
      c.requires.number c.if-number-greatest.true);
}

pub range_from-requires : goal.range_from-requires
range_from-requires c = λ _.
    boundary_behind Digits c.args.text.now c.args.length c.utf8.text (digit_first c.args.text.now c.requires.digits)
    (digits_behind c.args.text.now c.args.length c.requires.digits c.requires.length)

pub returns : goal.returns
returns c = record {
  found = record {
    tokens =
        found_number c.args.greatest c.args.text.now c.args.length c.args.number c.requires.gapless c.requires.digits c.requires.length
        c.requires.number c.if-number-greatest.false
        ∙ ap (λ (l : List ℕ). number c.args.number ∷ plain_tokens c.args.greatest l) (sym c.range_from.ensures.value);
    small = omega (arith, c.if-number-greatest.false, c.requires.limit);
  };
}
