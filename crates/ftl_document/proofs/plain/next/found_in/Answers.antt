use Rattle.std.proofs.Common.{◌∙◌, sym, refl}
use Rattle.std.proofs.lemmas.Bool.{eqb-true}
use Rattle.ftl_document.proofs.plain.Fronts.{found_behind, found_end, same_of_bytes}
use Rattle.ftl_document.proofs.plain.next.found_in.Goals as goal

pub returns-then-is_empty : goal.returns-then-is_empty
returns-then-is_empty c = record {
  found =
      found_behind c.args.greatest c.args.text.now c.range_from-rest.result.now c.gap_length.result _ c.range_from-rest.ensures.value
      (same_of_bytes c.args.text.now c.as_bytes.result.now c.gap_length.result c.as_bytes.ensures.value c.gap_length.ensures.same c.args.greatest)
      (found_end c.args.greatest c.range_from-rest.result.now _ refl (eqb-true _ 0 (sym c.is_empty.ensures ∙ c.if-is_empty.true)));
}

pub returns-then-begins_word : goal.returns-then-begins_word
returns-then-begins_word c = record {
  found =
      found_behind c.args.greatest c.args.text.now c.range_from-rest.result.now c.gap_length.result _ c.range_from-rest.ensures.value
      (same_of_bytes c.args.text.now c.as_bytes.result.now c.gap_length.result c.as_bytes.ensures.value c.gap_length.ensures.same c.args.greatest) (c.word_in.ensures.found c.args.greatest);
}

pub returns-else-is_digit : goal.returns-else-is_digit
returns-else-is_digit c = record {
  found =
      found_behind c.args.greatest c.args.text.now c.range_from-rest.result.now c.gap_length.result _ c.range_from-rest.ensures.value
      (same_of_bytes c.args.text.now c.as_bytes.result.now c.gap_length.result c.as_bytes.ensures.value c.gap_length.ensures.same c.args.greatest) (c.mark_in.ensures.found c.args.greatest);
}
