use Rattle.std.proofs.Common.{length, sym, ap, ◌∙◌}
use Rattle.std.specs.Str.{chars}
use Rattle.std.proofs.lemmas.Str.{chars-nil}
use Rattle.std.proofs.lemmas.Bool.{eqb-true}
use Rattle.std.proofs.lemmas.List.{nil_from_length}
use Rattle.ftl_tokens.proofs.scanner.FirstLemmas.{some_bytes, first_word, first_number, first_white, first_other}
use Rattle.ftl_tokens.proofs.scanner.FirstLemmas.{first_comment, first_token, far_token}
use Rattle.ftl_tokens.proofs.scanner.PieceLemmas.{nothing_at}
use Rattle.ftl_tokens.proofs.scanner.RunLemmas.{first_far}
use Rattle.ftl_tokens.proofs.scanner.piece.piece_of.Goals as goal

-- the text is empty
pub returns-then-is_empty : goal.returns-then-is_empty
returns-then-is_empty c = record {
  piece =
      nothing_at c.args.greatest (chars c.args.text.now)
      (ap length (ap chars (nil_from_length c.args.text.now (eqb-true _ 0 (sym c.is_empty.ensures ∙ c.if-is_empty.true))) ∙ chars-nil));
}

pub far_piece-requires : goal.far_piece-requires
far_piece-requires c = record {
  far =
      first_far c.args.text.now c.as_bytes.result.now c.utf8.text c.as_bytes.ensures.value (some_bytes c.args.text.now _ c.is_empty.ensures c.if-is_empty.false) c.if-first-ge128.true;
}

pub returns-then-first-ge128 : goal.returns-then-first-ge128
returns-then-first-ge128 c = record {
  piece =
      far_token (chars c.args.text.now) c.args.greatest c.far_piece.result
      (first_far c.args.text.now c.as_bytes.result.now c.utf8.text c.as_bytes.ensures.value (some_bytes c.args.text.now _ c.is_empty.ensures c.if-is_empty.false) c.if-first-ge128.true)
      (c.far_piece.ensures.piece c.args.greatest);
}

pub word_piece-requires : goal.word_piece-requires
word_piece-requires c = record {
  word =
      first_word c.args.text.now c.as_bytes.result.now c.utf8.text c.as_bytes.ensures.value (some_bytes c.args.text.now _ c.is_empty.ensures c.if-is_empty.false)
      (sym c.byte_begins_word.ensures.begins ∙ c.if-byte_begins_word.true);
}

pub number_piece-requires-clause-number : goal.number_piece-requires-clause-number
number_piece-requires-clause-number c =
    first_number c.args.text.now c.as_bytes.result.now c.utf8.text c.as_bytes.ensures.value (some_bytes c.args.text.now _ c.is_empty.ensures c.if-is_empty.false)
    (sym c.byte_goes_on-else-byte_begins_word.ensures.goes ∙ c.if-byte_goes_on-2.true)

pub mark_piece-requires : goal.mark_piece-requires
mark_piece-requires c = record {
  other =
      first_other c.args.text.now c.as_bytes.result.now c.utf8.text c.as_bytes.ensures.value (some_bytes c.args.text.now _ c.is_empty.ensures c.if-is_empty.false)
      c.if-first-ge128.false (sym c.byte_begins_word.ensures.begins ∙ c.if-byte_begins_word.false)
      (sym c.byte_goes_on-else-byte_begins_word.ensures.goes ∙ c.if-byte_goes_on-2.false);
}

pub returns-then-byte_goes_on : goal.returns-then-byte_goes_on
returns-then-byte_goes_on c = record {
  piece =
      first_white c.args.text.now c.as_bytes.result.now c.utf8.text c.as_bytes.ensures.value (some_bytes c.args.text.now _ c.is_empty.ensures c.if-is_empty.false)
      c.args.greatest c.run_length.result (sym c.byte_goes_on.ensures.goes ∙ c.if-byte_goes_on.true) c.run_length.ensures.length;
}

pub returns-then-first-eq35 : goal.returns-then-first-eq35
returns-then-first-eq35 c = record {
  piece =
      first_comment c.args.text.now c.as_bytes.result.now c.utf8.text c.as_bytes.ensures.value (some_bytes c.args.text.now _ c.is_empty.ensures c.if-is_empty.false)
      c.if-first-ge128.false c.args.greatest c.run_length-then-first-eq35.result
      (sym c.byte_goes_on.ensures.goes ∙ c.if-byte_goes_on.false) c.if-first-eq35.true c.run_length-then-first-eq35.ensures.length;
}

pub returns-then-byte_begins_word : goal.returns-then-byte_begins_word
returns-then-byte_begins_word c = record {
  piece =
      first_token c.args.text.now c.as_bytes.result.now c.utf8.text c.as_bytes.ensures.value (some_bytes c.args.text.now _ c.is_empty.ensures c.if-is_empty.false)
      c.if-first-ge128.false c.args.greatest c.word_piece.result (sym c.byte_goes_on.ensures.goes ∙ c.if-byte_goes_on.false)
      c.if-first-eq35.false (c.word_piece.ensures.piece c.args.greatest);
}

pub returns-then-byte_goes_on-2 : goal.returns-then-byte_goes_on-2
returns-then-byte_goes_on-2 c = record {
  piece =
      first_token c.args.text.now c.as_bytes.result.now c.utf8.text c.as_bytes.ensures.value (some_bytes c.args.text.now _ c.is_empty.ensures c.if-is_empty.false)
      c.if-first-ge128.false c.args.greatest c.number_piece.result (sym c.byte_goes_on.ensures.goes ∙ c.if-byte_goes_on.false)
      c.if-first-eq35.false c.number_piece.ensures.piece;
}

pub returns-else-byte_goes_on-2 : goal.returns-else-byte_goes_on-2
returns-else-byte_goes_on-2 c = record {
  piece =
      first_token c.args.text.now c.as_bytes.result.now c.utf8.text c.as_bytes.ensures.value (some_bytes c.args.text.now _ c.is_empty.ensures c.if-is_empty.false)
      c.if-first-ge128.false c.args.greatest c.mark_piece.result (sym c.byte_goes_on.ensures.goes ∙ c.if-byte_goes_on.false)
      c.if-first-eq35.false (c.mark_piece.ensures.piece c.args.greatest);
}
