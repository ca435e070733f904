use Rattle.std.proofs.Common.{refl, arith}
use Rattle.std.specs.Str.{chars}
use Rattle.ftl_tokens.proofs.scanner.TextLemmas.{first_char, two_chars, no_char}
use Rattle.ftl_tokens.proofs.scanner.PieceLemmas.{no_mark_at, last_mark_at, short_mark_at, long_mark_at}
use Rattle.ftl_tokens.proofs.scanner.piece.mark_piece.Goals as goal

-- the text is empty
pub returns-in_default : goal.returns-in_default
returns-in_default c = record {
  piece =
      λ greatest. no_mark_at greatest (chars c.args.text.now) (no_char c.args.text.now _ c.chars-rest.ensures.rest c.in_default.ensures.steps.0.0);
}

pub returns-in-Some-long_mark : goal.returns-in-Some-long_mark
returns-in-Some-long_mark c = record {
  piece =
      let front = two_chars c.args.text.now _ _ _ c.in-Some.first c.in-Some-next.second c.utf8.text c.chars-rest.ensures.rest c.in-Some.ensures.steps.0 c.in-Some-next.ensures.steps.0 in
      λ greatest. long_mark_at greatest (chars c.args.text.now) c.in-Some.first c.in-Some-next.second _ c.long_mark.result c.in-Some-long_mark.kind _ front c.requires.other c.long_mark.ensures.kind c.in-Some-long_mark.is
      (omega (arith, c.len_utf8.ensures.value, c.len_utf8-in-Some-long_mark.ensures.value));
}

pub returns-in-None : goal.returns-in-None
returns-in-None c = record {
  piece =
      let front = two_chars c.args.text.now _ _ _ c.in-Some.first c.in-Some-next.second c.utf8.text c.chars-rest.ensures.rest c.in-Some.ensures.steps.0 c.in-Some-next.ensures.steps.0 in
      λ greatest. short_mark_at greatest (chars c.args.text.now) c.in-Some.first c.in-Some-next.second _ c.long_mark.result c.short_piece-in-None.result front c.requires.other c.long_mark.ensures.kind c.in-None.is (c.short_piece-in-None.ensures.piece greatest);
}

-- one character is left
pub returns-in_default-next : goal.returns-in_default-next
returns-in_default-next c = record {
  piece =
      let front = first_char c.args.text.now _ _ c.in-Some.first c.utf8.text c.chars-rest.ensures.rest c.in-Some.ensures.steps.0 in
      λ greatest. last_mark_at greatest (chars c.args.text.now) c.in-Some.first _ c.short_piece.result front (no_char _ _ refl c.in_default-next.ensures.steps.0.0) c.requires.other (c.short_piece.ensures.piece greatest);
}
