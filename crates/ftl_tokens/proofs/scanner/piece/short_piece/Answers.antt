use Rattle.ftl_tokens.proofs.scanner.PieceLemmas.{short_mark_is, no_mark_is}
use Rattle.ftl_tokens.proofs.scanner.piece.short_piece.Goals as goal

pub returns-in-Some : goal.returns-in-Some
returns-in-Some c = record {
  piece =
      λ greatest. short_mark_is greatest c.args.c c.short_mark.result c.in-Some.kind c.len_utf8.result c.short_mark.ensures.kind c.in-Some.is c.len_utf8.ensures.value;
}

pub returns-in-None : goal.returns-in-None
returns-in-None c = record {
  piece =
      λ greatest. no_mark_is greatest c.args.c c.short_mark.result c.short_mark.ensures.kind c.in-None.is;
}
