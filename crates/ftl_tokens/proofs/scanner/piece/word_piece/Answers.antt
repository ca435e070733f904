use Rattle.std.proofs.Common.{sym, ap, ◌∙◌, subst}
use Rattle.std.specs.List.{prefix_len}
use Rattle.std.specs.Str.{chars, IsCharBoundary}
use Rattle.unicode_ident.specs.Ident.{is_xid_continue}
use Rattle.ftl_tokens.specs.scanner.Kinds.{kind_of_word}
use Rattle.ftl_tokens.proofs.scanner.TextLemmas.{is_cut}
use Rattle.ftl_tokens.proofs.scanner.PieceLemmas.{word_piece_is}
use Rattle.ftl_tokens.proofs.scanner.piece.word_piece.Goals as goal

-- the word ends between characters
pub range-requires-clause-end_boundary : goal.range-requires-clause-end_boundary
range-requires-clause-end_boundary c =
    subst (IsCharBoundary c.args.text.now) (sym c.run_length-length.ensures.length)
    (is_cut c.args.text.now (prefix_len is_xid_continue (chars c.args.text.now)) c.utf8.text).boundary

pub returns : goal.returns
returns c = record {
  piece =
      λ greatest. word_piece_is greatest c.args.text.now c.word_kind.result c.run_length-length.result c.utf8.text c.requires.word c.run_length-length.ensures.length
      (c.word_kind.ensures.kind ∙ ap kind_of_word c.range.ensures.value);
}
