use Rattle.std.proofs.Common.{Some, sym, ap, ◌∙◌}
use Rattle.ftl_document.proofs.pass.Starts.{mark_past, some_bytes}
use Rattle.ftl_document.proofs.pass.tokens.past_mark.Goals as goal

pub returns-in-Some : goal.returns-in-Some
returns-in-Some c = record {
  mark = λ greatest.
      mark_past greatest c.args.bytes.now c.past_gap-at.result.now c.args.kind (c.past_gap-at.ensures.same greatest)
      c.past_gap-at.ensures.gapless (some_bytes _ (sym c.is_empty.ensures ∙ c.if-is_empty.false))
      (sym c.plain_mark.ensures.mark ∙ c.in-Some.is ∙ ap Some (c.is_same.ensures.same c.if-is_same.true));
}
