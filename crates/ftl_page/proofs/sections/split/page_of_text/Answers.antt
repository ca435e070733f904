use Rattle.std.proofs.Common.{sym, subst, ap, ◌∙◌}
use Rattle.ftl_model.specs.layout.Outcome.{Gives}
use Rattle.ftl_page.specs.declared.sections.fault.PageFault.TheVariants.{OutOfMemory}
use Rattle.ftl_page.specs.sections.Lines.{lines_of}
use Rattle.ftl_page.specs.sections.Page.{page_after}
use Rattle.ftl_page.proofs.sections.PageLemmas.{first_line}
use Rattle.ftl_page.proofs.sections.split.page_of_text.Goals as goal

-- line 1 names no width
pub returns-in_default : goal.returns-in_default
returns-in_default c = record {
  exact =
      λ _.
      let line = c.split_line.ensures in
      first_line c.args.need c.args.text.now _ _ line.lines line.whole
      ∙ ap (λ width. page_after width c.args.need (lines_of c.split_line.result.1.now))
      (sym c.width_of_line.ensures.width ∙ c.in_default.is);
}

pub returns : goal.returns
returns c = record {
  exact =
      let line = c.split_line.ensures in
      let is = first_line c.args.need c.args.text.now _ _ line.lines line.whole
      ∙ ap (λ width. page_after width c.args.need (lines_of c.split_line.result.1.now))
      (sym c.width_of_line.ensures.width ∙ c.in-Some.is) in
      subst (Gives OutOfMemory (λ page. page) c.page_of_lines.result) (sym is) c.page_of_lines.ensures.exact;
}
