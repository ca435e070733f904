use Rattle.std.proofs.Common.{[], sym, subst}
use Rattle.std.proofs.lemmas.Result.{err_from_is_err_and}
use Rattle.ftl_model.specs.layout.Outcome.{Gives}
use Rattle.ftl_page.specs.declared.sections.fault.PageFault.TheVariants.{OutOfMemory}
use Rattle.ftl_page.proofs.sections.PageLemmas.{no_sections, page_stray, page_fault, page_sections}
use Rattle.ftl_page.proofs.sections.split.page_of_lines.Goals as goal

-- a stray line before the first section
pub returns-in_err-no_stray : goal.returns-in_err-no_stray
returns-in_err-no_stray c = record {
  exact =
      let p = err_from_is_err_and c.from_residual.result c.from_residual.ensures.1 in
      rw (p.1, p.2)
      (λ _. page_stray c.args.text.now c.split_body-body.result.text.now c.split_body-body.result.lines
      c.split_body-body.result.rest.now c.split_body-body.ensures.body c.args.width c.args.need
      c.in_err-no_stray.field-0.0 c.in_err-no_stray.ensures.stray);
}

-- a fault in the sections
pub returns-in_err-sections : goal.returns-in_err-sections
returns-in_err-sections c = record {
  exact =
      let p = err_from_is_err_and c.from_residual-in_err-sections.result c.from_residual-in_err-sections.ensures.1 in
      rw (p.1, p.2)
      (λ _. page_fault c.args.text.now c.split_body-body.result.text.now c.split_body-body.result.lines
      c.split_body-body.result.rest.now c.split_body-body.ensures.body c.args.width c.args.need
      c.in_err-sections.field-0.0 c.in_ok-no_stray.ensures.stray (c.in_err-sections.ensures.sections [] (no_sections c.new.result
      c.new.ensures.none)));
}

pub returns : goal.returns
returns c = record {
  exact =
      let is = page_sections c.args.text.now c.split_body-body.result.text.now c.split_body-body.result.lines
      c.split_body-body.result.rest.now c.split_body-body.ensures.body c.args.width c.args.need c.in_ok-sections.sections
      c.in_ok-no_stray.ensures.stray (c.in_ok-sections.ensures.sections [] (no_sections c.new.result c.new.ensures.none)) in
      subst (Gives OutOfMemory (λ page. page) c.page_of_sections.result) (sym is) c.page_of_sections.ensures.exact;
}
