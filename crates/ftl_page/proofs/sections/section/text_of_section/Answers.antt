use Rattle.std.proofs.Common.{Some, Ok, sym, refl, ap, subst}
use Rattle.ftl_page.specs.sections.Lines.{lines_of}
use Rattle.ftl_page.specs.sections.Headings.{content}
use Rattle.ftl_page.specs.sections.Found.{TextGives}
use Rattle.ftl_page.specs.declared.sections.section.SectionText.TheVariants.{Given}
use Rattle.ftl_page.proofs.sections.BodyLemmas.{joined-lines_of}
use Rattle.ftl_page.proofs.sections.section.text_of_section.Goals as goal

-- the body is the text of its lines
pub returns-in-Own : goal.returns-in-Own
returns-in-Own c = record {
  text =
      subst (λ h. TextGives (Ok (Given c.args.body)) (content h) c.args.number (lines_of c.args.body.now))
      (sym c.in-Own.is)
      (refl, ap (λ bs. Some bs) (sym (joined-lines_of c.args.body.now)));
}
