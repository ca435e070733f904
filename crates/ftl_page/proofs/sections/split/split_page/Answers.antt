use Rattle.std.proofs.Common.{sym, subst}
use Rattle.ftl_model.specs.layout.Outcome.{Gives}
use Rattle.ftl_page.specs.declared.sections.fault.PageFault.TheVariants.{OutOfMemory}
use Rattle.ftl_page.proofs.sections.PageLemmas.{page_not_text, page_text}
use Rattle.ftl_page.proofs.sections.TextLemmas.{answer_is_short}
use Rattle.ftl_page.proofs.sections.split.split_page.Goals as goal

pub returns-in_default : goal.returns-in_default
returns-in_default c = record {
  exact = λ _. page_not_text c.args.need c.args.bytes.now c.in_default.ensures.cases.0;
  short = tt;
}

pub returns : goal.returns
returns c =
    let is = page_text c.args.need c.in-Ok.text.now c.args.bytes.now c.in-Ok.ensures.cases.0 c.in-Ok.ensures.cases.1 in
    let exact = subst (Gives OutOfMemory (λ page. page) c.page_of_text.result) (sym is) c.page_of_text.ensures.exact in
    record { exact = exact; short = answer_is_short _ _ _ c.requires.limit exact }
