use Rattle.std.proofs.Common.{sym, ap, ◌∙◌, option_map}
use Rattle.ftl_page.specs.sections.Headings.{content}
use Rattle.ftl_page.specs.sections.Lines.{words_of}
use Rattle.ftl_page.specs.sections.Blocks.{content_of}
use Rattle.ftl_page.proofs.sections.AddLemmas.{added}
use Rattle.ftl_page.proofs.sections.section.Sections.add.Goals as goal

pub returns : goal.returns
returns c = record {
  added =
      let is = ap (λ bs. content_of (words_of bs)) (sym c.as_bytes.ensures.value)
      ∙ sym c.heading_of.ensures.heading ∙ ap (option_map content) c.in-Some.is in
      added c.args.self.now c.with.result _ (content c.in-Some.heading) c.section_of-which.result c.in_ok-text.text
      c.args.number _ is c.section_of-which.ensures.section (sym c.has.ensures.found ∙ c.if-has.false) c.in_ok-text.ensures.text
      c.with.ensures.added;
}
