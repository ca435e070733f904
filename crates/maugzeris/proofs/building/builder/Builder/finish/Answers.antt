use Rattle.std.proofs.Common.{◌≡◌, true, subst, sym}
use Rattle.ftl_base.specs.Widths.{greatest_of_width}
use Rattle.ftl_building.specs.building.PartDocument.{document_so_far, is_whole}
use Rattle.ftl_answer.specs.reading.sections.WrittenTrees.{built_tree}
use Rattle.maugzeris.specs.building.PageParts.{PagePart}
use Rattle.maugzeris.specs.pages.PageState.{PageState}
use Rattle.maugzeris.specs.refusals.Answers.{Answers}
use Rattle.maugzeris.proofs.building.builder.Builder.finish.Goals as goal

pub of_document-requires-clause-within : goal.of_document-requires-clause-within
of_document-requires-clause-within c =
    let i = c.self.inside in
    let greatest = greatest_of_width i.rules.now.checked.width in
    let whole = subst (λ (p : PagePart). is_whole p.document ≡ true) (sym c.self.view_is) c.requires.whole in
    c.numbers_stay_within.ensures.rows greatest i.document c.finish.result whole c.self.invariant c.finish.ensures.rows

pub returns-clause-outcome : goal.returns-clause-outcome
returns-clause-outcome c =
    let i = c.self.inside in
    subst
    (λ (p : PagePart).
    Answers (built_tree p.rules.checked p.rules.schedule (document_so_far p.document)) (λ (x : PageState). x.tree)
    c.of_document-2.result)
    c.self.view_is (c.of_document-2.ensures.outcome (document_so_far i.document) c.finish.ensures.rows)
