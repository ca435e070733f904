use Rattle.maugzeris.specs.pages.PageState.{PageState}
use Rattle.maugzeris.specs.rules.RuleTexts.{document_text}
use Rattle.maugzeris_c.proofs.context.Reading.{text_then}
use Rattle.maugzeris_c.proofs.context.opening.page_of.Goals as goal

pub returns-in-Ok-clause-outcome : goal.returns-in-Ok-clause-outcome
returns-in-Ok-clause-outcome c =
    text_then c.args.bytes.now c.in-Ok.text.now (document_text c.args.rules.now.checked c.args.rules.now.schedule)
    (λ (p : PageState). p.tree) c.new.result c.in-Ok.ensures.outcome c.new.ensures.outcome
