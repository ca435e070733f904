use Rattle.std.proofs.Common.{◌≡◌, ℕ, string_bytes, ◌∙◌, ap, subst}
use Rattle.ftl_base.specs.Widths.{greatest_of_width}
use Rattle.ftl_base.specs.declared.width.Width.{Width}
use Rattle.ftl_model.specs.layout.Tree.{Forest}
use Rattle.ftl_tokens.specs.scanner.Tokenized.{Tokenized}
use Rattle.ftl_page.specs.declared.sections.fault.Section.TheVariants as section
use Rattle.ftl_answer.specs.answers.Stages.{Is, Stage, Then, hands_on}
use Rattle.ftl_answer.specs.answers.Texts.{spelled_tree, tokens, wide}
use Rattle.ftl_answer.specs.reading.sections.Outcomes.{IsOutcome}
use Rattle.ftl_answer.proofs.reading.sections.Ways.{then_second}
use Rattle.ftl_answer.proofs.reading.sections.growing.scanned_tree_of.Goals as goal

pub returns-in-Ok-clause-outcome : goal.returns-in-Ok-clause-outcome
returns-in-Ok-clause-outcome c =
    let k = c.args.checked.now in
    let y = c.in-Ok.scanned.tokenized in
    let after : ℕ → Tokenized → Stage Forest =
    λ greatest scanned. Then (spelled_tree k (wide greatest scanned)) (λ t. Is (hands_on t.tree)) in
    let width : greatest_of_width c.width.result ≡ greatest_of_width k.width =
    ap (λ (w : Width). greatest_of_width w) c.width.ensures.width in
    let text = string_bytes c.args.text in
    let first : tokens section.Document (greatest_of_width k.width) text (hands_on y) =
    subst (λ n. tokens section.Document n text (hands_on y)) width c.in-Ok.ensures.outcome in
    then_second (tokens section.Document (greatest_of_width k.width) text) (after (greatest_of_width k.width))
    (λ t. t.tree) y c.tree_of_tokens.result first
    (subst (λ n. IsOutcome (after n y) (λ t. t.tree) c.tree_of_tokens.result) (c.in-Ok.ensures.greatest ∙ width)
    c.tree_of_tokens.ensures.outcome)
