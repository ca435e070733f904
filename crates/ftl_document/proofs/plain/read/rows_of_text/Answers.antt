use Rattle.std.proofs.Common.{◌≡◌, ◌+◌, ◌≤◌, count_by, Ok, Option, Some, None, sym, ap, ◌∙◌, subst}
use Rattle.std.specs.Option.{IfSome}
use Rattle.ftl_model.specs.layout.Limits.{most_nodes}
use Rattle.ftl_document.specs.plain.Plain.{plain_tokens}
use Rattle.ftl_document.specs.plain.Read.{IsReadFrom, is_node}
use Rattle.ftl_document.specs.syntax.RowReading.{document}
use Rattle.ftl_document.specs.syntax.Rows.{DocumentRows}
use Rattle.ftl_document.proofs.plain.TextDocuments.{text_document}
use Rattle.ftl_document.proofs.plain.read.rows_of_text.Goals as goal

-- what holds of each that has the property holds where there is one
if_some : {P Q : DocumentRows → Type 0} (o : Option DocumentRows) → ((d : DocumentRows) → P d → Q d) → IfSome o P → IfSome o Q
if_some None each is = is
if_some (Some d) each is = each d is

pub returns-in-Ok : goal.returns-in-Ok
returns-in-Ok c = record {
  read =
      let text = c.args.text.now in
      let read = c.in-Ok.document in
      let left = c.document.new.input in
      let e : document (plain_tokens c.args.greatest text) ≡ Ok (read, left) =
      sym (ap document (c.text-input.ensures.tokens ∙ c.new.ensures.tokens)) ∙ c.in-Ok.ensures.reads in
      if_some {P = λ d. (d ≡ read) × (count_by is_node d.rows + 1 ≤ most_nodes)} {Q = IsReadFrom c.args.greatest text}
      c.if_few.result
      (λ d is.
      text_document c.args.greatest text d left c.requires.short
      (subst (λ (x : DocumentRows). document (plain_tokens c.args.greatest text) ≡ Ok (x, left)) (sym is.0) e) is.1)
      c.if_few.ensures.few;
}
