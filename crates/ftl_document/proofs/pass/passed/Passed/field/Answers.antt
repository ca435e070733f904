use Rattle.ftl_document.proofs.pass.Steps.{field_taken, on_ok}
use Rattle.ftl_document.proofs.pass.passed.Passed.field.Goals as goal

pub returns-in-Some : goal.returns-in-Some
returns-in-Some c = record {
  field = λ greatest.
      on_ok c.mark.result (c.mark.ensures.mark greatest)
      (λ e. field_taken greatest c.args.self.now c.args.text.now c.in-Some.rest.now _ c.in-Some.ensures.name e);
}
