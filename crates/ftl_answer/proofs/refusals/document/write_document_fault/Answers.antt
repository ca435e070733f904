use Rattle.std.proofs.Common.{◌≡◌, ◌++◌, ℕ, List, OnOk, codes, subst, sym}
use Rattle.ftl_document.specs.declared.faults.fault.DocFault.{DocFault}
use Rattle.ftl_answer.specs.refusals.DocumentLines.{at_field, at_node, document_line}
use Rattle.ftl_answer.proofs.refusals.document.write_document_fault.Goals as goal

pub returns-in-UnknownClass : goal.returns-in-UnknownClass
returns-in-UnknownClass c = record {
  line = subst
      (λ (f : DocFault). OnOk c.at_node.result (c.at_node.new.out.items ≡ c.args.out.now.items ++ document_line c.args.checked.now.grammar f))
      (sym c.in-UnknownClass.is)
      (subst
      (λ (n : List ℕ). OnOk c.at_node.result
      (c.at_node.new.out.items ≡ c.args.out.now.items ++ at_node c.in-UnknownClass.node (codes " unknown class " ++ n)))
      c.text.ensures.text c.at_node.ensures.line);
}

pub returns-in-WrongInterface : goal.returns-in-WrongInterface
returns-in-WrongInterface c = record {
  line = subst
      (λ (f : DocFault). OnOk c.wrong_interface.result (c.wrong_interface.new.out.items ≡ c.args.out.now.items ++ document_line c.args.checked.now.grammar f))
      (sym c.in-WrongInterface.is) c.wrong_interface.ensures.line;
}

pub returns-in-UnknownField : goal.returns-in-UnknownField
returns-in-UnknownField c = record {
  line = subst
      (λ (f : DocFault). OnOk c.at_node-in-UnknownField.result
      (c.at_node-in-UnknownField.new.out.items ≡ c.args.out.now.items ++ document_line c.args.checked.now.grammar f))
      (sym c.in-UnknownField.is)
      (subst
      (λ (n : List ℕ). OnOk c.at_node-in-UnknownField.result
      (c.at_node-in-UnknownField.new.out.items ≡ c.args.out.now.items ++ at_node c.in-UnknownField.node (codes " unknown field " ++ n)))
      c.text-in-UnknownField.ensures.text c.at_node-in-UnknownField.ensures.line);
}

pub returns-in-FieldTwice : goal.returns-in-FieldTwice
returns-in-FieldTwice c = record {
  line = subst
      (λ (f : DocFault). OnOk c.at_field.result (c.at_field.new.out.items ≡ c.args.out.now.items ++ document_line c.args.checked.now.grammar f))
      (sym c.in-FieldTwice.is)
      (subst
      (λ (n : List ℕ). OnOk c.at_field.result
      (c.at_field.new.out.items ≡ c.args.out.now.items ++ at_field c.in-FieldTwice.node n (codes " twice")))
      c.text-in-FieldTwice.ensures.text c.at_field.ensures.line);
}
