use Rattle.std.proofs.Common.{◌≡◌, ◌++◌, ℕ, List, OnOk, codes, subst}
use Rattle.ftl_meaning.specs.faults.Numbering.{class_at}
use Rattle.ftl_answer.specs.refusals.DocumentLines.{at_node}
use Rattle.ftl_answer.proofs.refusals.document.wrong_interface.Goals as goal

pub returns : goal.returns
returns c = record {
  line = subst
      (λ (n : List ℕ). OnOk c.number_and_names.result
      (c.number_and_names.new.out.items ≡ c.args.out.now.items
      ++ at_node c.args.node (codes " class " ++ ((class_at c.args.checked.now.grammar c.args.class).name ++ (codes " is not of " ++ n)))))
      c.interface_name.ensures.name
      (subst
      (λ (n : List ℕ). OnOk c.number_and_names.result
      (c.number_and_names.new.out.items ≡ c.args.out.now.items
      ++ at_node c.args.node (codes " class " ++ (n ++ (codes " is not of " ++ c.interface_name.result.now)))))
      c.class_name.ensures.name c.number_and_names.ensures.added);
}
