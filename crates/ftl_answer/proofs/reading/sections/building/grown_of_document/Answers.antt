use Rattle.std.proofs.Common.{ap, sym, ◌∙◌, Option}
use Rattle.ftl_answer.specs.answers.Answer.{Answer, refused}
use Rattle.ftl_answer.specs.answers.Stages.{Outcome, hands_on, unless}
use Rattle.ftl_answer.specs.refusals.DocumentLines.{document_line}
use Rattle.ftl_document.specs.declared.faults.fault.DocFault.{DocFault}
use Rattle.ftl_document.specs.declared.faults.fault.DocFault.TheVariants as faults
use Rattle.ftl_document.specs.faults.DocumentTree.{tree_of}
use Rattle.ftl_model.specs.layout.Tree.{Forest}
use Rattle.ftl_answer.specs.reading.sections.WrittenTrees.{written_tree}
use Rattle.ftl_answer.proofs.reading.sections.FaultEnds.{may_refuse}
use Rattle.ftl_answer.proofs.reading.sections.building.grown_of_document.Goals as goal
use Rattle.ftl_tree.specs.trees.CheckedTree.{CheckedTree}

pub returns-in-Ok-clause-outcome : goal.returns-in-Ok-clause-outcome
returns-in-Ok-clause-outcome c node is =
    let g = c.args.checked.now.grammar in
    let tell : DocFault → Answer = λ f. refused 7 (document_line g f) in
    let handed : Forest → Outcome Forest = λ t. hands_on t in
    ap handed (ap (λ (t : CheckedTree). t.tree) (c.in-Ok.ensures.tree node is))
    ∙ sym (ap (λ (o : Option DocFault). unless tell o (tree_of g node)) (c.in-Ok.ensures.exact node is))

pub returns-in-Ok-clause-grammar : goal.returns-in-Ok-clause-grammar
returns-in-Ok-clause-grammar c =
    ap (λ (t : CheckedTree). t.checked) (c.in-Ok.ensures.tree c.requires.written.node c.requires.written.is)

pub returns-in-Err-clause-outcome : goal.returns-in-Err-clause-outcome
returns-in-Err-clause-outcome c node is =
    let k = c.args.checked.now in
    let tell : DocFault → Answer = λ f. refused 7 (document_line k.grammar f) in
    may_refuse (written_tree k node) (λ (t : CheckedTree). t.tree) faults.OutOfMemory tell c.in-Err.fault
    c.document_refused.result c.document_refused.ensures.ends
    (λ some.
    sym (ap (λ (o : Option DocFault). unless tell o (tree_of k.grammar node)) (c.in-Err.ensures.exact node is some)))
