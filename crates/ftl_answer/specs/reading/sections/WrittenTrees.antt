-- What a document comes to that is written by calls, without a text.
use Rattle.ftl_meaning.specs.faults.Checked.{CheckedGrammar}
use Rattle.ftl_model.specs.layout.Tree.{Forest}
use Rattle.ftl_nest_check.specs.declared.stages.types.NestingSchedule.{NestingSchedule}
use Rattle.ftl_document.specs.faults.DocumentTree as document
use Rattle.ftl_document.specs.faults.FirstFault.{first_fault}
use Rattle.ftl_document.specs.syntax.Written.{WrittenNode}
use Rattle.ftl_answer.specs.answers.Answer.{refused}
use Rattle.ftl_answer.specs.answers.Stages.{Is, Stage, Then, unless}
use Rattle.ftl_answer.specs.answers.Texts.{planned_tree}
use Rattle.ftl_answer.specs.refusals.DocumentLines.{document_line}

-- the tree that it means; its first fault is told by the line for it
abbrev pub written_tree : CheckedGrammar → WrittenNode → Stage Forest
written_tree c node =
    Is (unless (λ fault. refused 7 (document_line c.grammar fault)) (first_fault c.grammar node)
    (document.tree_of c.grammar node))

-- the tree that it means, which the schedule can solve
abbrev pub built_tree : CheckedGrammar → NestingSchedule → WrittenNode → Stage Forest
built_tree c s node = Then (written_tree c node) (planned_tree c s)
