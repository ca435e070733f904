-- The lines compute, digits included.
use Rattle.std.proofs.Common.{refl}
use Rattle.std.specs.Fmt.{digits}
use Rattle.ftl_answer.proofs.worked_lines.laws.lines_of_documents.Goals as goal

pub returns-clause-class : goal.returns-clause-class
unfolding digits
returns-clause-class c = refl

pub returns-clause-interface : goal.returns-clause-interface
unfolding digits
returns-clause-interface c = refl

pub returns-clause-twice : goal.returns-clause-twice
unfolding digits
returns-clause-twice c = refl

pub returns-clause-missing : goal.returns-clause-missing
unfolding digits
returns-clause-missing c = refl

pub returns-clause-field : goal.returns-clause-field
unfolding digits
returns-clause-field c = refl

pub returns-clause-form : goal.returns-clause-form
unfolding digits
returns-clause-form c = refl

pub returns-clause-order : goal.returns-clause-order
unfolding digits
returns-clause-order c = refl

pub returns-clause-syntax : goal.returns-clause-syntax
unfolding digits
returns-clause-syntax c = refl

pub returns-clause-deep : goal.returns-clause-deep
unfolding digits
returns-clause-deep c = refl

pub returns-clause-nodes : goal.returns-clause-nodes
unfolding digits
returns-clause-nodes c = refl

pub returns-clause-instances : goal.returns-clause-instances
unfolding digits
returns-clause-instances c = refl

pub returns-clause-stage_reads : goal.returns-clause-stage_reads
unfolding digits
returns-clause-stage_reads c = refl

pub returns-clause-step_reads : goal.returns-clause-step_reads
unfolding digits
returns-clause-step_reads c = refl
