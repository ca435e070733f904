-- Each text is derived line by line.
use Rattle.ftl_document.specs.syntax.Spelling.{plain, negative}
use Rattle.ftl_edits.specs.syntax.Spelling.{edit_of, no_edits, more_edits}
use Rattle.ftl_edits.proofs.syntax.worked.worked_edits.Goals as goal

pub returns-clause-one : goal.returns-clause-one
returns-clause-one c = more_edits (edit_of plain) no_edits

pub returns-clause-two : goal.returns-clause-two
returns-clause-two c = more_edits (edit_of negative) (more_edits (edit_of negative) no_edits)

pub returns-clause-none : goal.returns-clause-none
returns-clause-none c = no_edits
