use Rattle.ftl_edits.proofs.reading.AnswerLemmas.{any_two_answers, some_answer}
use Rattle.ftl_edits.proofs.reading.laws.one_edit_list.Goals as goal

pub returns-clause-some : goal.returns-clause-some
returns-clause-some c = some_answer

pub returns-clause-any_two : goal.returns-clause-any_two
returns-clause-any_two c = any_two_answers
