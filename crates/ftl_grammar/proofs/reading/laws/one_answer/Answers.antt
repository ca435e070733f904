use Rattle.ftl_grammar.proofs.reading.AnswerLemmas.{some_answer, any_two_answers}
use Rattle.ftl_grammar.proofs.reading.laws.one_answer.Goals as goal

pub returns-clause-some : goal.returns-clause-some
returns-clause-some c = some_answer

pub returns-clause-any_two : goal.returns-clause-any_two
returns-clause-any_two c = any_two_answers
