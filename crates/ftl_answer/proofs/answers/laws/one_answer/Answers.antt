use Rattle.ftl_answer.proofs.answers.Commands.{has_one_answer}
use Rattle.ftl_answer.proofs.answers.laws.one_answer.Goals as goal

pub returns : goal.returns
returns c = record {
  one =
      has_one_answer c.circles_are_decided.ensures.decided c.one_list_where_noncircular.ensures.one_list
      c.nest_examples_by_size.ensures.by_size c.first_nest_pairs.ensures.pairs;
}
