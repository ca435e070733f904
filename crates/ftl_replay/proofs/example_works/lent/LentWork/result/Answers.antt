use Rattle.std.proofs.Common.{◌∙◌}
use Rattle.ftl_replay.proofs.example_works.LentLaws.{lent_result}
use Rattle.ftl_replay.proofs.example_works.lent.LentWork.result.Goals as goal

pub returns-clause-value : goal.returns-clause-value
returns-clause-value c e = c.value_of_byte.ensures.value ∙ lent_result c.args.self.now.numbers.now c.args.item c.args._step
    c.requires.step
