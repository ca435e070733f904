use Rattle.std.proofs.Common.{◌∙◌, ap}
use Rattle.ftl_model.specs.layout.Values.{narrow, sum_of}
use Rattle.ftl_replay.proofs.example_works.EightLaws.{eight_result}
use Rattle.ftl_replay.proofs.example_works.eight.EightAloneWork.result.Goals as goal

pub returns-clause-value : goal.returns-clause-value
returns-clause-value c e =
    c.add.ensures.sum ∙ ap (λ b. sum_of narrow c.index-reads-0.result b) c.num.ensures.value
    ∙ eight_result c.args._item c.args._step c.index-reads-0.result c.args.reads.now c.requires.step
    c.index-reads-0.is e
