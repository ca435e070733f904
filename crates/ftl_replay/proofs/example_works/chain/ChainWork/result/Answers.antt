use Rattle.std.proofs.Common.{◌∙◌, ap, arith}
use Rattle.ftl_model.specs.layout.Values.{narrow, sum_of}
use Rattle.ftl_replay.proofs.example_works.ChainLaws.{chain_result}
use Rattle.ftl_replay.proofs.example_works.chain.ChainWork.result.Goals as goal

pub returns-clause-value : goal.returns-clause-value
returns-clause-value c e =
    c.add.ensures.sum ∙ ap (λ b. sum_of narrow c.index-reads-0.result b) c.num.ensures.value
    ∙ chain_result c.args.self.now.items c.args._item c.args._step c.index-reads-0.result c.args.reads.now
    (omega arith) c.requires.step c.index-reads-0.is e
