use Rattle.std.proofs.Common.{◌≡◌, ◌∙◌, ap, arith, rules, pos}
use Rattle.ftl_model.specs.layout.Values.{narrow, number, sum_of}
use Rattle.ftl_replay.proofs.example_works.LadderLaws.{ladder_result}
use Rattle.ftl_replay.proofs.example_works.ladder.LadderWork.result.Goals as goal

pub returns-clause-value : goal.returns-clause-value
returns-clause-value c e =
    let more : c.num.result ≡ number (pos c.distance-more.result) = search rules in
    c.add.ensures.sum ∙ ap (λ b. sum_of narrow c.index-reads-0.result b) more
    ∙ ladder_result c.args.self.now.items c.args.item c.args.step c.distance-more.result c.index-reads-0.result
    c.args.reads.now (omega arith) c.requires.step c.distance-more.ensures.far c.index-reads-0.is e
