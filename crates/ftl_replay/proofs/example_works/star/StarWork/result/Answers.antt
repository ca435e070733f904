use Rattle.std.proofs.Common.{rules, ◌≡◌, ◌<◌, ◌∙◌, ap, max, pos, arith}
use Rattle.ftl_model.specs.layout.Values.{narrow, number, sum_of}
use Rattle.ftl_replay.proofs.example_works.StarLaws.{star_below, star_result, small_number}
use Rattle.ftl_replay.proofs.example_works.star.StarWork.result.Goals as goal

pub returns-clause-value : goal.returns-clause-value
returns-clause-value c e =
    let few : c.args.item < 8 = star_below c.args.item c.args._step c.requires.step in
    let small = small_number (max c.args.item 1) (omega arith) in
    let is : c.num.result ≡ number (pos (max c.args.item 1)) = search rules in
    c.add.ensures.sum ∙ ap (λ b. sum_of narrow c.index-reads-0.result b) is
    ∙ star_result c.args.item c.args._step c.index-reads-0.result c.args.reads.now c.requires.step
    c.index-reads-0.is e
