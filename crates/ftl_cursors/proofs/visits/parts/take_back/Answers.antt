use Rattle.std.proofs.Common.{◌≤◌, arith}
use Rattle.ftl_cursors.proofs.visits.PartLemmas.{back_and_rest}
use Rattle.ftl_cursors.proofs.visits.parts.take_back.Goals as goal

pub returns : goal.returns
returns c =
    let all = c.args.nodes.now in
    let part = c.min-count.result in
    let least = c.min-count.ensures in
    let some = c.requires.some in
    let less : part ≤ all.count = omega (arith, least, some) in
    record {
      part = record {
        is = back_and_rest all.first all.count part less;
        some = omega (arith, least, some);
        block = λ n low high. omega (arith, low, high, least, some, less);
        within = omega (arith, least, some, less);
        rest_within = omega (arith, least, some, less);
        less = omega (arith, least, some, less);
      };
    }
