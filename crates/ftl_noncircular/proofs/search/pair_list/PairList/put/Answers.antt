use Rattle.std.proofs.Common.{arith}
use Rattle.ftl_noncircular.proofs.search.PairLaws.{pair_known}
use Rattle.ftl_noncircular.proofs.search.pair_list.PairList.put.Goals as goal

pub has-requires-clause-from : goal.has-requires-clause-from
has-requires-clause-from g c =
    omega (arith, (pair_known g.g c.args.shape.now c.args.pair c.requires.0 c.requires.1.0).from, c.requires.1.1.size)

pub has-requires-clause-to : goal.has-requires-clause-to
has-requires-clause-to g c =
    omega (arith, (pair_known g.g c.args.shape.now c.args.pair c.requires.0 c.requires.1.0).to, c.requires.1.1.size)

pub put-requires-clause-from : goal.put-requires-clause-from
put-requires-clause-from g c =
    omega (arith, (pair_known g.g c.args.shape.now c.args.pair c.requires.0 c.requires.1.0).from, c.requires.1.1.size)

pub put-requires-clause-to : goal.put-requires-clause-to
put-requires-clause-to g c =
    omega (arith, (pair_known g.g c.args.shape.now c.args.pair c.requires.0 c.requires.1.0).to, c.requires.1.1.size)
