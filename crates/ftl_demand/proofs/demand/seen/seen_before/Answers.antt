use Rattle.std.proofs.Common.{◌<◌, ◌-◌, arith}
use Rattle.ftl_model.specs.layout.AttributeGrammar.{kid}
use Rattle.ftl_step_value.proofs.cells.KidCells.{before_in}
use Rattle.ftl_demand.proofs.demand.seen.seen_before.Goals as goal

pub kid_seen-requires-clause-there : goal.kid_seen-requires-clause-there
kid_seen-requires-clause-there c =
    let n = c.args.number in
    let some : 0 < n = omega arith in
    c.requires.there (kid c.args.child (n - 1) c.args.attr) (before_in c.args.child c.args.attr n some)
