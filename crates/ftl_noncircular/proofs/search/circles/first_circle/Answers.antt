use Rattle.std.proofs.Common.{arith, ap, length}
use Rattle.ftl_noncircular.proofs.search.CircleLaws.{child_first, none_in, own_first}
use Rattle.ftl_noncircular.proofs.search.circles.first_circle.Goals as goal

pub returns-in-Some-clause-some : goal.returns-in-Some-clause-some
returns-in-Some-clause-some g c =
    own_first g.g c.args.shape.now c.requires.0 c.args.class c.requires.1.0 c.args.all.now c.args.without.now
    c.requires.1.1.1.0 c.requires.1.1.1.1.1 c.in-Some.attr c.in-Some.ensures.some

pub returns-in-Some-child_circle-clause-some : goal.returns-in-Some-child_circle-clause-some
returns-in-Some-child_circle-clause-some g c =
    let shape = c.requires.0 in
    child_first g.g c.args.shape.now shape c.args.class c.requires.1.0 c.args.all.now c.args.without.now
    c.requires.1.1.1.0 c.requires.1.1.1.1.1 c.in_default.ensures.none c.loop-child.child c.in-Some-child_circle.attr
    (omega (
      arith,
      c.loop-child-test.true,
      ap length c.kids_of-child-end.ensures.kids,
      shape.classes.child_count c.args.class c.requires.1.0,
    )) c.loop-child.invariant c.in-Some-child_circle.ensures.some

pub returns-clause-none : goal.returns-clause-none
returns-clause-none g c =
    let shape = c.requires.0 in
    none_in g.g c.args.shape.now shape c.args.class c.requires.1.0 c.args.all.now c.args.without.now
    c.requires.1.1.1.0 c.requires.1.1.1.1.1 c.in_default.ensures.none
    (λ d under. c.loop-child.invariant d
    (omega (
      arith,
      under,
      c.loop-child-test.false,
      ap length c.kids_of-child-end.ensures.kids,
      shape.classes.child_count c.args.class c.requires.1.0,
    )))
