use Rattle.std.proofs.Common.{arith}
use Rattle.ftl_noncircular.proofs.search.CircleLaws.{of_class_known}
use Rattle.ftl_noncircular.proofs.search.circles.own_circle.Goals as goal

pub returns-clause-none : goal.returns-clause-none
returns-clause-none g c a h =
    c.loop-attr.invariant a
    (omega (
      arith,
      of_class_known g.g c.args.shape.now c.requires.0 c.args.class a c.requires.1.0 h.0,
      c.requires.0.attributes.owners_count,
      c.len-attr-end.ensures,
      c.loop-attr-test.false,
    )) h
