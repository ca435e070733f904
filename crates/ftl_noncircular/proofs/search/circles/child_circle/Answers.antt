use Rattle.std.proofs.Common.{arith}
use Rattle.ftl_noncircular.proofs.search.circles.child_circle.Goals as goal

pub returns-clause-none : goal.returns-clause-none
returns-clause-none g c a h =
    let shape = c.requires.0 in
    c.loop-attr.invariant a
    (omega (
      arith,
      shape.attributes.shared_known (g.g.child_interface c.args.class c.args.child) a
          (shape.classes.children_known c.args.class c.args.child c.requires.1.0 c.requires.1.1.0) h.0,
      shape.attributes.owners_count,
      c.len-attr-end.ensures,
      c.loop-attr-test.false,
    )) h
