use Rattle.std.proofs.Common.{arith}
use Rattle.ftl_noncircular.proofs.search.circles.is_own_circle.Goals as goal

pub has-requires-clause-from : goal.has-requires-clause-from
has-requires-clause-from g c =
    let of_class = c.is_of_class.ensures.of_class.0 c.if-not-is_of_class.false in
    omega (
      arith,
      c.self_vertex-vertex.ensures.number,
      c.requires.0.attributes.places.self_low c.args.class c.args.attr c.requires.1.0 of_class,
      c.requires.1.1.1,
    )

pub has-requires-clause-to : goal.has-requires-clause-to
has-requires-clause-to g c =
    let of_class = c.is_of_class.ensures.of_class.0 c.if-not-is_of_class.false in
    omega (
      arith,
      c.self_vertex-vertex.ensures.number,
      c.requires.0.attributes.places.self_low c.args.class c.args.attr c.requires.1.0 of_class,
      c.requires.1.1.1,
    )
