use Rattle.std.proofs.Common.{arith, subst, Option, ℕ}
use Rattle.ftl_noncircular.specs.grammars.Noncircular.{IsVertex, of_child, of_self}
use Rattle.ftl_noncircular.specs.search.Circles.{vertex_at}
use Rattle.ftl_noncircular.proofs.search.CircleLaws.{of_class_known}
use Rattle.ftl_noncircular.proofs.search.NumberLaws.{number_low}
use Rattle.ftl_noncircular.proofs.search.shape.Shape.number.Goals as goal

pub self_vertex-requires : goal.self_vertex-requires
self_vertex-requires g c =
    let is_v = subst (λ (o : Option ℕ). IsVertex g.g c.args.class (vertex_at o c.args.vertex.attr)) c.in-None.is
    c.requires.1.1 in
    record {
      attr =
          omega (
            arith,
            of_class_known g.g c.args.self.now c.requires.0 c.args.class c.args.vertex.attr c.requires.1.0 is_v,
            c.requires.0.attributes.places_count,
          );
    }

pub child_vertex-requires-clause-attr : goal.child_vertex-requires-clause-attr
child_vertex-requires-clause-attr g c =
    let is_v = subst (λ (o : Option ℕ). IsVertex g.g c.args.class (vertex_at o c.args.vertex.attr)) c.in-Some.is
    c.requires.1.1 in
    omega (
      arith,
      c.requires.0.attributes.shared_known (g.g.child_interface c.args.class c.in-Some.child) c.args.vertex.attr
          (c.requires.0.classes.children_known c.args.class c.in-Some.child c.requires.1.0 is_v.0) is_v.1,
      c.requires.0.attributes.places_count,
    )

pub child_vertex-requires-clause-place : goal.child_vertex-requires-clause-place
child_vertex-requires-clause-place g c =
    let is_v = subst (λ (o : Option ℕ). IsVertex g.g c.args.class (vertex_at o c.args.vertex.attr)) c.in-Some.is
    c.requires.1.1 in
    c.requires.0.attributes.places.child_low (g.g.child_interface c.args.class c.in-Some.child) c.args.vertex.attr
    (c.requires.0.classes.children_known c.args.class c.in-Some.child c.requires.1.0 is_v.0) is_v.1

pub returns-in-None-clause-low : goal.returns-in-None-clause-low
returns-in-None-clause-low g c =
    let is_v = subst (λ (o : Option ℕ). IsVertex g.g c.args.class (vertex_at o c.args.vertex.attr)) c.in-None.is
    c.requires.1.1 in
    omega (
      arith,
      c.self_vertex.ensures.number,
      number_low g.g c.args.self.now.places c.requires.0.attributes.places c.args.class c.requires.1.0
          (λ d under. c.requires.0.classes.children_known c.args.class d c.requires.1.0 under)
          (of_self c.args.vertex.attr) is_v,
    )

pub returns-in-Some-clause-low : goal.returns-in-Some-clause-low
returns-in-Some-clause-low g c =
    let is_v = subst (λ (o : Option ℕ). IsVertex g.g c.args.class (vertex_at o c.args.vertex.attr)) c.in-Some.is
    c.requires.1.1 in
    omega (
      arith,
      c.child_vertex.ensures.number,
      number_low g.g c.args.self.now.places c.requires.0.attributes.places c.args.class c.requires.1.0
          (λ d under. c.requires.0.classes.children_known c.args.class d c.requires.1.0 under)
          (of_child c.in-Some.child c.args.vertex.attr) is_v,
    )
