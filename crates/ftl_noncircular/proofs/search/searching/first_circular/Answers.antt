use Rattle.std.proofs.Common.{◌<◌, arith, subst, Option, IfNone, IfSome}
use Rattle.ftl_noncircular.specs.declared.search.shape.Vertex.{Vertex}
use Rattle.ftl_noncircular.specs.search.Circles.{vertex_at}
use Rattle.ftl_noncircular.specs.search.Closing.{HasNone, IsFirstIn}
use Rattle.ftl_noncircular.proofs.search.CircleLaws.{first_of_all, none_more}
use Rattle.ftl_noncircular.proofs.search.searching.first_circular.Goals as goal

pub returns-in-Some : goal.returns-in-Some
returns-in-Some g c =
    let known : c.loop-class.class < g.g.class_count =
    omega (arith, c.loop-class-test.true, c.len-class-end.ensures, c.requires.1.1.classes.kids_count) in
    record {
      circle =
          first_of_all g.g c.loop-class.class (vertex_at c.in-Some.vertex.child c.in-Some.vertex.attr) known
          c.loop-class.invariant
          (subst
          (λ (o : Option Vertex). IfSome o (λ v. IsFirstIn g.g c.loop-class.class (vertex_at v.child v.attr)))
          c.in-Some.is
          c.in_ok-vertex.ensures.some);
    }

pub loop-class-preserved : goal.loop-class-preserved
loop-class-preserved g c =
    none_more g.g c.loop-class.class c.loop-class.invariant
    (subst (λ (o : Option Vertex). IfNone o (HasNone g.g c.loop-class.class)) c.in_default.is
    c.in_ok-vertex.ensures.none)
