use Rattle.std.proofs.Common.{◌∙◌, arith, get_or, ap, false, List}
use Rattle.std.proofs.lemmas.Bool.{both_ways}
use Rattle.lane_rows.specs.Matrix.{entry}
use Rattle.ftl_noncircular.specs.declared.search.shape.Kid.{Kid}
use Rattle.ftl_noncircular.specs.grammars.Noncircular.{of_child}
use Rattle.ftl_noncircular.specs.search.Closing.{on_diagonal}
use Rattle.ftl_noncircular.proofs.search.CircleLaws.{child_of_owner, circle_by}
use Rattle.ftl_noncircular.proofs.search.NumberLaws.{number_low}
use Rattle.ftl_noncircular.proofs.search.circles.is_child_circle.Goals as goal

pub returns-then-not-is_owner : goal.returns-then-not-is_owner
returns-then-not-is_owner g c =
    let same = ap (λ (xs : List Kid). (get_or xs c.args.child (record { interface = 0; many = false })).interface)
    c.kids_of.ensures.kids
    ∙ c.requires.0.classes.child_interface c.args.class c.args.child c.requires.1.0 c.requires.1.1.0 in
    let both =
    child_of_owner g.g c.args.shape.now c.requires.0 c.args.class c.args.child c.args.attr c.requires.1.0
    c.requires.1.1.0
    c.requires.1.1.1.0 _ same in
    record {
      circle = (
        (λ e. absurd (let z : ⊥ = cc in z)),
        (λ h. absurd (both_ways c.is_owner.result c.if-not-is_owner.true (c.is_owner.ensures.owner.1 (both.1 h.0)))),
      );
    }

pub child_vertex-vertex-requires-clause-place : goal.child_vertex-vertex-requires-clause-place
child_vertex-vertex-requires-clause-place g c =
    let same = ap (λ (xs : List Kid). (get_or xs c.args.child (record { interface = 0; many = false })).interface)
    c.kids_of.ensures.kids
    ∙ c.requires.0.classes.child_interface c.args.class c.args.child c.requires.1.0 c.requires.1.1.0 in
    let both =
    child_of_owner g.g c.args.shape.now c.requires.0 c.args.class c.args.child c.args.attr c.requires.1.0
    c.requires.1.1.0
    c.requires.1.1.1.0 _ same in
    c.requires.0.attributes.places.child_low (g.g.child_interface c.args.class c.args.child) c.args.attr
    (c.requires.0.classes.children_known c.args.class c.args.child c.requires.1.0 c.requires.1.1.0)
    (both.0 (c.is_owner.ensures.owner.0 c.if-not-is_owner.false))

pub has-requires-clause-from : goal.has-requires-clause-from
has-requires-clause-from g c =
    let same = ap (λ (xs : List Kid). (get_or xs c.args.child (record { interface = 0; many = false })).interface)
    c.kids_of.ensures.kids
    ∙ c.requires.0.classes.child_interface c.args.class c.args.child c.requires.1.0 c.requires.1.1.0 in
    let both =
    child_of_owner g.g c.args.shape.now c.requires.0 c.args.class c.args.child c.args.attr c.requires.1.0
    c.requires.1.1.0
    c.requires.1.1.1.0 _ same in
    omega (
      arith,
      c.child_vertex-vertex.ensures.number,
      number_low g.g c.args.shape.now.places c.requires.0.attributes.places c.args.class c.requires.1.0
          (λ d under. c.requires.0.classes.children_known c.args.class d c.requires.1.0 under)
          (of_child c.args.child c.args.attr)
          (c.requires.1.1.0, both.0 (c.is_owner.ensures.owner.0 c.if-not-is_owner.false)),
      c.requires.1.1.1.1.1,
    )

pub has-requires-clause-to : goal.has-requires-clause-to
has-requires-clause-to g c =
    let same = ap (λ (xs : List Kid). (get_or xs c.args.child (record { interface = 0; many = false })).interface)
    c.kids_of.ensures.kids
    ∙ c.requires.0.classes.child_interface c.args.class c.args.child c.requires.1.0 c.requires.1.1.0 in
    let both =
    child_of_owner g.g c.args.shape.now c.requires.0 c.args.class c.args.child c.args.attr c.requires.1.0
    c.requires.1.1.0
    c.requires.1.1.1.0 _ same in
    omega (
      arith,
      c.child_vertex-vertex.ensures.number,
      number_low g.g c.args.shape.now.places c.requires.0.attributes.places c.args.class c.requires.1.0
          (λ d under. c.requires.0.classes.children_known c.args.class d c.requires.1.0 under)
          (of_child c.args.child c.args.attr)
          (c.requires.1.1.0, both.0 (c.is_owner.ensures.owner.0 c.if-not-is_owner.false)),
      c.requires.1.1.1.1.1,
    )

pub has-requires-2-clause-from : goal.has-requires-2-clause-from
has-requires-2-clause-from g c =
    let same = ap (λ (xs : List Kid). (get_or xs c.args.child (record { interface = 0; many = false })).interface)
    c.kids_of.ensures.kids
    ∙ c.requires.0.classes.child_interface c.args.class c.args.child c.requires.1.0 c.requires.1.1.0 in
    let both =
    child_of_owner g.g c.args.shape.now c.requires.0 c.args.class c.args.child c.args.attr c.requires.1.0
    c.requires.1.1.0
    c.requires.1.1.1.0 _ same in
    omega (
      arith,
      c.child_vertex-vertex.ensures.number,
      number_low g.g c.args.shape.now.places c.requires.0.attributes.places c.args.class c.requires.1.0
          (λ d under. c.requires.0.classes.children_known c.args.class d c.requires.1.0 under)
          (of_child c.args.child c.args.attr)
          (c.requires.1.1.0, both.0 (c.is_owner.ensures.owner.0 c.if-not-is_owner.false)),
      c.requires.1.1.1.1.0,
    )

pub has-requires-2-clause-to : goal.has-requires-2-clause-to
has-requires-2-clause-to g c =
    let same = ap (λ (xs : List Kid). (get_or xs c.args.child (record { interface = 0; many = false })).interface)
    c.kids_of.ensures.kids
    ∙ c.requires.0.classes.child_interface c.args.class c.args.child c.requires.1.0 c.requires.1.1.0 in
    let both =
    child_of_owner g.g c.args.shape.now c.requires.0 c.args.class c.args.child c.args.attr c.requires.1.0
    c.requires.1.1.0
    c.requires.1.1.1.0 _ same in
    omega (
      arith,
      c.child_vertex-vertex.ensures.number,
      number_low g.g c.args.shape.now.places c.requires.0.attributes.places c.args.class c.requires.1.0
          (λ d under. c.requires.0.classes.children_known c.args.class d c.requires.1.0 under)
          (of_child c.args.child c.args.attr)
          (c.requires.1.1.0, both.0 (c.is_owner.ensures.owner.0 c.if-not-is_owner.false)),
      c.requires.1.1.1.1.0,
    )

pub returns : goal.returns
returns g c =
    let none : Kid = record { interface = 0; many = false } in
    let same = ap (λ (xs : List Kid). (get_or xs c.args.child none).interface) c.kids_of.ensures.kids
    ∙ c.requires.0.classes.child_interface c.args.class c.args.child c.requires.1.0 c.requires.1.1.0 in
    let many = ap (λ (xs : List Kid). (get_or xs c.args.child none).many) c.kids_of.ensures.kids
    ∙ c.requires.0.classes.many c.args.class c.args.child c.requires.1.0 c.requires.1.1.0 in
    let both =
    child_of_owner g.g c.args.shape.now c.requires.0 c.args.class c.args.child c.args.attr c.requires.1.0
    c.requires.1.1.0
    c.requires.1.1.1.0 _ same in
    let v = of_child c.args.child c.args.attr in
    let places = c.args.shape.now.places in
    record {
      circle =
          circle_by (get_or c.kids_of.result.now c.args.child none).many (g.g.is_list c.args.class c.args.child)
          c.has.result
          c.has-2.result (on_diagonal places c.args.without.now v) (on_diagonal places c.args.all.now v)
          (both.0 (c.is_owner.ensures.owner.0 c.if-not-is_owner.false)) many
          (c.has.ensures.member ∙ ap (λ n. entry c.args.without.now n n) c.child_vertex-vertex.ensures.number)
          (c.has-2.ensures.member ∙ ap (λ n. entry c.args.all.now n n) c.child_vertex-vertex.ensures.number);
    }
