use Rattle.std.proofs.Common.{false, arith, get_or, sym, ap, subst, ◌∙◌, List}
use Rattle.ftl_noncircular.specs.declared.search.shape.Kid.{Kid}
use Rattle.ftl_noncircular.specs.grammars.Noncircular.{of_child}
use Rattle.ftl_noncircular.specs.search.Numbers.{number}
use Rattle.ftl_noncircular.proofs.search.PairLaws.{OneEntryMore, pair_known}
use Rattle.ftl_noncircular.proofs.search.PutLaws.{from_low, put_reads, to_low}
use Rattle.ftl_noncircular.proofs.search.pair_edges.add_edge.Goals as goal

pub child_vertex-from-requires-clause-attr : goal.child_vertex-from-requires-clause-attr
child_vertex-from-requires-clause-attr g c =
    omega (
      arith,
      (pair_known g.g c.args.shape.now c.args.pair c.requires.0 c.requires.1.1.1.0).from,
      c.requires.0.attributes.places_count,
    )

pub child_vertex-to-requires-clause-attr : goal.child_vertex-to-requires-clause-attr
child_vertex-to-requires-clause-attr g c =
    omega (
      arith,
      (pair_known g.g c.args.shape.now c.args.pair c.requires.0 c.requires.1.1.1.0).to,
      c.requires.0.attributes.places_count,
    )

pub child_vertex-from-requires-clause-place : goal.child_vertex-from-requires-clause-place
child_vertex-from-requires-clause-place g c =
    let pair = c.requires.1.1.1.0 in
    c.requires.0.attributes.places.child_low c.args.pair.interface c.args.pair.from pair.known pair.from

pub child_vertex-to-requires-clause-place : goal.child_vertex-to-requires-clause-place
child_vertex-to-requires-clause-place g c =
    let pair = c.requires.1.1.1.0 in
    c.requires.0.attributes.places.child_low c.args.pair.interface c.args.pair.to pair.known pair.to

pub put-requires-clause-from : goal.put-requires-clause-from
put-requires-clause-from g c =
    let s = c.args.shape.now in
    let shape = c.requires.0 in
    let of_kid = sym (shape.classes.child_interface c.args.class c.args.child c.requires.1.0 c.requires.1.1.0)
    ∙ ap (λ (xs : List Kid). (get_or xs c.args.child (record { interface = 0; many = false })).interface)
    (sym c.kids_of.ensures.kids)
    ∙ c.if-kids_of-child.false in
    omega (
      arith,
      c.child_vertex-from.ensures.number,
      from_low g.g s c.args.class c.args.child c.args.pair shape c.requires.1.0 c.requires.1.1.0 c.requires.1.1.1.0
          of_kid,
      c.requires.1.1.1.1,
    )

pub put-requires-clause-to : goal.put-requires-clause-to
put-requires-clause-to g c =
    let s = c.args.shape.now in
    let shape = c.requires.0 in
    let of_kid = sym (shape.classes.child_interface c.args.class c.args.child c.requires.1.0 c.requires.1.1.0)
    ∙ ap (λ (xs : List Kid). (get_or xs c.args.child (record { interface = 0; many = false })).interface)
    (sym c.kids_of.ensures.kids)
    ∙ c.if-kids_of-child.false in
    omega (
      arith,
      c.child_vertex-to.ensures.number,
      to_low g.g s c.args.class c.args.child c.args.pair shape c.requires.1.0 c.requires.1.1.0 c.requires.1.1.1.0
          of_kid,
      c.requires.1.1.1.1,
    )

pub returns-clause-reads : goal.returns-clause-reads
returns-clause-reads g c =
    let s = c.args.shape.now in
    let shape = c.requires.0 in
    let of_kid = sym (shape.classes.child_interface c.args.class c.args.child c.requires.1.0 c.requires.1.1.0)
    ∙ ap (λ (xs : List Kid). (get_or xs c.args.child (record { interface = 0; many = false })).interface)
    (sym c.kids_of.ensures.kids)
    ∙ c.if-kids_of-child.false in
    let before = c.args.edges.now in
    let now = c.put.new.self in
    λ prevs has.
    put_reads g.g s c.args.class c.args.child c.args.pair shape c.requires.1.0 c.requires.1.1.0 c.requires.1.1.1.0
    of_kid prevs
    before now has c.put.ensures.size
    (subst (λ x. OneEntryMore before now x (number s.places (of_child c.args.child c.args.pair.to)))
    c.child_vertex-from.ensures.number
    (subst (λ y. OneEntryMore before now c.child_vertex-from.result y) c.child_vertex-to.ensures.number
    c.put.ensures.added))
