use Rattle.std.proofs.Common.{arith, ◌<◌, length, get_or, ap, subst, ◌∙◌, List, ℕ}
use Rattle.ftl_noncircular.specs.walks.WalkTables.{IsFrom}
use Rattle.ftl_noncircular.specs.search.Shapes.{inherited_of, synthesized_of}
use Rattle.ftl_noncircular.proofs.search.NoteLaws.{shown_pair, target_known, target_low}
use Rattle.ftl_noncircular.proofs.search.PairLaws.{pair_by}
use Rattle.ftl_noncircular.proofs.search.notes.note_from.Goals as goal

pub self_vertex-requires : goal.self_vertex-requires
self_vertex-requires g c =
    let s = c.args.shape.now in
    let shape = c.requires.0 in
    let interface = c.interface_of-interface.ensures.interface ∙ shape.classes.interfaces c.args.class c.requires.1.0 in
    let are = c.synthesized_of-targets.ensures.attributes ∙ ap (synthesized_of s) interface in
    let within = subst (λ (xs : List ℕ). c.loop-place.place < length xs) are c.loop-place-test.true in
    record {
      attr =
          omega (
            arith,
            ap (λ (xs : List ℕ). get_or xs c.loop-place.place 0) are,
            target_known g.g s c.args.class c.args.walks.now shape c.requires.1.0 c.requires.1.1.0 c.loop-place.place
                within,
            shape.attributes.places_count,
          );
    }

pub leads-requires-clause-to : goal.leads-requires-clause-to
leads-requires-clause-to g c =
    let s = c.args.shape.now in
    let shape = c.requires.0 in
    let interface = c.interface_of-interface.ensures.interface ∙ shape.classes.interfaces c.args.class c.requires.1.0 in
    let are = c.synthesized_of-targets.ensures.attributes ∙ ap (synthesized_of s) interface in
    let within = subst (λ (xs : List ℕ). c.loop-place.place < length xs) are c.loop-place-test.true in
    omega (
      arith,
      c.self_vertex.ensures.number,
      ap (λ (xs : List ℕ). get_or s.places (get_or xs c.loop-place.place 0) 0) are,
      target_low g.g s c.args.class c.args.walks.now shape c.requires.1.0 c.requires.1.1.0 c.loop-place.place within,
    )

pub put-requires : goal.put-requires
put-requires g c =
    let s = c.args.shape.now in
    let shape = c.requires.0 in
    let w = c.args.walks.now in
    let m = c.loop-place.place in
    let interface = c.interface_of-interface.ensures.interface ∙ shape.classes.interfaces c.args.class c.requires.1.0 in
    let are = c.synthesized_of-targets.ensures.attributes ∙ ap (synthesized_of s) interface in
    let from = c.inherited_of.ensures.attributes ∙ ap (inherited_of s) interface in
    let within = subst (λ (xs : List ℕ). m < length xs) are c.loop-place-test.true in
    let number = c.self_vertex.ensures.number ∙ ap (λ (xs : List ℕ). get_or s.places (get_or xs m 0) 0) are in
    let led = subst (IsFrom w.edges (get_or w.starts c.args.start 0)) number (c.leads.ensures.leads.0 c.if-leads.true)
    in (
      shape,
      (
        pair_by g.g c.interface_of-interface.result (g.g.interface c.args.class)
            (get_or c.inherited_of.result.now c.args.start 0)
            (get_or (inherited_of s (g.g.interface c.args.class)) c.args.start 0)
            (get_or c.synthesized_of-targets.result.now m 0)
            (get_or (synthesized_of s (g.g.interface c.args.class)) m 0)
            interface (ap (λ (xs : List ℕ). get_or xs c.args.start 0) from) (ap (λ (xs : List ℕ). get_or xs m 0) are)
            (shown_pair g.g s c.args.class w shape c.requires.1.0 c.requires.1.1.0 c.args.start m c.requires.1.1.1.0
            within led),
        c.loop-place.invariant.list,
      ),
    )
