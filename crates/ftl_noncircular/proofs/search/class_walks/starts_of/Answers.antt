use Rattle.std.proofs.Common.{◌∙◌, ◌<◌, arith, ap, subst, length, get_or, List, ℕ}
use Rattle.ftl_noncircular.specs.search.Shapes.{inherited_of}
use Rattle.ftl_noncircular.proofs.search.StartLaws.{source_known, starts_are}
use Rattle.ftl_noncircular.proofs.search.class_walks.starts_of.Goals as goal

pub self_vertex-requires : goal.self_vertex-requires
self_vertex-requires g c =
    let s = c.args.shape.now in
    let are = c.inherited_of-attrs.ensures.attributes
    ∙ ap (inherited_of s) (c.interface_of.ensures.interface
    ∙ c.requires.0.classes.interfaces c.args.class c.requires.1) in
    record {
      attr =
          omega (
            arith,
            ap (λ (xs : List ℕ). get_or xs c.loop-attr.attr-index 0) are,
            source_known g.g s c.requires.0 c.args.class c.requires.1 c.loop-attr.attr-index
                (subst (λ (xs : List ℕ). c.loop-attr.attr-index < length xs) are c.loop-attr-test.true),
            c.requires.0.attributes.places_count,
          );
    }

pub returns : goal.returns
returns g c =
    let s = c.args.shape.now in
    let are = c.inherited_of-attrs.ensures.attributes
    ∙ ap (inherited_of s) (c.interface_of.ensures.interface
    ∙ c.requires.0.classes.interfaces c.args.class c.requires.1) in
    record {
      starts =
          starts_are g.g s c.requires.0 c.args.class c.requires.1 c.loop-attr.starts.items
          c.inherited_of-attrs.result.now
          c.loop-attr.attr-index are (omega (arith, c.loop-attr-test.false, c.loop-attr.auto.attr-index-end))
          c.loop-attr.invariant;
    }
