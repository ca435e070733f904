use Rattle.std.proofs.Common.{◌++◌, [], ap, ap₂, arith, flat_map, length, ◌∙◌}
use Rattle.std.specs.List.{range_with_len}
use Rattle.std.proofs.lemmas.List.{take_all}
use Rattle.ftl_grammar.specs.syntax.Trees as trees
use Rattle.ftl_grammar.specs.declared.syntax.rules.Class.{Class}
use Rattle.ftl_meaning.specs.faults.Numbering.{interface_at, interface_number}
use Rattle.ftl_tree.proofs.trees.Places.{one_more}
use Rattle.ftl_tree.proofs.trees.class_places.add_own.Goals as goal

pub loop-class-preserved : goal.loop-class-preserved
loop-class-preserved c =
    let g = c.args.checked.now.grammar in
    one_more
    (λ (x : Class). range_with_len (length (interface_at g (interface_number g x.interface)).attrs) (length x.attrs))
    c.args.places.now.items c.loop-class.places.items _ g.classes c.loop-class.class (trees.class [] [] [] [] [])
    (omega (arith, c.loop-class-test.true, c.class_count-class-end.ensures.count))
    c.loop-class.invariant
    (c.in_ok-add_run.ensures.added
    ∙ ap₂ (λ m n. c.loop-class.places.items ++ range_with_len m n) c.shared_width.ensures.width
    c.own_width.ensures.width)

pub returns : goal.returns
returns c =
    let g = c.args.checked.now.grammar in
    record {
      added =
          c.loop-class.invariant
          ∙ ap
          (λ xs. c.args.places.now.items
          ++ flat_map
          (λ (x : Class). range_with_len (length (interface_at g (interface_number g x.interface)).attrs)
          (length x.attrs))
          xs)
          (take_all c.loop-class.class g.classes
          (omega (arith, c.loop-class-test.false, c.loop-class.auto.class-end, c.class_count-class-end.ensures.count)));
    }
