use Rattle.std.proofs.Common.{◌+◌, [], ◌∷◌, ap, arith, length, length-append, sym}
use Rattle.ftl_deps.specs.reads.Meant.{meant}
use Rattle.ftl_tree.specs.rows.ClassRows.{no_attributes}
use Rattle.ftl_tree.specs.rows.Rows.{attribute_width}
use Rattle.std.proofs.Common.{get_or}
use Rattle.ftl_tree.proofs.rows.ClassPlaces.{attribute_width_is}
use Rattle.ftl_tree.proofs.rows.RowWidths.{pushed}
use Rattle.ftl_tree.proofs.trees.widths.attribute_widths.Goals as goal

pub loop-class-preserved : goal.loop-class-preserved
loop-class-preserved c =
    let g = meant c.args.checked.now in
    let k = c.loop-class.class in
    let row = get_or c.args.classes.now k no_attributes in
    let inv = c.loop-class.invariant in
    let width = attribute_width_is g k row (c.requires.classes.each k (omega (arith, c.loop-class-test.true, c.class_count-class-end.ensures.count))) in
    record {
      length_is = omega (arith, ap length c.in_ok-push.ensures.items, length-append c.loop-class.widths.items ((row.shared_count + row.own_count) ∷ []), inv.length_is);
      each = pushed (attribute_width g) c.loop-class.widths.items _ (row.shared_count + row.own_count) k c.in_ok-push.ensures.items inv.length_is (sym width) inv.each;
    }
