use Rattle.std.proofs.Common.{◌≡◌, ◌+◌, [], ◌∷◌, ap, arith, get_or, length, length-append}
use Rattle.ftl_deps.specs.reads.Meant.{meant}
use Rattle.ftl_tree.specs.rows.ClassRows.{no_attributes}
use Rattle.ftl_tree.specs.rows.Rows.{input_width}
use Rattle.ftl_tree.proofs.rows.ClassPlaces.{input_width_is}
use Rattle.ftl_tree.proofs.rows.RowWidths.{pushed}
use Rattle.ftl_tree.proofs.trees.widths.input_widths.Goals as goal

pub inputs_in-shared-requires-clause-rise : goal.inputs_in-shared-requires-clause-rise
inputs_in-shared-requires-clause-rise c =
    let g = meant c.args.checked.now in
    let k = c.loop-class.class in
    let row = get_or c.args.classes.now k no_attributes in
    let width = input_width_is g k row (c.requires.classes.each k (omega (arith, c.loop-class-test.true, c.class_count-class-end.ensures.count))) c.args.counts.now c.requires.counts in
    omega (arith, width.first)

pub inputs_in-requires-clause-rise : goal.inputs_in-requires-clause-rise
inputs_in-requires-clause-rise c =
    let g = meant c.args.checked.now in
    let k = c.loop-class.class in
    let row = get_or c.args.classes.now k no_attributes in
    let width = input_width_is g k row (c.requires.classes.each k (omega (arith, c.loop-class-test.true, c.class_count-class-end.ensures.count))) c.args.counts.now c.requires.counts in
    omega (arith, width.second)

pub overflow_add-shared : goal.overflow_add-shared
overflow_add-shared c =
    let g = meant c.args.checked.now in
    let k = c.loop-class.class in
    let row = get_or c.args.classes.now k no_attributes in
    let width = input_width_is g k row (c.requires.classes.each k (omega (arith, c.loop-class-test.true, c.class_count-class-end.ensures.count))) c.args.counts.now c.requires.counts in
    omega (arith, width.first, width.second, width.few, c.inputs_in-shared.ensures.inputs, c.inputs_in.ensures.inputs)

pub loop-class-preserved : goal.loop-class-preserved
loop-class-preserved c =
    let g = meant c.args.checked.now in
    let k = c.loop-class.class in
    let row = get_or c.args.classes.now k no_attributes in
    let inv = c.loop-class.invariant in
    let width = input_width_is g k row (c.requires.classes.each k (omega (arith, c.loop-class-test.true, c.class_count-class-end.ensures.count))) c.args.counts.now c.requires.counts in
    let sum = c.inputs_in-shared.result + c.inputs_in.result in
    let is : sum ≡ input_width g k = omega (arith, width.first, width.second, width.width, c.inputs_in-shared.ensures.inputs, c.inputs_in.ensures.inputs) in
    record {
      length_is = omega (arith, ap length c.in_ok-push.ensures.items, length-append c.loop-class.widths.items (sum ∷ []), inv.length_is);
      each = pushed (input_width g) c.loop-class.widths.items _ sum k c.in_ok-push.ensures.items inv.length_is is inv.each;
    }
