-- The counts of inputs below the attribute and where the runs of its class begin and end tell its place.
use Rattle.std.proofs.Common.{arith, ap, length}
use Rattle.ftl_deps.specs.reads.Meant.{meant}
use Rattle.ftl_tree.proofs.rows.ClassPlaces.{input_known, own_place, shared_place}
use Rattle.ftl_tree.proofs.trees.Known.{class_row, known}
use Rattle.ftl_tree.proofs.trees.tree.Tree.input_place.Goals as goal

pub bounds-counts-attr : goal.bounds-counts-attr
bounds-counts-attr c =
    let i = c.self.inside in
    let t = c.args.self.now in
    let k = known i t c.self.invariant c.self.view_is in
    let row = class_row i t k c.args.class c.index-row.result.now c.index-row.result.now c.requires.class c.index-row.ensures in
    omega (
      arith,
      k.input_counts.length_is,
      ap length c.as_slice-counts.ensures.value,
      input_known (meant t.checked) c.args.class c.index-row.result.now row i.input_counts.items k.input_counts c.args.attr c.requires.attr,
    )

pub overflow_sub-result : goal.overflow_sub-result
overflow_sub-result c =
    let i = c.self.inside in
    let t = c.args.self.now in
    let k = known i t c.self.invariant c.self.view_is in
    let row = class_row i t k c.args.class c.index-row.result.now c.index-row.result.now c.requires.class c.index-row.ensures in
    let place = shared_place (meant t.checked) c.args.class c.index-row.result.now row i.input_counts.items k.input_counts c.args.attr c.requires.attr c.if-is_shared.ensures.inside in
    rw c.as_slice-counts.ensures.value (omega (arith, place))

pub returns-then-is_shared : goal.returns-then-is_shared
returns-then-is_shared c =
    let i = c.self.inside in
    let t = c.args.self.now in
    let k = known i t c.self.invariant c.self.view_is in
    let row = class_row i t k c.args.class c.index-row.result.now c.index-row.result.now c.requires.class c.index-row.ensures in
    let place = shared_place (meant t.checked) c.args.class c.index-row.result.now row i.input_counts.items k.input_counts c.args.attr c.requires.attr c.if-is_shared.ensures.inside in
    record { place = rw c.as_slice-counts.ensures.value (omega (arith, place)) }

pub overflow_sub-result-2 : goal.overflow_sub-result-2
overflow_sub-result-2 c =
    let i = c.self.inside in
    let t = c.args.self.now in
    let k = known i t c.self.invariant c.self.view_is in
    let row = class_row i t k c.args.class c.index-row.result.now c.index-row.result.now c.requires.class c.index-row.ensures in
    let own = own_place (meant t.checked) c.args.class c.index-row.result.now row i.input_counts.items k.input_counts c.args.attr c.requires.attr c.if-is_shared.ensures.outside in
    rw c.as_slice-counts.ensures.value (omega (arith, own.first))

pub overflow_sub-result-3 : goal.overflow_sub-result-3
overflow_sub-result-3 c =
    let i = c.self.inside in
    let t = c.args.self.now in
    let k = known i t c.self.invariant c.self.view_is in
    let row = class_row i t k c.args.class c.index-row.result.now c.index-row.result.now c.requires.class c.index-row.ensures in
    let own = own_place (meant t.checked) c.args.class c.index-row.result.now row i.input_counts.items k.input_counts c.args.attr c.requires.attr c.if-is_shared.ensures.outside in
    rw c.as_slice-counts.ensures.value (omega (arith, own.second))

pub returns : goal.returns
returns c =
    let i = c.self.inside in
    let t = c.args.self.now in
    let k = known i t c.self.invariant c.self.view_is in
    let row = class_row i t k c.args.class c.index-row.result.now c.index-row.result.now c.requires.class c.index-row.ensures in
    let own = own_place (meant t.checked) c.args.class c.index-row.result.now row i.input_counts.items k.input_counts c.args.attr c.requires.attr c.if-is_shared.ensures.outside in
    record { place = rw c.as_slice-counts.ensures.value (omega (arith, own.first, own.second, own.place)) }
