use Rattle.std.proofs.Common.{◌≡◌, ◌+◌, ◌∙◌, subst, arith, get_or}
use Rattle.ftl_model.specs.layout.AttributeGrammar.{attributes_of}
use Rattle.ftl_model.specs.layout.Solves.{Instance}
use Rattle.ftl_deps.specs.reads.Meant.{meant}
use Rattle.ftl_schedule.specs.stages.Stages.{stages_of}
use Rattle.ftl_step_value.specs.limits.reads.ReadTables.{instance_in}
use Rattle.ftl_step_value.proofs.limits.reads.Entries.{class_entry}
use Rattle.ftl_step_value.specs.limits.faults.StageReads.{AreCounts, HaveRoom, cells_before}
use Rattle.ftl_step_value.proofs.limits.faults.Cells.{room_for, row_cell, row_end, row_is}
use Rattle.ftl_step_value.proofs.limits.faults.Steps.{counts_further, room_further}
use Rattle.ftl_step_value.proofs.limits.faults.reads.add_node.Goals as goal

pub bounds-rows-class : goal.bounds-rows-class
bounds-rows-class c =
    let t = c.args.tree.now in
    let g = meant t.checked in
    (class_entry g c.requires.sound.law t.tree c.node_count-nodes.ensures.is_tree (attributes_of g) c.args.node
    c.requires.node c.class-class.ensures.class (c.as_slice-rows.ensures ∙ c.requires.tables.attributes)).within

pub add_instance-requires-clause-attr : goal.add_instance-requires-clause-attr
add_instance-requires-clause-attr c =
    let t = c.args.tree.now in
    let g = meant t.checked in
    let cell = row_cell g c.requires.sound.law t.tree c.node_count-nodes.ensures.is_tree c.args.node
    c.index-rows-class.result c.requires.node c.class-class.ensures.class
    (c.as_slice-rows.ensures ∙ c.requires.tables.attributes) (c.as_slice-attr-items.ensures ∙ c.index-rows-class.is)
    c.loop-attr.attr-index c.loop-attr-test.true in
    cell.of

pub add_instance-requires-clause-room : goal.add_instance-requires-clause-room
add_instance-requires-clause-room c =
    let t = c.args.tree.now in
    let g = meant t.checked in
    let cell = row_cell g c.requires.sound.law t.tree c.node_count-nodes.ensures.is_tree c.args.node
    c.index-rows-class.result c.requires.node c.class-class.ensures.class
    (c.as_slice-rows.ensures ∙ c.requires.tables.attributes) (c.as_slice-attr-items.ensures ∙ c.index-rows-class.is)
    c.loop-attr.attr-index c.loop-attr-test.true in
    let within = cell.within in
    let count = c.instance_count-cells.ensures.count in
    let bound = c.instance_count-cells.ensures.bound in
    room_for (cells_before g t.tree c.args.node + c.loop-attr.attr-index) 33554432 c.loop-attr.counts
    (omega (arith, within, count, bound)) c.loop-attr.invariant.room

pub loop-attr-preserved : goal.loop-attr-preserved
loop-attr-preserved c =
    let t = c.args.tree.now in
    let g = meant t.checked in
    let cell = row_cell g c.requires.sound.law t.tree c.node_count-nodes.ensures.is_tree c.args.node
    c.index-rows-class.result c.requires.node c.class-class.ensures.class
    (c.as_slice-rows.ensures ∙ c.requires.tables.attributes) (c.as_slice-attr-items.ensures ∙ c.index-rows-class.is)
    c.loop-attr.attr-index c.loop-attr-test.true in
    let before = cells_before g t.tree c.args.node in
    let place = c.loop-attr.attr-index in
    let i : Instance = instance_in t c.args.node (get_or c.as_slice-attr-items.result.now place 0) in
    let next : before + place + 1 ≡ before + (place + 1) = omega arith in
    record {
      so_far =
          subst (λ n. AreCounts g (stages_of c.args.placed.now) t.tree n c.add_instance.new.counts) next
          (counts_further g t.tree (stages_of c.args.placed.now) (before + place) i c.loop-attr.counts
          c.add_instance.new.counts c.loop-attr.invariant.so_far cell.below (cell.here i)
          c.add_instance.ensures.further);
      room =
          subst (λ n. HaveRoom n c.add_instance.new.counts) next
          (room_further (before + place) c.loop-attr.counts c.add_instance.new.counts c.loop-attr.invariant.room
          c.add_instance.ensures.further.stages c.add_instance.ensures.little);
    }

pub returns : goal.returns
returns c =
    let t = c.args.tree.now in
    let g = meant t.checked in
    let law = c.requires.sound.law in
    let fits = c.node_count-nodes.ensures.is_tree in
    let row = row_is g law t.tree fits c.args.node c.index-rows-class.result c.requires.node
    c.class-class.ensures.class (c.as_slice-rows.ensures ∙ c.requires.tables.attributes)
    (c.as_slice-attr-items.ensures ∙ c.index-rows-class.is) in
    let next = row_end g law t.tree fits c.args.node c.loop-attr.attr-index c.as_slice-attr-items.result.now
    c.requires.node row c.loop-attr-test.false c.loop-attr.auto.attr-index-end in
    record {
      so_far =
          subst (λ n. AreCounts g (stages_of c.args.placed.now) t.tree n c.loop-attr.counts) next
          c.loop-attr.invariant.so_far;
      room = subst (λ n. HaveRoom n c.loop-attr.counts) next c.loop-attr.invariant.room;
    }
