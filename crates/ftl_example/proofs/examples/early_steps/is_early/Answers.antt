use Rattle.std.proofs.Common.{◌∙◌, ap}
use Rattle.ftl_deps.specs.reads.Meant.{meant}
use Rattle.ftl_order.specs.orders.Schedule.{placing_of}
use Rattle.ftl_schedule.specs.places.Entries.{schedule_place_meant}
use Rattle.ftl_schedule.specs.stages.Stages.{stages_of}
use Rattle.ftl_example.proofs.examples.EarlyTests.{early_in_pass}
use Rattle.ftl_example.proofs.examples.early_steps.is_early.Goals as goal

pub returns-then-place-late-3 : goal.returns-then-place-late-3
returns-then-place-late-3 c =
    let g = meant c.args.tree.now.checked in
    let at = placing_of (stages_of c.args.placed.now) in
    record {
      early =
          early_in_pass g c.requires.sound.law c.args.tree.now.tree c.node_count-nodes.ensures.is_tree at c.args.reader
          c.args.step c.requires.reader c.requires.step (schedule_place_meant c.schedule_place-place.result)
          (schedule_place_meant c.schedule_place-late.result)
          (c.schedule_place-place.ensures.schedule_place ∙ ap at c.attr_of.ensures.attr)
          (c.schedule_place-late.ensures.schedule_place ∙ ap at c.attr_of-2.ensures.attr)
          c.is_near.result c.is_near.ensures.near c.if-place-late.false c.if-place-late-3.true.0 c.if-place-late-3.true.1;
    }
