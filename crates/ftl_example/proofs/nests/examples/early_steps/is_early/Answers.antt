use Rattle.std.proofs.Common.{◌∙◌, ap}
use Rattle.ftl_deps.specs.reads.Meant.{meant}
use Rattle.ftl_nest_check.specs.stages.Nested.{nests_of}
use Rattle.ftl_nests.specs.Nests.{nest_placing_of}
use Rattle.ftl_schedule.specs.places.Entries.{schedule_place_meant}
use Rattle.ftl_example.proofs.nests.examples.EarlyTests.{early_in_pass}
use Rattle.ftl_example.proofs.nests.examples.early_steps.is_early.Goals as goal

pub returns-then-place-late-3 : goal.returns-then-place-late-3
returns-then-place-late-3 c =
    let g = meant c.args.tree.now.checked in
    let at = nest_placing_of (nests_of c.args.placed.now) in
    record {
      early =
          early_in_pass g c.args.tree.now.tree at c.args.reader.step c.args.step
          (schedule_place_meant c.outer-place.result) (schedule_place_meant c.outer-late.result)
          (c.outer-place.ensures.place ∙ ap at.outer c.attr_of.ensures.attr)
          (c.outer-late.ensures.place ∙ ap at.outer c.attr_of-2.ensures.attr)
          c.is_early_in.result c.is_early_in.ensures.early c.if-place-late.false c.if-place-late-3.true.0
          c.if-place-late-3.true.1;
    }
