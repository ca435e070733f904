use Rattle.std.proofs.Common.{◌∙◌, sym, ap}
use Rattle.ftl_deps.specs.reads.Meant.{meant}
use Rattle.ftl_example.proofs.examples.EarlyTests.{early_in_pass}
use Rattle.ftl_nest_check.specs.stages.Nested.{nests_of}
use Rattle.ftl_nests.specs.Nests.{nest_placing_of}
use Rattle.ftl_schedule.specs.places.Entries.{schedule_place_meant}
use Rattle.ftl_example.proofs.nests.examples.early_steps.is_inner_early.Goals as goal

pub inner-place-requires : goal.inner-place-requires
inner-place-requires c =
    record {
      hosted = λ e.
          c.requires.early (ap (nest_placing_of (nests_of c.args.placed.now)).host (sym c.attr_of.ensures.attr) ∙ e);
    }

pub inner-late-requires : goal.inner-late-requires
inner-late-requires c =
    record {
      hosted = λ e.
          c.requires.late (ap (nest_placing_of (nests_of c.args.placed.now)).host (sym c.attr_of-2.ensures.attr) ∙ e);
    }

pub returns-then-place-late-3 : goal.returns-then-place-late-3
returns-then-place-late-3 c =
    let g = meant c.args.tree.now.checked in
    let at = (nest_placing_of (nests_of c.args.placed.now)).inner in
    record {
      early =
          early_in_pass g c.requires.sound.law c.args.tree.now.tree c.node_count-nodes.ensures.is_tree at c.args.reader
          c.args.step c.requires.reader c.requires.step (schedule_place_meant c.inner-place.result)
          (schedule_place_meant c.inner-late.result) (c.inner-place.ensures.place ∙ ap at c.attr_of.ensures.attr)
          (c.inner-late.ensures.place ∙ ap at c.attr_of-2.ensures.attr) c.is_near.result c.is_near.ensures.near
          c.if-place-late.false c.if-place-late-3.true.0 c.if-place-late-3.true.1;
    }
