use Rattle.std.proofs.Common.{sym, ◌∙◌, ap, subst, List, map, Contains}
use Rattle.ftl_cursors.specs.item_cursor.ItemSteps.{AreStepsOf}
use Rattle.ftl_deps.specs.reads.Meant.{meant}
use Rattle.ftl_example.specs.examples.ShownSteps.{AreShownAt, NoneShow, step_in}
use Rattle.ftl_example.specs.orders.PlainOrder.{plain_order}
use Rattle.ftl_example.specs.pairs.PairMeant.{pair_meant}
use Rattle.ftl_nests.specs.Flat.{flat_schedule}
use Rattle.ftl_nest_check.specs.stages.Nested.{nests_of}
use Rattle.ftl_nest_check.specs.declared.stages.types.NestingSchedule as code
use Rattle.ftl_order.specs.declared.steps.step.Step.{Step}
use Rattle.ftl_order.specs.orders.Schedule.{EachStandsOnce, Schedule}
use Rattle.ftl_order.specs.steps.Steps.{IsStepOf, target_of}
use Rattle.ftl_step_value.specs.cells.ReadCells.{filled_cell}
use Rattle.ftl_example.proofs.examples.NumberedOrders.{found_show, some_show, step_there}
use Rattle.ftl_example.proofs.examples.OptionHas.{some_is, some_unless}
use Rattle.ftl_nests.proofs.FlatLaws.{flat_once}
use Rattle.ftl_example.proofs.nests.examples.NumberedOrders.{numbered}
use Rattle.ftl_example.proofs.nests.examples.numbered.numbered_order.Goals as goal

pub plain_steps-requires-clause-once : goal.plain_steps-requires-clause-once
plain_steps-requires-clause-once c =
    subst (EachStandsOnce (meant c.args.tree.now.checked))
    (sym (c.in_ok-flat.ensures.flat ∙ ap (λ (k : code.NestingSchedule). flat_schedule (nests_of k)) c.schedule.ensures.schedule))
    (flat_once (meant c.args.tree.now.checked) (nests_of c.args.placed.now) c.requires.sound.law c.requires.once)

pub shown_steps-requires-clause-steps : goal.shown_steps-requires-clause-steps
shown_steps-requires-clause-steps c = λ x there.
    c.in_ok-steps.ensures.steps.steps_are x (subst (λ (xs : List Step). Contains xs x) c.as_slice.ensures.value there)

pub unwrap-shown-requires : goal.unwrap-shown-requires
unwrap-shown-requires c =
    let t = c.args.tree.now in
    let g = meant t.checked in
    let s = flat_schedule (nests_of c.args.placed.now) in
    let fits = c.node_count-nodes.ensures.is_tree in
    let steps = c.in_ok-steps.steps.items in
    let are =
    subst (λ (k : Schedule). AreStepsOf g t.tree (plain_order g k t.tree) steps)
    (c.in_ok-flat.ensures.flat ∙ ap (λ (k : code.NestingSchedule). flat_schedule (nests_of k)) c.schedule.ensures.schedule)
    c.in_ok-steps.ensures.steps in
    some_unless c.shown_steps.result
    (λ e.
    some_show g c.requires.sound.law t.tree fits s (pair_meant c.args.pair) (plain_order g s t.tree) steps are
    (c.plain_orders.ensures.legal g s t.tree c.requires.sound.law
    (flat_once g (nests_of c.args.placed.now) c.requires.sound.law c.requires.once) fits)
    c.requires.shows.0 c.requires.shows.1 c.requires.shows.2
    (subst (λ (xs : List Step). NoneShow g t.tree (pair_meant c.args.pair) xs) c.as_slice.ensures.value
    (c.shown_steps.ensures.none e)))

pub target_cell-writer-requires-clause-step : goal.target_cell-writer-requires-clause-step
target_cell-writer-requires-clause-step c =
    let t = c.args.tree.now in
    let g = meant t.checked in
    let s = flat_schedule (nests_of c.args.placed.now) in
    let steps = c.in_ok-steps.steps.items in
    let found = c.unwrap-shown.result in
    let are =
    subst (λ (k : Schedule). AreStepsOf g t.tree (plain_order g k t.tree) steps)
    (c.in_ok-flat.ensures.flat ∙ ap (λ (k : code.NestingSchedule). flat_schedule (nests_of k)) c.schedule.ensures.schedule)
    c.in_ok-steps.ensures.steps in
    let shown =
    subst (λ (xs : List Step). AreShownAt g t.tree (pair_meant c.args.pair) xs found.reader found.writer)
    c.as_slice.ensures.value (some_is _ c.shown_steps.result found c.unwrap-shown.ensures c.shown_steps.ensures.found) in
    subst (λ (xs : List Step). IsStepOf g t.tree (step_in xs found.writer)) (sym c.as_slice-3.ensures.value)
    (step_there g c.requires.sound.law t.tree c.node_count-nodes.ensures.is_tree s (pair_meant c.args.pair)
    (plain_order g s t.tree) steps are found.writer shown.writer_within)

pub shown_order-requires-clause-plain : goal.shown_order-requires-clause-plain
shown_order-requires-clause-plain c =
    let t = c.args.tree.now in
    let g = meant t.checked in
    subst (λ (k : Schedule). AreStepsOf g t.tree (plain_order g k t.tree) c.in_ok-steps.steps.items)
    (c.in_ok-flat.ensures.flat ∙ ap (λ (k : code.NestingSchedule). flat_schedule (nests_of k)) c.schedule.ensures.schedule)
    c.in_ok-steps.ensures.steps

pub shown_order-requires-clause-free : goal.shown_order-requires-clause-free
shown_order-requires-clause-free c = λ must.
    let t = c.args.tree.now in
    let g = meant t.checked in
    let s = flat_schedule (nests_of c.args.placed.now) in
    let fits = c.node_count-nodes.ensures.is_tree in
    let steps = c.in_ok-steps.steps.items in
    let found = c.unwrap-shown.result in
    let are =
    subst (λ (k : Schedule). AreStepsOf g t.tree (plain_order g k t.tree) steps)
    (c.in_ok-flat.ensures.flat ∙ ap (λ (k : code.NestingSchedule). flat_schedule (nests_of k)) c.schedule.ensures.schedule)
    c.in_ok-steps.ensures.steps in
    let shown =
    subst (λ (xs : List Step). AreShownAt g t.tree (pair_meant c.args.pair) xs found.reader found.writer)
    c.as_slice.ensures.value (some_is _ c.shown_steps.result found c.unwrap-shown.ensures c.shown_steps.ensures.found) in
    c.requires.unordered
    (c.nest_examples.ensures.ordered g (nests_of c.args.placed.now) t.tree (pair_meant c.args.pair)
    (target_of g t.tree (step_in steps found.reader))
    (target_of g t.tree (step_in steps found.writer)) c.requires.sound.law fits c.requires.pair
    (found_show g c.requires.sound.law t.tree fits s (pair_meant c.args.pair) (plain_order g s t.tree) steps are
    found.reader found.writer shown)
    must)

pub numbers_of-requires-clause-steps : goal.numbers_of-requires-clause-steps
numbers_of-requires-clause-steps c = λ x there.
    c.in_ok-order.ensures.order.1.steps_are x
    (subst (λ (xs : List Step). Contains xs x) c.as_slice-4.ensures.value there)

pub returns : goal.returns
returns c =
    let t = c.args.tree.now in
    let g = meant t.checked in
    let s = flat_schedule (nests_of c.args.placed.now) in
    let fits = c.node_count-nodes.ensures.is_tree in
    let steps = c.in_ok-steps.steps.items in
    let found = c.unwrap-shown.result in
    let are =
    subst (λ (k : Schedule). AreStepsOf g t.tree (plain_order g k t.tree) steps)
    (c.in_ok-flat.ensures.flat ∙ ap (λ (k : code.NestingSchedule). flat_schedule (nests_of k)) c.schedule.ensures.schedule)
    c.in_ok-steps.ensures.steps in
    let shown =
    subst (λ (xs : List Step). AreShownAt g t.tree (pair_meant c.args.pair) xs found.reader found.writer)
    c.as_slice.ensures.value (some_is _ c.shown_steps.result found c.unwrap-shown.ensures c.shown_steps.ensures.found) in
    record {
      numbered =
          numbered g (nests_of c.args.placed.now) (pair_meant c.args.pair) t.tree
          (target_of g t.tree (step_in steps found.reader)) (target_of g t.tree (step_in steps found.writer))
          (found_show g c.requires.sound.law t.tree fits s (pair_meant c.args.pair) (plain_order g s t.tree) steps are
          found.reader found.writer shown)
          c.in_ok-order.order.items c.in_ok-order.ensures.order c.target_cell-reader.result c.target_cell-writer.result
          c.in_ok-order-2.order
          (c.target_cell-reader.ensures.cell
          ∙ ap (λ (xs : List Step). filled_cell g t.tree (step_in xs found.reader)) c.as_slice-2.ensures.value)
          (c.target_cell-writer.ensures.cell
          ∙ ap (λ (xs : List Step). filled_cell g t.tree (step_in xs found.writer)) c.as_slice-3.ensures.value)
          (c.in_ok-order-2.ensures.numbers ∙ ap (map (filled_cell g t.tree)) c.as_slice-4.ensures.value);
    }
