use Rattle.std.proofs.Common.{◌∙◌, sym, ap, subst, List, Contains}
use Rattle.ftl_deps.specs.reads.Meant.{meant}
use Rattle.ftl_example.specs.examples.ShownSteps.{step_in}
use Rattle.ftl_example.proofs.examples.OptionHas.{ok_has}
use Rattle.ftl_nest_check.specs.stages.Nested.{nests_of}
use Rattle.ftl_nests.specs.Nests.{nest_placing_of}
use Rattle.ftl_order.specs.declared.steps.step.Step.{Step}
use Rattle.ftl_order.specs.steps.Steps.{IsStepOf}
use Rattle.ftl_example.specs.nests.examples.EarlySteps.{early_steps}
use Rattle.ftl_example.proofs.nests.examples.WrongOrders.{early_wrong, plain_wrong, step_is}
use Rattle.ftl_example.proofs.nests.examples.shown_order.shown_order.Goals as goal

pub returns-then-shown : goal.returns-then-shown
returns-then-shown c =
    record {
      order =
          plain_wrong (meant c.args.tree.now.checked) c.requires.sound.law (nests_of c.args.placed.now) c.requires.once
          c.requires.sides c.args.tree.now.tree c.node_count-nodes.ensures.is_tree c.args.steps.items c.requires.plain
          c.args.shown.reader c.args.shown.writer c.requires.reader c.requires.writer
          c.plain_orders_with_nests.ensures.legal c.if-shown.true;
    }

pub hosted_step-reader-requires-clause-step : goal.hosted_step-reader-requires-clause-step
hosted_step-reader-requires-clause-step c =
    subst (λ (xs : List Step). IsStepOf (meant c.args.tree.now.checked) c.args.tree.now.tree (step_in xs c.args.shown.reader))
    (sym c.as_slice.ensures.value)
    (step_is (meant c.args.tree.now.checked) c.requires.sound.law (nests_of c.args.placed.now) c.requires.once
    c.requires.sides c.args.tree.now.tree c.node_count-nodes.ensures.is_tree c.args.steps.items c.requires.plain
    c.args.shown.reader c.args.shown.writer c.requires.reader c.requires.writer c.args.shown.reader c.requires.reader)

pub early_steps-requires-clause-steps : goal.early_steps-requires-clause-steps
early_steps-requires-clause-steps c = λ x there.
    c.requires.plain.steps_are x (subst (λ (xs : List Step). Contains xs x) c.as_slice-2.ensures.value there)

pub returns : goal.returns
returns c =
    let g = meant c.args.tree.now.checked in
    let t = c.args.tree.now.tree in
    let s = nests_of c.args.placed.now in
    let steps = c.args.steps.items in
    let m = c.args.shown.reader in
    record {
      order =
          ok_has c.early_steps.result c.early_steps.ensures.steps
          (λ v is.
          early_wrong g c.requires.sound.law s c.requires.once c.requires.sides t c.node_count-nodes.ensures.is_tree steps
          c.requires.plain m c.args.shown.writer c.requires.reader c.requires.writer
          c.plain_orders_with_nests.ensures.free c.requires.free v.items
          (sym
          (is
          ∙ ap (λ (x : Step). early_steps g (nest_placing_of s) t x c.as_slice-2.result.now)
          (c.hosted_step-reader.ensures.step ∙ ap (λ (xs : List Step). step_in xs m) c.as_slice.ensures.value)
          ∙ ap (early_steps g (nest_placing_of s) t (step_in steps m)) c.as_slice-2.ensures.value)));
    }
