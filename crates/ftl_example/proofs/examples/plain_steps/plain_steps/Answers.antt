use Rattle.std.proofs.Common.{◌≡◌, sym, ◌∙◌, subst, arith, List, [], ◌++◌, flat_map}
use Rattle.std.proofs.lemmas.Grind.{common_steps}
use Rattle.std.proofs.lemmas.List.{at_drop_all}
use Rattle.ftl_cursors.specs.item_cursor.ItemSteps.{AreStepsOf}
use Rattle.ftl_deps.specs.reads.Meant.{meant}
use Rattle.ftl_example.specs.examples.PlainSteps.{plain_steps, steps_of_stage}
use Rattle.ftl_example.specs.orders.PlainOrder.{plain_order}
use Rattle.ftl_model.proofs.layout.Numbering.{length-preorder}
use Rattle.ftl_schedule.specs.declared.stages.types.Stage.{Stage}
use Rattle.ftl_schedule.specs.stages.Stages.{stages_of}
use Rattle.ftl_tree.proofs.rows.Access.{size-one}
use Rattle.ftl_example.proofs.examples.PlainSteps.{plain_are}
use Rattle.ftl_example.proofs.examples.plain_steps.plain_steps.Goals as goal

pub returns : goal.returns
returns c =
    let t = c.args.tree.now in
    let g = meant t.checked in
    let s = c.args.schedule.now in
    let fits = c.node_count-nodes.ensures.is_tree in
    let steps = c.loop-stage.steps.items in
    let ended : steps ≡ steps ++ [] = grind (arith, common_steps) in
    let all : steps ≡ plain_steps g t.tree s =
    ended
    ∙ sym
    (at_drop_all (λ (ys : List Stage). steps ++ flat_map (steps_of_stage g t.tree) ys) c.as_slice-stages.result.now
    c.loop-stage.stage c.loop-stage-test.false)
    ∙ c.loop-stage.invariant in
    record {
      steps =
          subst (AreStepsOf g t.tree (plain_order g (stages_of s) t.tree)) (sym all)
          (plain_are g s t.tree c.requires.sound.law c.requires.once fits c.visits_make_steps.ensures.steps
          c.visits_make_steps.ensures.targets c.inorder_steps_make_sequences.ensures.tree
          c.inorder_steps_make_sequences.ensures.steps (length-preorder t.tree ∙ sym (size-one g t.tree fits)));
    }
