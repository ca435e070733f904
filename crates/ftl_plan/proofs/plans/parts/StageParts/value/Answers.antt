use Rattle.std.proofs.Common.{◌≡◌, ◌∙◌, length, map, subst, sym}
use Rattle.std.proofs.lemmas.List.{length-map}
use Rattle.ftl_deps.specs.reads.Meant.{meant}
use Rattle.ftl_model.specs.layout.Table.{instance_number, value_in}
use Rattle.ftl_model.specs.layout.Solves.{Instance}
use Rattle.ftl_model.specs.layout.Values.{Value}
use Rattle.ftl_order.specs.orders.Reads.{reads_of}
use Rattle.ftl_items.specs.solution.Solution.{solution}
use Rattle.ftl_step_value.specs.value.StepValue.{IsCodeFor, value_of_step}
use Rattle.ftl_order.specs.steps.Steps.{target_of}
use Rattle.ftl_tree.specs.trees.CheckedTree.{CheckedTree}
use Rattle.ftl_plan.specs.plans.StageParts.{grammar_of, schedule_of, tree_of}
use Rattle.ftl_plan.proofs.plans.Bridge.{sound_there, step_there, tables_there, value_is, values_are}
use Rattle.ftl_plan.proofs.plans.parts.StageParts.value.Goals as goal

pub step_value-requires-clause-sound : goal.step_value-requires-clause-sound
step_value-requires-clause-sound c =
    sound_there c.args.self.now c.requires.fit c.tree.result.now c.tree.ensures.tree

pub step_value-requires-clause-tables : goal.step_value-requires-clause-tables
step_value-requires-clause-tables c =
    tables_there c.args.self.now c.requires.fit c.tree.result.now c.tree.ensures.tree

pub step_value-requires-clause-step : goal.step_value-requires-clause-step
step_value-requires-clause-step c =
    step_there c.args.self.now c.requires.fit c.tree.result.now c.tree.ensures.tree
    c.args.step c.requires.step

pub step_value-requires-clause-code : goal.step_value-requires-clause-code
step_value-requires-clause-code c =
    subst (λ (t : CheckedTree). IsCodeFor t.checked c.args.self.now.programs.now) (sym c.tree.ensures.tree)
    c.requires.fit.code

pub step_value-requires-clause-reads : goal.step_value-requires-clause-reads
step_value-requires-clause-reads c =
    let w = c.args.self.now in
    let reads = reads_of (grammar_of w) (tree_of w) (target_of (grammar_of w) (tree_of w) c.args.step) in
    subst
    (λ (t : CheckedTree). length c.args.reads.now
    ≡ length (reads_of (meant t.checked) t.tree (target_of (meant t.checked) t.tree c.args.step)))
    (sym c.tree.ensures.tree)
    (c.requires.reads ∙ length-map reads (instance_number (grammar_of w) (tree_of w)))

pub returns : goal.returns
returns c =
    let w = c.args.self.now in
    let g = grammar_of w in
    let t = tree_of w in
    let fit = c.requires.fit in
    let x = c.args.step in
    let solves = c.solution_of_plans.ensures.solves g (schedule_of w) t fit.can in
    let s = value_in g t (solution g t) in
    let given =
    subst
    (λ (u : CheckedTree). (s : Instance → Value)
    → c.args.reads.now ≡ map s (reads_of (meant u.checked) u.tree (target_of (meant u.checked) u.tree x))
    → c.step_value.result ≡ value_of_step (meant u.checked) u.tree s x)
    c.tree.ensures.tree c.step_value.ensures.value in
    record {
      value = λ solved.
          given s (solved ∙ values_are w fit solves x c.requires.step)
          ∙ value_is w fit solves x c.requires.step;
      room = c.step_value.ensures.room;
    }
