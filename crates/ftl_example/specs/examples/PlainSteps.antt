-- The plain order as steps: rules that run at nodes, pass by pass.
use Rattle.std.specs.Prelude.{ℕ, List, flat_map}
use Rattle.ftl_cursors.specs.declared.visits.nodes.NodeOrder.TheVariants.{Preorder, Reverse}
use Rattle.ftl_cursors.specs.inorder.InorderSteps.{inorder_steps}
use Rattle.ftl_cursors.specs.item_cursor.ItemSteps.{AreStepsOf}
use Rattle.ftl_cursors.specs.visits.NodeRanges.{nodes_in}
use Rattle.ftl_cursors.specs.visits.VisitSteps.{steps_of_nodes}
use Rattle.ftl_model.specs.layout.AttributeGrammar.{AttributeGrammar}
use Rattle.ftl_model.specs.layout.Path.{top}
use Rattle.ftl_model.specs.layout.Tree.{Forest, size}
use Rattle.ftl_model.specs.layout.TreeOf.{IsTreeOf}
use Rattle.ftl_order.specs.declared.steps.step.Step.{Step}
use Rattle.ftl_order.specs.orders.Lawful.{IsLawful}
use Rattle.ftl_order.specs.orders.Schedule.{EachStandsOnce}
use Rattle.ftl_schedule.specs.declared.stages.types.Pass.{Pass}
use Rattle.ftl_schedule.specs.declared.stages.types.Schedule.{Schedule}
use Rattle.ftl_schedule.specs.declared.stages.types.Stage.{Stage}
use Rattle.ftl_schedule.specs.declared.syntax.kind.PassKind.{PassKind}
use Rattle.ftl_schedule.specs.declared.syntax.kind.PassKind.TheVariants.{BottomUp, InOrder, TopDown}
use Rattle.ftl_schedule.specs.stages.Stages.{stages_of}
use Rattle.ftl_visit.specs.passes.VisitRows.{visits_of}
use Rattle.ftl_example.specs.orders.PlainOrder.{plain_order}

-- the steps of a pass of this kind with this list, over all nodes
abbrev pub steps_of_kind : AttributeGrammar → Forest → PassKind → (attributes : List ℕ) → List Step
steps_of_kind g t TopDown attributes = steps_of_nodes g t (visits_of g TopDown attributes) (nodes_in Preorder 0 (size t))
steps_of_kind g t BottomUp attributes = steps_of_nodes g t (visits_of g BottomUp attributes) (nodes_in Reverse 0 (size t))
steps_of_kind g t InOrder attributes = inorder_steps g t attributes top

-- those of a pass
abbrev pub steps_of_pass : AttributeGrammar → Forest → Pass → List Step
steps_of_pass g t pass = steps_of_kind g t pass.kind pass.attrs

-- those of some passes, one after the other
abbrev pub steps_of_passes : AttributeGrammar → Forest → List Pass → List Step
steps_of_passes g t passes = flat_map (steps_of_pass g t) passes

-- those of a stage
abbrev pub steps_of_stage : AttributeGrammar → Forest → Stage → List Step
steps_of_stage g t stage = steps_of_passes g t stage.passes

-- and all
abbrev pub plain_steps : AttributeGrammar → Forest → Schedule → List Step
plain_steps g t s = flat_map (steps_of_stage g t) s.stages

-- they are steps of the tree, whose instances are the plain order
abbrev pub PlainStepsAreTheOrder : Type 0
PlainStepsAreTheOrder =
    (g : AttributeGrammar) (s : Schedule) (t : Forest) → IsLawful g → EachStandsOnce g (stages_of s) → IsTreeOf g t
    → AreStepsOf g t (plain_order g (stages_of s) t) (plain_steps g t s)
