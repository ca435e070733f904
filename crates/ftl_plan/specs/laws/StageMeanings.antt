-- What a stage of a plan means: the work of the stage, with the solution of the tree.
use Rattle.std.specs.Prelude.{◌≡◌, ℕ, ◌≤◌, length, None}
use Rattle.ftl_model.specs.layout.Limits.{most_instances, most_nodes, most_passes, most_step_reads}
use Rattle.ftl_cells.specs.shared.Shape.{listed}
use Rattle.ftl_cells.specs.shared.Work.{IsLawfulWork, Meaning}
use Rattle.ftl_model.specs.layout.AttributeGrammar.{AttributeGrammar}
use Rattle.ftl_model.specs.layout.Solves.{Instance}
use Rattle.ftl_model.specs.layout.Table.{SolvesList, instance_count}
use Rattle.ftl_model.specs.layout.Tree.{Forest, size}
use Rattle.ftl_model.specs.layout.TreeOf.{IsTreeOf}
use Rattle.ftl_order.specs.orders.Lawful.{IsLawful}
use Rattle.ftl_order.specs.orders.LegalOrder.{IsStep}
use Rattle.ftl_order.specs.orders.Reads.{reads_of}
use Rattle.ftl_nests.specs.NestItems.{nest_work, pass_count}
use Rattle.ftl_nests.specs.Nests.{IsNestOrdered, NestingSchedule, outer_schedule}
use Rattle.ftl_nests.specs.WorkLaws.{NoInorderNests}
use Rattle.ftl_step_value.specs.limits.faults.PlanFaults.{first_fault}
use Rattle.ftl_items.specs.solution.Solution.{solution}

-- what a stage means; no step reads more cells than it may
abbrev pub stage_meaning : AttributeGrammar → NestingSchedule → Forest → (grain stage max_stack : ℕ) → Meaning
stage_meaning g s t grain stage max_stack = listed (nest_work g s t grain stage (solution g t) most_step_reads max_stack)

-- a lawful grammar, an ordered schedule and a tree within the limits, which have a plan
pub record CanBePlanned (g : AttributeGrammar) (s : NestingSchedule) (t : Forest) : Type 0 where
  pub law : IsLawful g
  pub ordered : IsNestOrdered g s
  pub no_inorder : NoInorderNests s
  pub is_tree : IsTreeOf g t
  pub nodes : size t ≤ most_nodes
  pub cells : instance_count g t ≤ most_instances
  pub no_fault : first_fault g (outer_schedule s) t ≡ None

-- of each of these
abbrev pub OfPlans : (AttributeGrammar → NestingSchedule → Forest → Type 0) → Type 0
OfPlans P = (g : AttributeGrammar) (s : NestingSchedule) (t : Forest) → CanBePlanned g s t → P g s t

-- the solution solves the tree
abbrev pub SolutionSolves : AttributeGrammar → NestingSchedule → Forest → Type 0
SolutionSolves g s t = SolvesList g t (solution g t)

-- no step reads too much
abbrev pub StepsAreNarrow : AttributeGrammar → NestingSchedule → Forest → Type 0
StepsAreNarrow g s t = (i : Instance) → IsStep g t i → length (reads_of g t i) ≤ most_step_reads

-- each stage is lawful work, with at most so many passes
abbrev pub StagesAreLawful : AttributeGrammar → NestingSchedule → Forest → Type 0
StagesAreLawful g s t =
    (grain stage max_stack : ℕ) → pass_count s stage ≤ most_passes
    → IsLawfulWork (stage_meaning g s t grain stage max_stack)
