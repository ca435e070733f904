-- The steps with those first that are early for one of them, where passes have nests.
use Rattle.std.specs.Prelude.{◌≡◌, ℕ, ◌<◌, Bool, List, ◌++◌, filter, Some}
use Rattle.ftl_model.specs.layout.AttributeGrammar.{AttributeGrammar}
use Rattle.ftl_model.specs.layout.Path.{node_at}
use Rattle.ftl_model.specs.layout.Tree.{Forest, size}
use Rattle.ftl_order.specs.declared.steps.step.Step.{Step}
use Rattle.ftl_order.specs.steps.Steps.{IsStepOf, target_of}
use Rattle.ftl_example.specs.declared.examples.early_steps.Half.{Half}
use Rattle.ftl_example.specs.declared.examples.early_steps.Half.TheVariants as half
use Rattle.ftl_example.specs.examples.EarlySteps.{is_half}
use Rattle.ftl_nests.specs.Hosted.{nearest}
use Rattle.ftl_nests.specs.Nests.{NestPlacing}
use Rattle.ftl_example.specs.declared.nests.examples.host.HostedStep.{HostedStep}
use Rattle.ftl_example.specs.nests.orders.EarlyWithNests.{is_early_with_nests}

-- a step of the tree, with its host where it stands in a nest
pub record IsHostedStep (g : AttributeGrammar) (at : NestPlacing) (t : Forest) (r : HostedStep) : Type 0 where
  pub step : IsStepOf g t r.step
  pub within : r.host < size t
  pub is :
      (class : ℕ) → at.host (target_of g t r.step).attribute ≡ Some class
      → node_at t r.host ≡ nearest t class (node_at t r.step.node)

-- what the step computes is early for what the reader computes
abbrev pub is_early_step : AttributeGrammar → NestPlacing → Forest → (reader : Step) → Step → Bool
is_early_step g at t r x = is_early_with_nests g at t (target_of g t r) (target_of g t x)

-- whether it is in a half, by the reader
abbrev pub is_in_half : AttributeGrammar → NestPlacing → Forest → (reader : Step) → Half → Step → Bool
is_in_half g at t r h x = is_half h (is_early_step g at t r x)

-- the early steps, and then the others
abbrev pub early_steps : AttributeGrammar → NestPlacing → Forest → (reader : Step) → List Step → List Step
early_steps g at t r steps =
    filter (is_in_half g at t r half.Early) steps ++ filter (is_in_half g at t r half.Late) steps
