-- The steps with those first that are early for one of them.
use Rattle.std.specs.Prelude.{Bool, not, List, ◌++◌, filter}
use Rattle.ftl_model.specs.layout.AttributeGrammar.{AttributeGrammar}
use Rattle.ftl_model.specs.layout.Tree.{Forest}
use Rattle.ftl_order.specs.declared.steps.step.Step.{Step}
use Rattle.ftl_order.specs.orders.Schedule.{Placing}
use Rattle.ftl_order.specs.steps.Steps.{target_of}
use Rattle.ftl_example.specs.declared.examples.early_steps.Half.{Half}
use Rattle.ftl_example.specs.declared.examples.early_steps.Half.TheVariants as half
use Rattle.ftl_example.specs.orders.EarlyVisits.{is_early}

-- what the step computes is early for what the reader computes
abbrev pub is_early_step : AttributeGrammar → Placing → Forest → (reader : Step) → Step → Bool
is_early_step g at t r x = is_early g at t (target_of g t r) (target_of g t x)

-- whether a step is in a half, which has the early steps or the others
abbrev pub is_half : Half → (early : Bool) → Bool
is_half half.Early early = early
is_half half.Late early = not early

-- whether it is, by the reader
abbrev pub is_in_half : AttributeGrammar → Placing → Forest → (reader : Step) → Half → Step → Bool
is_in_half g at t r h x = is_half h (is_early_step g at t r x)

-- the early steps, and then the others
abbrev pub early_steps : AttributeGrammar → Placing → Forest → (reader : Step) → List Step → List Step
early_steps g at t r steps =
    filter (is_in_half g at t r half.Early) steps ++ filter (is_in_half g at t r half.Late) steps
