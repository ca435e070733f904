-- Both orders of the steps go wrong.
use Rattle.std.proofs.Common.{◌≡◌, ℕ, ◌<◌, ◌≤◌, sym, subst, List, length}
use Rattle.std.proofs.lemmas.List.Elements.{Contains-get_or}
use Rattle.ftl_cursors.specs.item_cursor.ItemSteps.{AreStepsOf, no_step}
use Rattle.ftl_model.specs.layout.AttributeGrammar.{AttributeGrammar}
use Rattle.ftl_model.specs.layout.Solves.{Instance}
use Rattle.ftl_model.specs.layout.Tree.{Forest}
use Rattle.ftl_model.specs.layout.TreeOf.{IsTreeOf}
use Rattle.ftl_order.specs.declared.steps.step.Step.{Step}
use Rattle.ftl_order.specs.orders.Lawful.{IsLawful}
use Rattle.ftl_order.specs.orders.LegalOrder.{MustPrecede}
use Rattle.ftl_order.specs.orders.Schedule.{EachStandsOnce, Schedule, placing_of}
use Rattle.ftl_order.specs.steps.Steps.{IsStepOf, target_of}
use Rattle.ftl_example.specs.examples.EarlySteps.{early_steps}
use Rattle.ftl_example.specs.examples.ShownOrders.{ComputeWrongly}
use Rattle.ftl_example.specs.examples.ShownSteps.{step_in}
use Rattle.ftl_example.specs.orders.EarlyVisits.{EarlyFirstIsFree, early_first}
use Rattle.ftl_example.specs.orders.PlainOrder.{PlainOrderIsLegal, plain_order}
use Rattle.ftl_example.proofs.examples.EarlySteps.{early_are}
use Rattle.ftl_example.proofs.examples.ShownOrders.{reader_no_later}
use Rattle.ftl_example.proofs.examples.StepTurns.{target_step}

module _ (g : AttributeGrammar) (law : IsLawful g) (s : Schedule) (once : EachStandsOnce g s) (t : Forest) (fits : IsTreeOf g t)
    (steps : List Step) (are : AreStepsOf g t (plain_order g s t) steps) (m n : ℕ) (m_in : m < length steps)
    (n_in : n < length steps) where
  abbrev reading : Instance
  reading = target_of g t (step_in steps m)

  abbrev written : Instance
  written = target_of g t (step_in steps n)

  step_is : (k : ℕ) → k < length steps → IsStepOf g t (step_in steps k)
  step_is k within = are.steps_are (step_in steps k) (Contains-get_or steps k no_step within)

  -- the plain one, where it doesn't have the writer first
  pub plain_wrong : PlainOrderIsLegal → m ≤ n → ComputeWrongly g s t reading written steps
  plain_wrong plain low =
      let legal = plain g s t law once fits in
      (plain_order g s t, are, (legal, reader_no_later g t (plain_order g s t) steps are legal.once m n low n_in))

  -- and that with the early ones first
  pub early_wrong : EarlyFirstIsFree → (MustPrecede g t s written reading → ⊥) → (first : List Step)
      → first ≡ early_steps g (placing_of s) t (step_in steps m) steps
      → ComputeWrongly g s t reading written first
  early_wrong early free first is =
      let all = early g s t reading written law once fits (target_step g law t fits (step_in steps m) (step_is m m_in))
      (target_step g law t fits (step_in steps n) (step_is n n_in)) free in (
        early_first g s t reading,
        subst (AreStepsOf g t (early_first g s t reading)) (sym is)
            (early_are g (placing_of s) t (step_in steps m) (plain_order g s t) steps are),
        (all.0, all.1),
      )
