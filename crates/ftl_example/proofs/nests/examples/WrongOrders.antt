-- Both orders of the steps go wrong.
use Rattle.std.proofs.Common.{◌≡◌, ℕ, ◌<◌, ◌≤◌, subst, List, length}
use Rattle.std.proofs.lemmas.List.Elements.{Contains-get_or}
use Rattle.ftl_cursors.specs.item_cursor.ItemSteps.{AreStepsOf, no_step}
use Rattle.ftl_model.specs.layout.AttributeGrammar.{AttributeGrammar}
use Rattle.ftl_model.specs.layout.Solves.{Instance}
use Rattle.ftl_model.specs.layout.Tree.{Forest}
use Rattle.ftl_model.specs.layout.TreeOf.{IsTreeOf}
use Rattle.ftl_order.specs.declared.steps.step.Step.{Step}
use Rattle.ftl_order.specs.orders.Lawful.{IsLawful}
use Rattle.ftl_order.specs.orders.Schedule.{EachStandsOnce}
use Rattle.ftl_order.specs.steps.Steps.{IsStepOf, target_of}
use Rattle.ftl_example.specs.examples.ShownSteps.{step_in}
use Rattle.ftl_example.proofs.examples.ShownOrders.{reader_no_later}
use Rattle.ftl_example.proofs.examples.StepTurns.{target_step}
use Rattle.ftl_nests.specs.Hosted.{MustPrecedeWithNests}
use Rattle.ftl_nests.specs.Nests.{AreSidesKept, NestingSchedule, nest_placing_of, outer_schedule}
use Rattle.ftl_example.specs.nests.examples.EarlySteps.{early_steps}
use Rattle.ftl_example.specs.nests.examples.ShownOrders.{ComputeWrongly}
use Rattle.ftl_example.specs.nests.orders.EarlyWithNests.{EarlyFirstIsFreeWithNests, early_first_with_nests}
use Rattle.ftl_example.specs.nests.orders.NestOrders.{PlainOrderIsLegalWithNests, plain_order_with_nests}
use Rattle.ftl_example.proofs.nests.examples.EarlySteps.{early_are}

module _ (g : AttributeGrammar) (law : IsLawful g) (s : NestingSchedule) (once : EachStandsOnce g (outer_schedule s))
    (keeps : AreSidesKept g s) (t : Forest) (fits : IsTreeOf g t)
    (steps : List Step) (are : AreStepsOf g t (plain_order_with_nests g s t) steps) (m n : ℕ) (m_in : m < length steps)
    (n_in : n < length steps) where
  abbrev reading : Instance
  reading = target_of g t (step_in steps m)

  abbrev written : Instance
  written = target_of g t (step_in steps n)

  pub step_is : (k : ℕ) → k < length steps → IsStepOf g t (step_in steps k)
  step_is k within = are.steps_are (step_in steps k) (Contains-get_or steps k no_step within)

  -- the plain one, where it doesn't have the writer first
  pub plain_wrong : PlainOrderIsLegalWithNests → m ≤ n → ComputeWrongly g s t reading written steps
  plain_wrong plain low =
      let legal = plain g s t law once fits in
      let order = plain_order_with_nests g s t in
      (order, are, (legal, reader_no_later g t order steps are legal.once m n low n_in))

  -- and that with the early ones first
  pub early_wrong : EarlyFirstIsFreeWithNests → (MustPrecedeWithNests g t (nest_placing_of s) written reading → ⊥)
      → (first : List Step) → early_steps g (nest_placing_of s) t (step_in steps m) steps ≡ first
      → ComputeWrongly g s t reading written first
  early_wrong early free first is =
      let all = early g s t reading written law once keeps fits
      (target_step g law t fits (step_in steps m) (step_is m m_in))
      (target_step g law t fits (step_in steps n) (step_is n n_in)) free in (
        early_first_with_nests g s t reading,
        subst (AreStepsOf g t (early_first_with_nests g s t reading)) is
            (early_are g (nest_placing_of s) t (step_in steps m) (plain_order_with_nests g s t) steps are),
        (all.0, all.1),
      )
