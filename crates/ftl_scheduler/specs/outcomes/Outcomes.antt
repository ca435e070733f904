-- What is found of a grammar, and the numbers that pass a test.
use Rattle.std.specs.Prelude.{◌≡◌, ◌↔◌, ℕ, ◌<◌, Bool, true, List, Contains}
use Rattle.ftl_model.specs.lists.Lists.{AreDistinct, NoneFalls}
use Rattle.ftl_model.specs.layout.AttributeGrammar.{AttributeGrammar}
use Rattle.ftl_order.specs.automatic.Automatic.{IsAutomatic, IsStuck}
use Rattle.ftl_schedule.specs.stages.Stages.{stages_of}
use Rattle.ftl_scheduler.specs.declared.outcomes.outcome.Outcome.{Outcome}
use Rattle.ftl_scheduler.specs.declared.outcomes.outcome.Outcome.TheVariants as outcomes

-- it is the automatic schedule, or the attributes at which the grammar is stuck
abbrev pub IsOutcome : AttributeGrammar → Outcome → Type 0
IsOutcome g (outcomes.Found schedule) = IsAutomatic g (stages_of schedule)
IsOutcome g (outcomes.Stuck attrs) = IsStuck g attrs

-- the numbers below a bound that pass a test, in their order
pub record Passes (test : ℕ → Bool) (bound : ℕ) (list : List ℕ) : Type 0 where
  pub distinct : AreDistinct list
  pub ascending : NoneFalls (λ a. a) list
  pub are : (a : ℕ) → Contains list a ↔ ((a < bound) × (test a ≡ true))
