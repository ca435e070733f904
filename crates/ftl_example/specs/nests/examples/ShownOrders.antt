-- Orders that go wrong under a schedule with nests, as steps and by number.
use Rattle.std.specs.Prelude.{◌≡◌, ℕ, List, map}
use Rattle.ftl_cursors.specs.item_cursor.ItemSteps.{AreStepsOf}
use Rattle.ftl_model.specs.lists.Lists.{StandsBefore}
use Rattle.ftl_model.specs.layout.AttributeGrammar.{AttributeGrammar}
use Rattle.ftl_model.specs.layout.Solves.{Instance}
use Rattle.ftl_model.specs.layout.Table.{instance_number}
use Rattle.ftl_model.specs.layout.Tree.{Forest}
use Rattle.ftl_order.specs.declared.steps.step.Step.{Step}
use Rattle.ftl_order.specs.orders.Pairs.{Pair}
use Rattle.ftl_example.specs.shows.Shows.{Shows}
use Rattle.ftl_nests.specs.NestLaws.{IsLegalWithNests}
use Rattle.ftl_nests.specs.Nests.{NestingSchedule}

-- the order is legal, and does not have w before r
abbrev pub IsWrongOrder : AttributeGrammar → NestingSchedule → Forest → (r w : Instance) → List Instance → Type 0
IsWrongOrder g s t r w order = IsLegalWithNests g s t order × (StandsBefore order w r → ⊥)

-- the steps compute all instances in such an order
abbrev pub ComputeWrongly : AttributeGrammar → NestingSchedule → Forest → (r w : Instance) → List Step → Type 0
ComputeWrongly g s t r w steps =
    (order : List Instance) × AreStepsOf g t order steps × IsWrongOrder g s t r w order

-- by number, two instances that show the pair, and such an order
pub record IsNumberedOrder (g : AttributeGrammar) (s : NestingSchedule) (pair : Pair) (t : Forest) (reader writer : ℕ)
    (order : List ℕ) : Type 0 where
  pub reading : Instance
  pub written : Instance
  pub steps : List Instance
  pub shows : Shows g t pair reading written
  pub wrong : IsWrongOrder g s t reading written steps
  pub reader_is : reader ≡ instance_number g t reading
  pub writer_is : writer ≡ instance_number g t written
  pub order_is : order ≡ map (instance_number g t) steps
