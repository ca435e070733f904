-- The first read that a schedule with nests doesn't order, by rule and place.
use Rattle.std.specs.Prelude.{◌≡◌, ℕ, ◌<◌, length, Option, Some, None}
use Rattle.ftl_model.specs.layout.AttributeGrammar.{AttributeGrammar}
use Rattle.ftl_order.specs.dependencies.DepReads.{rule_reads}
use Rattle.ftl_schedule.specs.check.RuleAt.{read_at, rule_at}
use Rattle.ftl_example.specs.pairs.FirstPlace.{read_count}
use Rattle.ftl_nests.specs.Nests.{NestPlacing}
use Rattle.ftl_regions.specs.pairs.NestReads.{refused_writer}

-- the first writer of the read at a place of a rule that the schedule doesn't have earlier
abbrev pub late_writer : AttributeGrammar → NestPlacing → (rule place : ℕ) → Option ℕ
late_writer g at rule place =
    refused_writer g at (rule_at g rule) (read_at (rule_reads g (rule_at g rule)) place)

-- the rule has none in the first places
abbrev pub HasNone : AttributeGrammar → NestPlacing → (rule places : ℕ) → Type 0
HasNone g at rule places = (j : ℕ) → j < places → late_writer g at rule j ≡ None

-- the read at this place of the rule is the first that has one, and this is it
pub record IsFirstPlace (g : AttributeGrammar) (at : NestPlacing) (rule place writer : ℕ) : Type 0 where
  pub within : place < read_count g rule
  pub here : late_writer g at rule place ≡ Some writer
  pub first : HasNone g at rule place

-- and no rule before this one has one
pub record IsFirstRead (g : AttributeGrammar) (at : NestPlacing) (rule place writer : ℕ) : Type 0 where
  pub known : rule < length g.rules
  pub in_rule : IsFirstPlace g at rule place writer
  pub earlier : (m : ℕ) → m < rule → HasNone g at m (read_count g m)
