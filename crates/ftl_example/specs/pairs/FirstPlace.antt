-- The first read that is not ordered, by rule and place.
use Rattle.std.specs.Prelude.{◌≡◌, ℕ, ◌<◌, length, Option, Some, None}
use Rattle.ftl_model.specs.layout.AttributeGrammar.{AttributeGrammar}
use Rattle.ftl_order.specs.dependencies.DepReads.{rule_reads}
use Rattle.ftl_order.specs.faults.FirstFault.{unordered_writer}
use Rattle.ftl_order.specs.orders.Schedule.{Placing}
use Rattle.ftl_schedule.specs.check.RuleAt.{read_at, rule_at}

-- how many reads a rule has
abbrev pub read_count : AttributeGrammar → (rule : ℕ) → ℕ
read_count g rule = length (rule_reads g (rule_at g rule))

-- the first writer of the read at a place of a rule that the schedule doesn't have earlier
abbrev pub late_writer : AttributeGrammar → Placing → (rule place : ℕ) → Option ℕ
late_writer g at rule place =
    unordered_writer g at (rule_at g rule) (read_at (rule_reads g (rule_at g rule)) place)

-- the rule has none in the first places
abbrev pub HasNone : AttributeGrammar → Placing → (rule places : ℕ) → Type 0
HasNone g at rule places = (j : ℕ) → j < places → late_writer g at rule j ≡ None

-- the read at this place of the rule is the first that has one, and this is it
pub record IsFirstPlace (g : AttributeGrammar) (at : Placing) (rule place writer : ℕ) : Type 0 where
  pub within : place < read_count g rule
  pub here : late_writer g at rule place ≡ Some writer
  pub first : HasNone g at rule place

-- and no rule before this one has one
pub record IsFirstRead (g : AttributeGrammar) (at : Placing) (rule place writer : ℕ) : Type 0 where
  pub known : rule < length g.rules
  pub in_rule : IsFirstPlace g at rule place writer
  pub earlier : (m : ℕ) → m < rule → HasNone g at m (read_count g m)
