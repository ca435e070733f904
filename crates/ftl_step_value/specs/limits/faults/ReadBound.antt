-- How much steps read at most, told by counts alone.
use Rattle.std.specs.Prelude.{◌≡◌, ℕ, ◌≤◌, length, None}
use Rattle.ftl_model.specs.layout.Limits.{most_part_reads}
use Rattle.ftl_model.specs.layout.AttributeGrammar.{AttributeGrammar, Parts, first_then, fold_over, plain}
use Rattle.ftl_model.specs.layout.Path.{Has, Path, kids_at}
use Rattle.ftl_model.specs.layout.Tree.{Forest}
use Rattle.ftl_order.specs.orders.Schedule.{Schedule}
use Rattle.ftl_step_value.specs.limits.faults.PlanFaults.{first_fault}
use Rattle.ftl_step_value.specs.declared.limits.faults.bound.RuleBound.{RuleBound}

-- at most so many reads in a part that is read once, and so many in a fold's step, which is read at each kid
abbrev pub PartsWithin : RuleBound → Parts → Type 0
PartsWithin b (plain reads) = length reads ≤ b.once
PartsWithin b (first_then first later) = (length first ≤ b.once) × (length later ≤ b.once)
PartsWithin b (fold_over child start step) = (length start ≤ b.once) × (length step ≤ b.each)

-- the second bound is at least the first
pub record IsNoLess (less more : RuleBound) : Type 0 where
  pub once : less.once ≤ more.once
  pub each : less.each ≤ more.each

-- no more than 256 reads, as the parts of lawful rules have at most
pub record IsWithinReadLimit (b : RuleBound) : Type 0 where
  pub once : b.once ≤ most_part_reads
  pub each : b.each ≤ most_part_reads

-- no node has more kids in a child
abbrev pub KidsWithin : Forest → (most : ℕ) → Type 0
KidsWithin t n = (p : Path) (child : ℕ) → Has t p → kids_at t p child ≤ n

-- there is no fault, whatever the schedule
abbrev pub HasNoFault : AttributeGrammar → Forest → Type 0
HasNoFault g t = (s : Schedule) → first_fault g s t ≡ None
