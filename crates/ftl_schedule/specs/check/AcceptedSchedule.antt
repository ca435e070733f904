-- A schedule with the grammar for which it was accepted.
use Rattle.ftl_deps.specs.reads.Meant.{meant}
use Rattle.ftl_meaning.specs.faults.Checked.{CheckedGrammar}
use Rattle.ftl_order.specs.faults.FaultLaws.{AreComputed}
use Rattle.ftl_order.specs.orders.Ordered.{IsOrdered}
use Rattle.ftl_schedule.specs.stages.PassLimits.{IsWithinPassLimits}
use Rattle.ftl_schedule.specs.stages.Stages.{stages_of}
use Rattle.ftl_schedule.specs.declared.stages.types.Schedule.{Schedule}

-- a checked grammar, and a schedule of its attributes
pub record AcceptedSchedule : Type 0 where
  pub checked : CheckedGrammar
  pub schedule : Schedule

-- its entries are computed attributes, it is within the limits on passes, and it is ordered
pub record IsAccepted (c : CheckedGrammar) (s : Schedule) : Type 0 where
  pub computed : AreComputed (meant c) (stages_of s)
  pub limits : IsWithinPassLimits (stages_of s)
  pub ordered : IsOrdered (meant c) (stages_of s)
