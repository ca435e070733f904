-- What the check of a schedule with nests answers, and what an accepted one is.
use Rattle.std.specs.Prelude.{◌≡◌, Result}
use Rattle.ftl_model.specs.layout.AttributeGrammar.{AttributeGrammar}
use Rattle.ftl_model.specs.layout.Tree.{Forest}
use Rattle.ftl_model.specs.layout.TreeOf.{IsTreeOf}
use Rattle.ftl_deps.specs.reads.Meant.{meant}
use Rattle.ftl_meaning.specs.faults.Checked.{CheckedGrammar}
use Rattle.ftl_order.specs.faults.FaultLaws.{AreComputed}
use Rattle.ftl_order.specs.declared.faults.fault.VerifyFault.{VerifyFault}
use Rattle.ftl_schedule.specs.check.AcceptedSchedule as flat
use Rattle.ftl_schedule.specs.stages.Stages.{stages_of}
use Rattle.ftl_nests.specs.Nests as nests
use Rattle.ftl_nests.specs.Nests.{IsNestOrdered, outer_schedule}
use Rattle.ftl_nest_check.specs.check.NestFault.{first_nest_fault}
use Rattle.ftl_nest_check.specs.check.WithoutNests.{without_nests}
use Rattle.ftl_nest_check.specs.places.NestPlaced.{verdict_on}
use Rattle.ftl_nest_check.specs.stages.Nested.{AreNestsKept, IsWithinNestLimits, nests_of}
use Rattle.ftl_nest_check.specs.declared.stages.types.NestingSchedule.{NestingSchedule}

-- the schedule, or its first fault
abbrev pub verified_with_nests : AttributeGrammar → NestingSchedule → Result NestingSchedule VerifyFault
verified_with_nests g s = verdict_on (first_nest_fault g (nests_of s)) s

-- on each tree of the grammar, of any size
abbrev pub OnEachTree : AttributeGrammar → nests.NestingSchedule
    → (AttributeGrammar → nests.NestingSchedule → Forest → Type 0) → Type 0
OnEachTree g s P = (t : Forest) → IsTreeOf g t → P g s t

-- what is asked of a schedule before its pairs are looked at: its entries are computed attributes, it is within the
-- limits on passes, and it keeps the sides of its nests
pub record MayBeVerified (g : AttributeGrammar) (s : nests.NestingSchedule) : Type 0 where
  pub computed : AreComputed g (outer_schedule s)
  pub limits : IsWithinNestLimits s
  pub kept : AreNestsKept g s

-- a checked grammar, and a schedule of its attributes
pub record AcceptedNestingSchedule : Type 0 where
  pub checked : CheckedGrammar
  pub schedule : NestingSchedule

-- it may be verified, and it is ordered
pub record IsNestAccepted (c : CheckedGrammar) (s : NestingSchedule) : Type 0 where
  pub may : MayBeVerified (meant c) (nests_of s)
  pub ordered : IsNestOrdered (meant c) (nests_of s)

-- this is the schedule without nests, accepted as well
pub record IsFlatOf (accepted : flat.AcceptedSchedule) (c : CheckedGrammar) (s : NestingSchedule) : Type 0 where
  pub grammar : accepted.checked ≡ c
  pub flat : stages_of accepted.schedule ≡ without_nests (nests_of s)
