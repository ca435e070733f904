-- What is said of a grammar for which no schedule is found.
use Rattle.ftl_model.specs.layout.AttributeGrammar.{AttributeGrammar}
use Rattle.ftl_order.specs.automatic.Automatic.{IsStuck}
use Rattle.ftl_nests.specs.Nests.{IsNestOrdered, NestingSchedule}
use Rattle.ftl_scheduler.specs.declared.finding.fault.FindFault.{FindFault}
use Rattle.ftl_scheduler.specs.declared.finding.fault.FindFault.TheVariants as fault

-- it is stuck at these attributes, unless memory ran out
abbrev pub IsStuckBy : AttributeGrammar → FindFault → Type 0
IsStuckBy g (fault.Stuck attrs) = IsStuck g attrs
IsStuckBy g fault.OutOfMemory = Unit {0}

-- some schedule is ordered, with nests or without, of any stages and passes
abbrev pub SomeIsOrdered : AttributeGrammar → Type 0
SomeIsOrdered g = (s : NestingSchedule) × IsNestOrdered g s

-- no schedule is ordered, unless memory ran out
abbrev pub NoneIsOrderedBy : AttributeGrammar → FindFault → Type 0
NoneIsOrderedBy g (fault.Stuck attrs) = SomeIsOrdered g → ⊥
NoneIsOrderedBy g fault.OutOfMemory = Unit {0}
