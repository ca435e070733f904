-- What faults of schedules have to do with ordered schedules.
use Rattle.std.specs.Prelude.{◌≡◌, ◌≢◌, ◌↔◌, ℕ, ◌<◌, true, Contains, None}
use Rattle.ftl_model.specs.layout.AttributeGrammar.{AttributeGrammar, RuleName, input}
use Rattle.ftl_order.specs.orders.Lawful.{IsLawful, IsRule, class_of_rule}
use Rattle.ftl_order.specs.orders.Ordered.{IsOrdered}
use Rattle.ftl_order.specs.orders.Schedule.{Placing, Schedule, entries}
use Rattle.ftl_order.specs.dependencies.DepReads.{rule_reads}
use Rattle.ftl_order.specs.dependencies.Writers.{is_writer}
use Rattle.ftl_order.specs.declared.dependencies.dep_read.DepRead.{DepRead}
use Rattle.ftl_order.specs.faults.FirstFault.{first_fault}
use Rattle.ftl_order.specs.faults.OrderedReads.{is_ordered_read}

-- each entry is a computed attribute of the grammar
abbrev pub AreComputed : AttributeGrammar → Schedule → Type 0
AreComputed g s = (a : ℕ) → Contains (entries s) a → (a < g.attribute_count) × (g.sort a ≢ input)

-- a schedule of computed attributes has no fault exactly where it is ordered
abbrev pub FaultlessIsOrdered : Type 0
FaultlessIsOrdered =
    (g : AttributeGrammar) (s : Schedule) → IsLawful g → AreComputed g s → (first_fault g s ≡ None) ↔ IsOrdered g s

-- of a read's writers, all or none are ordered
abbrev pub OneWriterTells : Type 0
OneWriterTells =
    (g : AttributeGrammar) (at : Placing) (w v u : RuleName) (d : DepRead) → IsLawful g → IsRule g w
    → Contains (rule_reads g w) d
    → is_writer g (class_of_rule w) d v ≡ true → is_writer g (class_of_rule w) d u ≡ true
    → is_ordered_read g at d v w ≡ is_ordered_read g at d u w
