-- The first fault of a schedule: an attribute with two entries, then a computed one without an entry, then a read whose
-- writer the schedule doesn't have earlier.
use Rattle.std.specs.Prelude.{ℕ, ◌&&◌, not, if◌then◌else◌, List, [], ◌∷◌, Option, Some, None}
use Rattle.std.specs.List.{enumerate_from, position, range_with_len}
use Rattle.std.specs.Option.{option_or}
use Rattle.ftl_model.specs.lists.FirstAlong.{first_along}
use Rattle.ftl_model.specs.lists.Lists.{is_listed}
use Rattle.ftl_model.specs.layout.AttributeGrammar.{AttributeGrammar, RuleName, is_input}
use Rattle.ftl_order.specs.orders.Lawful.{class_of_rule}
use Rattle.ftl_order.specs.orders.Schedule.{Placing, Schedule, entries, placing_of}
use Rattle.ftl_order.specs.dependencies.DepReads.{rule_reads}
use Rattle.ftl_order.specs.dependencies.Writers.{is_writer}
use Rattle.ftl_order.specs.declared.dependencies.dep_read.DepRead.{DepRead}
use Rattle.ftl_order.specs.faults.OrderedReads.{is_ordered_read}
use Rattle.ftl_order.specs.declared.faults.fault.VerifyFault.{VerifyFault}
use Rattle.ftl_order.specs.declared.faults.fault.VerifyFault.TheVariants.{Twice, Missing, Unordered}

-- the first entry whose attribute stands in an earlier one, where these stand before
abbrev pub first_twice : (before : List ℕ) → List ℕ → Option VerifyFault
first_twice before [] = None
first_twice before (a ∷ later) = if is_listed before a then Some (Twice a) else first_twice (a ∷ before) later

-- the attribute is computed and has no entry
abbrev pub missing_fault : AttributeGrammar → List ℕ → (attribute : ℕ) → Option VerifyFault
missing_fault g listed a = if not (is_input (g.sort a)) && not (is_listed listed a) then Some (Missing a) else None

-- the first computed attribute without an entry, by number
abbrev pub first_missing : AttributeGrammar → List ℕ → Option VerifyFault
first_missing g listed = first_along (missing_fault g listed) (range_with_len 0 g.attribute_count)

-- the first rule by number that writes what is read and that the schedule doesn't have earlier
abbrev pub unordered_writer : AttributeGrammar → Placing → (reader : RuleName) → DepRead → Option ℕ
unordered_writer g at w d =
    position (λ v. is_writer g (class_of_rule w) d v && not (is_ordered_read g at d v w)) g.rules

-- the fault of a read, by that writer
abbrev pub fault_by : (reader : ℕ) → Option ℕ → Option VerifyFault
fault_by reader None = None
fault_by reader (Some writer) = Some (Unordered reader writer)

-- the first fault of a rule's reads, in the order of the text
abbrev pub reads_fault : AttributeGrammar → Placing → ℕ × RuleName → Option VerifyFault
reads_fault g at r = first_along (λ d. fault_by r.0 (unordered_writer g at r.1 d)) (rule_reads g r.1)

-- the first pair that is not ordered: by reader, then in the order of its text, then by writer
abbrev pub first_unordered : AttributeGrammar → Placing → Option VerifyFault
first_unordered g at = first_along (reads_fault g at) (enumerate_from 0 g.rules)

-- the first fault of a schedule
abbrev pub first_fault : AttributeGrammar → Schedule → Option VerifyFault
first_fault g s =
    option_or (first_twice [] (entries s)) (option_or (first_missing g (entries s)) (first_unordered g (placing_of s)))
