-- The lines that refuse schedules.
use Rattle.std.specs.Prelude.{ℕ, List, [], ◌++◌, codes}
use Rattle.std.specs.Fmt.{decimal}
use Rattle.std.specs.List.{flat_map}
use Rattle.ftl_page.specs.declared.sections.fault.Section.TheVariants.{Schedule}
use Rattle.ftl_grammar.specs.declared.syntax.rules.Grammar.{Grammar}
use Rattle.ftl_schedule.specs.declared.names.fault.ScheduleFault.{ScheduleFault}
use Rattle.ftl_schedule.specs.declared.names.fault.ScheduleFault.TheVariants as read
use Rattle.ftl_order.specs.declared.faults.fault.VerifyFault.{VerifyFault}
use Rattle.ftl_order.specs.declared.faults.fault.VerifyFault.TheVariants as verify
use Rattle.ftl_answer.specs.refusals.Names.{attribute_text, dotted, rule_text_at}
use Rattle.ftl_answer.specs.refusals.TextLines.{syntax_at}

-- the first fault of a schedule as it is read
abbrev pub schedule_line : ScheduleFault → List ℕ
schedule_line (read.Syntax at) = syntax_at Schedule at
schedule_line (read.TooManyPasses count) = codes "refused schedule: too many passes: " ++ decimal count
schedule_line (read.TooManyBeside stage count) =
    codes "refused schedule: too many passes in stage " ++ (decimal stage ++ (codes ": " ++ decimal count))
schedule_line (read.UnknownAttribute owner attr) =
    codes "refused schedule: unknown attribute " ++ dotted owner attr
schedule_line (read.UnknownHost name) = codes "refused schedule: unknown class " ++ name
schedule_line (read.OpenNest host) = codes "refused schedule: nest " ++ (host ++ codes " is not closed")
schedule_line (read.NestAttribute owner attr) =
    codes "refused schedule: " ++ (dotted owner attr ++ codes " on the wrong side of a nest")
schedule_line read.OutOfMemory = []

-- the first fault of a schedule of a grammar
abbrev pub verify_line : Grammar → VerifyFault → List ℕ
verify_line g (verify.Twice a) = codes "refused schedule: " ++ (attribute_text g a ++ codes " twice")
verify_line g (verify.Missing a) = codes "refused schedule: " ++ (attribute_text g a ++ codes " missing")
verify_line g (verify.Unordered reader writer) =
    codes "refused schedule: " ++ (rule_text_at g reader ++ (codes " reads " ++ (rule_text_at g writer ++ codes " unordered")))
verify_line g verify.OutOfMemory = []

-- an attribute after a space
abbrev pub spaced_text : Grammar → (attribute : ℕ) → List ℕ
spaced_text g a = codes " " ++ attribute_text g a

-- the attributes at which the search for a schedule is stuck
abbrev pub stuck_line : Grammar → (attributes : List ℕ) → List ℕ
stuck_line g attributes = codes "refused schedule: stuck" ++ flat_map (spaced_text g) attributes
