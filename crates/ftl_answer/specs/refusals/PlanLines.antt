-- The lines that refuse documents whose stages read too much.
use Rattle.std.specs.Prelude.{ℕ, List, [], ◌++◌, codes}
use Rattle.std.specs.Fmt.{decimal}
use Rattle.ftl_step_value.specs.declared.limits.faults.fault.PlanFault.{PlanFault}
use Rattle.ftl_step_value.specs.declared.limits.faults.fault.PlanFault.TheVariants as fault

-- the first fault of a plan
abbrev pub plan_line : PlanFault → List ℕ
plan_line (fault.TooManyReads stage count) =
    codes "refused document: too many reads in stage " ++ (decimal stage ++ (codes ": " ++ decimal count))
plan_line (fault.StepTooWide stage count) =
    codes "refused document: too many reads of one rule in stage " ++ (decimal stage ++ (codes ": " ++ decimal count))
plan_line fault.OutOfMemory = []
