-- What a check of one condition answers.
use Rattle.std.specs.Prelude.{◌≡◌, ◌≢◌, Option, Some, None, Result, Ok, Err}
use Rattle.ftl_meaning.specs.declared.faults.fault.GrammarFault.{GrammarFault}
use Rattle.ftl_meaning.specs.declared.faults.fault.GrammarFault.TheVariants as fault

-- success exactly where there is no fault, and else the fault, unless memory ran out
abbrev pub Finds : Option GrammarFault → Result (Unit {0}) GrammarFault → Type 0
Finds expected (Ok done) = expected ≡ None
Finds expected (Err e) = e ≢ fault.OutOfMemory → expected ≡ Some e

-- the same of a look at all rules, which says what is known of them
abbrev pub FindsInfos : {X : Type 0} → Option GrammarFault → Result X GrammarFault → Type 0
FindsInfos expected (Ok infos) = expected ≡ None
FindsInfos expected (Err e) = e ≢ fault.OutOfMemory → expected ≡ Some e
