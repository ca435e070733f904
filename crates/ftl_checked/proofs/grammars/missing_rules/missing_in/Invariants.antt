use Rattle.std.proofs.Common.{◌≡◌, ◌+◌, drop}
use Rattle.std.specs.Option.{option_map}
use Rattle.ftl_meaning.specs.faults.FirstFault.{first_of}
use Rattle.ftl_checked.specs.grammars.MissingRules.{kid_in, missing_of}
use Rattle.ftl_meaning.specs.faults.Numbering.{numbered}
use Rattle.ftl_checked.proofs.grammars.missing_rules.missing_in.Given as goal

abbrev pub invariant-loop-place : goal.invariant-loop-place
invariant-loop-place l =
    first_of (missing_of l.grammar l.number (option_map kid_in l.kid)) (numbered l.start l.attrs)
    ≡ first_of (missing_of l.grammar l.number (option_map kid_in l.kid)) (numbered (l.start + l.place) (drop l.place l.attrs))
