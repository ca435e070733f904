-- A schedule whose first fault is a pair has one place for each attribute.
use Rattle.std.proofs.Common.{◌≡◌, ap, Ok}
use Rattle.ftl_deps.specs.reads.Meant.{meant}
use Rattle.ftl_meaning.specs.faults.Checked.{CheckedGrammar}
use Rattle.ftl_nest_check.specs.declared.stages.types.NestingSchedule.{NestingSchedule}
use Rattle.ftl_nest_check.specs.places.NestPlaced.{verdict_on, without_twice}
use Rattle.ftl_nest_check.specs.stages.Nested.{nests_of}
use Rattle.ftl_example.proofs.nests.pairs.NestFaultPairs.{is_refused}
use Rattle.ftl_answer.specs.reading.requests.Explained.{HasFaultPair}

-- no attribute of it has two entries
pub none_twice : (c : CheckedGrammar) (s : NestingSchedule) → HasFaultPair c s → without_twice s ≡ Ok s
none_twice c s (reader, writer, e) =
    ap (λ o. verdict_on o s) (is_refused (meant c) (nests_of s) reader writer e).twice
