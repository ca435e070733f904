use Rattle.ftl_tokens.proofs.writing.WrittenScan.{says_written}
use Rattle.ftl_tokens.proofs.writing.SpacedLemmas.{spaced_are_readable}
use Rattle.ftl_tokens.proofs.writing.laws.law_of_writing.Goals as goal

pub returns : goal.returns
returns c = record { scanned = says_written; spaced = spaced_are_readable }
