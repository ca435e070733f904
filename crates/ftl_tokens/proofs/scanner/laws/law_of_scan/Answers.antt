use Rattle.ftl_tokens.proofs.scanner.OneScan.{agrees, one}
use Rattle.ftl_tokens.proofs.scanner.ScansLemmas.{scans}
use Rattle.ftl_tokens.proofs.scanner.laws.law_of_scan.Goals as goal

pub returns : goal.returns
returns c = record { scans = scans; agrees = agrees; one = one }
