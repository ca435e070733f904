use Rattle.ftl_visit.proofs.compiled.SpelledCode.{readable_has_code, spelled_has_code}
use Rattle.ftl_visit.proofs.compiled.spelled.spelled_grammars_have_code.Goals as goal

pub returns : goal.returns
returns c = record { code = spelled_has_code; readable = readable_has_code }
