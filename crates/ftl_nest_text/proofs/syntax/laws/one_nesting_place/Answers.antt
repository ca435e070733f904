use Rattle.ftl_tokens.proofs.reading.PlacesOnce.{one_place}
use Rattle.ftl_nest_text.proofs.syntax.laws.one_nesting_place.Goals as goal

pub returns : goal.returns
returns c = record { same = λ scanned at other a b. one_place a b }
