use Rattle.ftl_refusals.proofs.places.PlaceLemmas.{byte_back}
use Rattle.ftl_refusals.proofs.places.laws.byte_comes_back.Goals as goal

pub returns : goal.returns
returns c = record { back = byte_back }
