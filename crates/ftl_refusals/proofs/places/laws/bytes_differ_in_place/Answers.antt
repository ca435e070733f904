use Rattle.ftl_refusals.proofs.places.PlaceLemmas.{places_differ}
use Rattle.ftl_refusals.proofs.places.laws.bytes_differ_in_place.Goals as goal

pub returns : goal.returns
returns c = record { differ = places_differ }
