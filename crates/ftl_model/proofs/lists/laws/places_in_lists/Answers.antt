use Rattle.ftl_model.proofs.lists.Places.{place_within, place_is, place_of_entry}
use Rattle.ftl_model.proofs.lists.laws.places_in_lists.Goals as goal

pub returns : goal.returns
returns c = record { within = place_within; is = place_is; back = λ xs d n e below. place_of_entry xs d n e below }
