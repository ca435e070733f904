use Rattle.ftl_step_value.proofs.neighbours.NotesPlaces.{notes_places_are}
use Rattle.ftl_step_value.proofs.neighbours.laws.places_of_notes.Goals as goal

pub returns : goal.returns
returns c = record { places = notes_places_are }
