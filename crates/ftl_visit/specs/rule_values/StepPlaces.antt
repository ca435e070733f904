-- Where a step of a visit stands, by how many steps each operation has.
use Rattle.std.specs.Prelude.{◌≡◌, ℕ, ◌+◌, ◌<◌, List, length, take, slice_index_or}
use Rattle.std.specs.List.{sum_by}
use Rattle.ftl_visit.specs.declared.rule_values.places.StepPlace.{StepPlace}

-- the operations before it have so many steps that it is this step of its own
pub record IsStepPlace (lengths : List ℕ) (step : ℕ) (place : StepPlace) : Type 0 where
  pub op : place.op < length lengths
  pub before : sum_by (λ n. n) (take place.op lengths) + place.kid ≡ step
  pub kid : place.kid < slice_index_or lengths place.op 0
