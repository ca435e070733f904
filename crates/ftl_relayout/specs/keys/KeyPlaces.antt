-- What the keys of an attribute's instances have in common.
use Rattle.std.specs.Prelude.{◌≡◌, ℕ, ◌<◌, List, length, slice_index_or}
use Rattle.ftl_deps.specs.reads.Meant.{meant}
use Rattle.ftl_meaning.specs.faults.Checked.{CheckedGrammar}
use Rattle.ftl_meaning.specs.grammars.GrammarOf.{sort_of}
use Rattle.ftl_schedule.specs.declared.stages.types.Schedule.{Schedule}
use Rattle.ftl_schedule.specs.stages.Stages.{kind_of}
use Rattle.ftl_relayout.specs.declared.keys.places.KeyPlace.{KeyPlace}
use Rattle.ftl_relayout.specs.keys.KeysHere.{placing}

-- where the schedule has the attribute, and of which kind that is
pub record IsKeyPlace (c : CheckedGrammar) (s : Schedule) (attribute : ℕ) (x : KeyPlace) : Type 0 where
  pub stage : x.stage ≡ (placing s attribute).stage
  pub pass : kind_of x.pass ≡ (placing s attribute).kind
  pub index : x.index ≡ (placing s attribute).index
  pub kind : sort_of x.kind ≡ (meant c).sort attribute

-- that of each attribute, by its number
pub record AreKeyPlaces (c : CheckedGrammar) (s : Schedule) (xs : List KeyPlace) : Type 0 where
  pub long : length xs ≡ (meant c).attribute_count
  pub each : (a : ℕ) (d : KeyPlace) → a < length xs → IsKeyPlace c s a (slice_index_or xs a d)
