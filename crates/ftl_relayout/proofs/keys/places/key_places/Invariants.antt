use Rattle.std.proofs.Common.{◌≡◌, ℕ, ◌<◌, length, get_or}
use Rattle.ftl_relayout.specs.declared.keys.places.KeyPlace.{KeyPlace}
use Rattle.ftl_relayout.specs.keys.KeyPlaces.{IsKeyPlace}
use Rattle.ftl_relayout.proofs.keys.places.key_places.Given as goal

-- those of the attributes before this one
abbrev pub invariant-loop-attr : goal.invariant-loop-attr
invariant-loop-attr l = record {
  long : length l.places.items ≡ l.attr;
  each : (a : ℕ) (d : KeyPlace) → a < length l.places.items
      → IsKeyPlace l.checked l.accepted.schedule a (get_or l.places.items a d);
}
