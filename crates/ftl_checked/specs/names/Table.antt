-- What the map of a table of names holds.
use Rattle.std.specs.Prelude.{◌≡◌, ℕ, List, String}
use Rattle.std.specs.List.{position}
use Rattle.std.specs.Str.{bytes_eq}
use Rattle.std.specs.HashMap.{HashMap, get_by_text}

-- the map has the first place of each name of the list, and no other name
abbrev pub FindsAll : {Y S : Type 0} → List (List ℕ) → HashMap (String Y) ℕ S → Type 0
FindsAll names places = (name : List ℕ) → get_by_text places name ≡ position (bytes_eq name) names
