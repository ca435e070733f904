-- The first that is found along a list.
use Rattle.std.specs.Prelude.{List, [], ◌∷◌, Option, None}
use Rattle.std.specs.Option.{option_or}

-- what is found at the first entry at which something is
abbrev pub first_along : {X F : Type 0} → (X → Option F) → List X → Option F
first_along found_at [] = None
first_along found_at (x ∷ xs) = option_or (found_at x) (first_along found_at xs)
