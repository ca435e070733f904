-- What a call leaves of the bytes that a source has.
use Rattle.std.specs.Prelude.{◌≡◌, ℕ, ◌≤◌, Option, None, Some, List, length, drop}
use Rattle.ftl_edge.specs.Counts.{RoseBy}

-- what is left is what was left, where it was told, without as many bytes from the first on as the count of those that
-- were taken rose by
abbrev pub TakesFront : Option (List ℕ) → Option (List ℕ) → (taken taken_now : ℕ) → Type 0
TakesFront None new taken taken_now = Unit {0}
TakesFront (Some left) new taken taken_now =
    (n : ℕ) × (n ≤ length left) × (new ≡ Some (drop n left)) × RoseBy n taken taken_now
