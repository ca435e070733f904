-- The kids at hand as code has them.
use Rattle.std.specs.Prelude.{ℕ, List, [], ◌∷◌}
use Rattle.std.specs.List.{range_with_len}
use Rattle.ftl_example.specs.declared.examples.shown_steps.AtHand.{AtHand}
use Rattle.ftl_example.specs.declared.examples.shown_steps.AtHand.TheVariants as hand

-- their numbers
abbrev pub hand_meant : AtHand → List ℕ
hand_meant hand.Nothing = []
hand_meant (hand.One k) = k ∷ []
hand_meant (hand.Each n) = range_with_len 0 n
