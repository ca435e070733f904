-- The steps of an inorder pass over a worked page, typed by hand.
use Rattle.std.specs.Prelude.{ℕ, List, [], ◌∷◌}
use Rattle.ftl_order.specs.declared.steps.step.Step.{Step}

-- a rule that runs at a node for this kid
abbrev pub runs : (node rule kid : ℕ) → Step
runs n r k = record { node = n; rule = r; kid = k }

-- over a sheet (node 0) with a column (1) of two words (2 and 3), for y and h: the rules for y of a kid come before the
-- kid, and those for h of a node after its kids
abbrev pub two_words_steps : List Step
two_words_steps =
    runs 0 2 0 ∷ runs 1 6 0 ∷ runs 2 8 0 ∷ runs 1 6 1 ∷ runs 3 8 0 ∷ runs 1 4 0 ∷ runs 0 0 0 ∷ []
