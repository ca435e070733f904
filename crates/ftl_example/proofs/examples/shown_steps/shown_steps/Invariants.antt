use Rattle.std.proofs.Common.{ℕ, ◌<◌}
use Rattle.ftl_deps.specs.reads.Meant.{meant}
use Rattle.ftl_example.specs.examples.ShownSteps.{AreShownAt}
use Rattle.ftl_example.specs.pairs.PairMeant.{pair_meant}
use Rattle.ftl_example.proofs.examples.shown_steps.shown_steps.Given as goal

abbrev pub invariant-loop-reader : goal.invariant-loop-reader
invariant-loop-reader l =
    (m : ℕ) → m < l.reader
    → (n : ℕ) → AreShownAt (meant l.tree.checked) l.tree.tree (pair_meant l.pair) l.steps m n → ⊥
