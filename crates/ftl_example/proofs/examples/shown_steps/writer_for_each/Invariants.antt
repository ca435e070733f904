use Rattle.std.proofs.Common.{ℕ, ◌<◌, [], ◌∷◌}
use Rattle.ftl_deps.specs.reads.Meant.{meant}
use Rattle.ftl_example.specs.examples.ShownSteps.{NoneIsFoundFor}
use Rattle.ftl_example.specs.pairs.PairMeant.{pair_meant}
use Rattle.ftl_example.proofs.examples.shown_steps.writer_for_each.Given as goal

abbrev pub invariant-loop-kid : goal.invariant-loop-kid
invariant-loop-kid l =
    (n : ℕ) → n < l.kid
    → NoneIsFoundFor (meant l.tree.checked) l.tree.tree (pair_meant l.pair) l.reader (n ∷ []) l.steps
