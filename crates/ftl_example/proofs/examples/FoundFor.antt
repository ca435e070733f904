-- What is found kid by kid, and what that says of all kids at hand.
use Rattle.std.proofs.Common.{◌≡◌, ℕ, ◌<◌, sym, subst, ⊎_elim, arith, List, [], ◌∷◌, Contains}
use Rattle.std.specs.List.{range_with_len}
use Rattle.ftl_model.proofs.lists.Elements.{here_in, in_cases, in_range_from, nothing_in}
use Rattle.ftl_model.specs.layout.AttributeGrammar.{AttributeGrammar}
use Rattle.ftl_model.specs.layout.Tree.{Forest}
use Rattle.ftl_order.specs.declared.steps.step.Step.{Step}
use Rattle.ftl_order.specs.orders.Pairs.{Pair}
use Rattle.ftl_order.specs.steps.Steps.{rule_at}
use Rattle.ftl_example.specs.examples.ShownSteps.{IsFoundFor, IsShownWith, IsWrittenFor, NoneIsFoundFor}
use Rattle.ftl_example.specs.examples.ShownSteps.{kids_at_hand, step_in}

module _ (g : AttributeGrammar) (t : Forest) (pair : Pair) (x : Step) (steps : List Step) where
  -- with more kids at hand
  pub found_wider : (k : ℕ) (ns : List ℕ) → Contains ns k → (w : ℕ) → IsFoundFor g t pair x (k ∷ []) steps w
      → IsFoundFor g t pair x ns steps w
  found_wider k ns there w found =
      let n = found.1.1.0 in
      let is_k : n ≡ k = ⊎_elim (λ e. sym e) (λ none. absurd (nothing_in n none)) (in_cases k n [] found.1.1.1) in
      (found.0, (found.1.0, (n, subst (λ m. Contains ns m) (sym is_k) there, found.1.1.2)))

  -- with each of the first kids at hand
  pub none_for_each : (count : ℕ) → ((n : ℕ) → n < count → NoneIsFoundFor g t pair x (n ∷ []) steps)
      → NoneIsFoundFor g t pair x (range_with_len 0 count) steps
  none_for_each count none w found =
      let n = found.1.1.0 in
      let low = (in_range_from 0 count n found.1.1.1).1 in
      none n (omega (arith, low)) w (found.0, (found.1.0, (n, here_in n [], found.1.1.2)))

  module _ (ns : List ℕ) (are : ns ≡ kids_at_hand g t pair x) where
    pub shown_by_hand : rule_at g x.rule ≡ pair.reader → (w : ℕ) → IsFoundFor g t pair x ns steps w
        → IsShownWith g t pair x steps w
    shown_by_hand rule w found = (
      found.0,
      record {
        reader = rule;
        writer = subst (λ ms. IsWrittenFor g t pair x ms (step_in steps w)) are found.1;
      },
    )

    pub none_by_hand : NoneIsFoundFor g t pair x ns steps → (w : ℕ) → IsShownWith g t pair x steps w → ⊥
    none_by_hand none w shown =
        none w (shown.0, subst (λ ms. IsWrittenFor g t pair x ms (step_in steps w)) (sym are) shown.1.writer)
