-- There is a list of each kind after what is done.
use Rattle.std.proofs.Common.{◌≡◌, ℕ, suc, ◌≤◌, refl, subst, ⊎_elim, arith, List, [], ◌∷◌, ◌++◌, length}
use Rattle.std.proofs.Common.{length-append, flat_map, Contains}
use Rattle.std.specs.List.{range_with_len}
use Rattle.std.proofs.lemmas.List.FromFn.{length-range_with_len}
use Rattle.ftl_model.specs.lists.Lists.{AreDistinct}
use Rattle.ftl_model.proofs.lists.Elements.{flat_map_has, nothing_in, range_has}
use Rattle.ftl_model.specs.layout.AttributeGrammar.{AttributeGrammar}
use Rattle.ftl_order.specs.orders.Lawful.{IsLawful}
use Rattle.ftl_order.specs.orders.Schedule.{PassKind}
use Rattle.ftl_order.specs.automatic.AutomaticLaws.{without}
use Rattle.ftl_order.specs.automatic.Fitting.{Fits, HasAll, IsAtMost, IsListOf}
use Rattle.ftl_order.proofs.automatic.Choices.{AreBelow, Best, Preferred, best_of, lists_have, lists_of, no_longer}
use Rattle.ftl_order.proofs.automatic.Choices.{preferred_chain, preferred_total}
use Rattle.ftl_order.proofs.automatic.Decided.{decided_fits}
use Rattle.ftl_order.proofs.automatic.Joined.{joined_fit, without_has}
use Rattle.ftl_order.proofs.automatic.Turns.{cases_in}

-- a list of numbers below a bound, each once, is not longer than the bound
pub few_below : (n : ℕ) (xs : List ℕ) → AreDistinct xs → AreBelow n xs → length xs ≤ n
few_below n xs d below =
    let few = no_longer xs (range_with_len 0 n) d
    (λ a h. let b = below a h in range_has 0 n a (omega arith) (omega (arith, b))) in
    let size = length-range_with_len 0 n in
    omega (arith, few, size)

no_entries : (xs : List ℕ) → length xs ≡ 0 → xs ≡ []
no_entries [] e = refl
no_entries (x ∷ xs) e = absurd (let z : ⊥ = omega (arith, e) in z)

module _ (g : AttributeGrammar) (law : IsLawful g) (kind : PassKind) (done : List ℕ) where
  candidates : List (List ℕ)
  candidates = flat_map (lists_of g.attribute_count) (range_with_len 0 (suc g.attribute_count))

  among : (xs : List ℕ) → Fits g kind done xs → Contains candidates xs
  unfolding candidates
  among xs f =
      let few = few_below g.attribute_count xs f.distinct (λ a h. (f.computed a h).0) in
      flat_map_has (lists_of g.attribute_count) (range_with_len 0 (suc g.attribute_count)) (length xs) xs
      (range_has 0 (suc g.attribute_count) (length xs) (omega arith) (omega (arith, few)))
      (lists_have g.attribute_count xs (λ a h. (f.computed a h).0))

  none_fits : Fits g kind done []
  none_fits =
      record {
        distinct = tt;
        computed = λ a none. absurd (nothing_in a none);
        not_done = λ a none old. nothing_in a none;
        ordered = λ pair is none. absurd (nothing_in _ none);
      }

  module _ (b : Best (Fits g kind done) Preferred [] candidates) where
    best_has : (other : List ℕ) → Fits g kind done other → HasAll b.best other
    best_has other f a h =
        ⊎_elim (λ there. there)
        (λ out.
        let both = joined_fit g kind done b.best other b.holds f in
        let size = length-append b.best (without b.best other) in
        let some : length (without b.best other) ≡ 0 =
        ⊎_elim (λ less. let z : length (without b.best other) ≡ 0 = omega (arith, size, less) in z)
        (λ same. let e = same.0 in let z : length (without b.best other) ≡ 0 = omega (arith, size, e) in z)
        (b.than_each (b.best ++ without b.best other) (among (b.best ++ without b.best other) both) both) in
        absurd (nothing_in a (subst (λ xs. Contains xs a) (no_entries (without b.best other) some)
        (without_has b.best other a h out))))
        (cases_in b.best a)

    best_least : (other : List ℕ) → Fits g kind done other → HasAll other b.best → IsAtMost b.best other
    best_least other f has =
        let long = no_longer b.best other b.holds.distinct has in
        ⊎_elim (λ less. absurd (let z : ⊥ = omega (arith, long, less) in z)) (λ same. same.1)
        (b.than_each other (among other f) f)

    best_is : IsListOf g kind done b.best
    best_is = record { fits = b.holds; largest = best_has; least = best_least }

  pub list_exists : (list : List ℕ) × IsListOf g kind done list
  list_exists =
      let b = best_of (Fits g kind done) (decided_fits g law kind done) Preferred preferred_total preferred_chain []
      none_fits candidates in
      (b.best, best_is b)
