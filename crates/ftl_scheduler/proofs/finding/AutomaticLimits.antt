-- An automatic schedule has no more stages than there are attributes, and one pass in each.
use Rattle.std.proofs.Common.{◌≡◌, ◌≢◌, ℕ, ◌+◌, ◌<◌, ◌≤◌, refl, sym, ap, subst, ⊎_elim, arith, List, []}
use Rattle.std.proofs.Common.{◌∷◌, ◌++◌, length, length-append, Contains}
use Rattle.std.specs.List.{All, sum_by}
use Rattle.std.proofs.lemmas.List.Elements.{All-cons, All-nil, Contains-append_cases}
use Rattle.std.proofs.lemmas.List.Sums.{sum_by-cons}
use Rattle.ftl_model.specs.lists.Lists.{AreDistinct}
use Rattle.ftl_model.proofs.lists.Elements.{distinct-append, nothing_in}
use Rattle.ftl_model.specs.layout.AttributeGrammar.{AttributeGrammar}
use Rattle.ftl_order.specs.orders.Schedule.{Schedule}
use Rattle.ftl_order.specs.automatic.Automatic.{IsChainAfter}
use Rattle.ftl_order.specs.automatic.Fitting.{IsComputed}
use Rattle.ftl_order.proofs.automatic.Largest.{few_below}
use Rattle.ftl_order.proofs.automatic.Ones.{next_fits}
use Rattle.ftl_schedule.specs.stages.PassLimits.{HasFewPasses, IsWithinPassLimits}

some_entry : (xs : List ℕ) → xs ≢ [] → 0 < length xs
some_entry [] n = absurd (n refl)
some_entry (x ∷ xs) n = omega arith

module _ (g : AttributeGrammar) where
  -- each stage does one attribute at least that is not done
  stages_within : (done : List ℕ) → AreDistinct done → ((a : ℕ) → Contains done a → IsComputed g a) → (s : Schedule)
      → IsChainAfter g done s → length done + length s ≤ g.attribute_count
  stages_within done distinct computed [] chain =
      let few = few_below g.attribute_count done distinct (λ a there. (computed a there).0) in
      omega (arith, few)
  stages_within done distinct computed (passes ∷ stages) chain =
      let fits = next_fits g done chain.0 chain.2 in
      let later =
      stages_within (done ++ chain.0.attributes)
      (distinct-append done chain.0.attributes distinct fits.distinct (λ a old new. fits.not_done a new old))
      (λ a there. ⊎_elim (λ old. computed a old) (λ new. fits.computed a new)
      (Contains-append_cases done chain.0.attributes a there))
      stages chain.4 in
      let some = some_entry chain.0.attributes chain.3 in
      let size = length-append done chain.0.attributes in
      omega (arith, later, some, size)

  -- and has one pass
  one_pass : (done : List ℕ) (s : Schedule) → IsChainAfter g done s → All HasFewPasses s
  one_pass done [] chain = All-nil HasFewPasses
  one_pass done (passes ∷ stages) chain =
      All-cons HasFewPasses passes stages
      (subst HasFewPasses (sym chain.1) (record { some = omega arith; few = omega arith }))
      (one_pass (done ++ chain.0.attributes) stages chain.4)

  one_each : (done : List ℕ) (s : Schedule) → IsChainAfter g done s → sum_by length s ≡ length s
  one_each done [] chain = refl
  one_each done (passes ∷ stages) chain =
      let one : length passes ≡ 1 = ap length chain.1 in
      let rest = one_each (done ++ chain.0.attributes) stages chain.4 in
      omega (arith, sum_by-cons length passes stages, one, rest)

  pub automatic_limits : (s : Schedule) → IsChainAfter g [] s → g.attribute_count ≤ 2048 → IsWithinPassLimits s
  automatic_limits s chain few =
      let within = stages_within [] tt (λ a none. absurd (nothing_in a none)) s chain in
      let counted = one_each [] s chain in
      record { all = omega (arith, within, few, counted); each = one_pass [] s chain }
