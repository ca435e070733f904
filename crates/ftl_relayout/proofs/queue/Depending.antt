-- A changed read leads back to a changed input.
use Rattle.std.proofs.Common.{◌≡◌, ◌≢◌, ◌⊎◌, ℕ, zero, suc, ◌<◌, Bool, true, false, refl, sym, ◌∙◌, subst, inl, inr, ⊎_elim, arith, List, [], ◌∷◌, Contains}
use Rattle.ftl_model.proofs.lists.Elements.{here_in, in_cases, later_in, nothing_in}
use Rattle.ftl_model.specs.layout.Values.{Value}
use Rattle.ftl_relayout.specs.queue.Depends.{DependsOnChange}
use Rattle.ftl_relayout.specs.queue.Nets.{IsLawfulNet, IsStep, Net}
use Rattle.ftl_relayout.specs.queue.Ready.{HasChangedRead, HoldsAtSteps}
use Rattle.ftl_relayout.proofs.queue.Running.{same_or_not}

-- all of these have one value in both tables, or one has two
all_or_one : (old now : ℕ → Value) (js : List ℕ)
    → ((j : ℕ) → Contains js j → now j ≡ old j) ⊎ ((j : ℕ) × Contains js j × (now j ≢ old j))
all_or_one old now [] = inl (λ j h. absurd (nothing_in j h))
all_or_one old now (x ∷ xs) = go (same_or_not (now x) (old x)) (all_or_one old now xs)
  where
    go : (now x ≡ old x) ⊎ (now x ≢ old x)
        → ((j : ℕ) → Contains xs j → now j ≡ old j) ⊎ ((j : ℕ) × Contains xs j × (now j ≢ old j))
        → ((j : ℕ) → Contains (x ∷ xs) j → now j ≡ old j) ⊎ ((j : ℕ) × Contains (x ∷ xs) j × (now j ≢ old j))
    go (inr d) rest = inr (x, here_in x xs, d)
    go (inl e) (inr c) = inr (c.0, later_in x c.0 xs c.1, c.2)
    go (inl e) (inl all) =
        inl (λ j h. ⊎_elim (λ s. subst (λ z. now z ≡ old z) s e) (λ l. all j l) (in_cases x j xs h))

module _ (n : Net) (law : IsLawfulNet n) (old final : ℕ → Value) (old_holds : HoldsAtSteps n old)
    (final_holds : HoldsAtSteps n final) where
  first : (i j : ℕ) → IsStep n i → Contains (n.reads i) j → (final j ≢ old j) → n.is_step j ≡ false
      → DependsOnChange n old final i
  first i j step reads changed is = record {
    given = j;
    through = [];
    leads = reads;
    within = law.inside i j step.within reads;
    input = is;
    changed = changed;
  }

  further : (i j : ℕ) → Contains (n.reads i) j → DependsOnChange n old final j → DependsOnChange n old final i
  further i j reads d = record {
    given = d.given;
    through = j ∷ d.through;
    leads = (reads, d.leads);
    within = d.within;
    input = d.input;
    changed = d.changed;
  }

  again : (j : ℕ) → IsStep n j → (final j ≢ old j) → HasChangedRead n old final j
  again j step changed =
      ⊎_elim
      (λ same.
      absurd
      (changed (final_holds j step ∙ law.alone final old j step.within same ∙ sym (old_holds j step))))
      (λ c. c) (all_or_one old final (n.reads j))

  depends_below : (m i : ℕ) → IsStep n i → n.key i < m → HasChangedRead n old final i → DependsOnChange n old final i
  depends_below zero i step less changed = absurd (let z : ⊥ = omega (arith, less) in z)
  depends_below (suc m) i step less changed =
      go (λ j s l c. depends_below m j s l c) (n.is_step changed.0) refl
    where
      go : ((j : ℕ) → IsStep n j → n.key j < m → HasChangedRead n old final j → DependsOnChange n old final j)
          → (b : Bool) → n.is_step changed.0 ≡ b → DependsOnChange n old final i
      go before false is = first i changed.0 step changed.1 changed.2 is
      go before true is =
          let j = changed.0 in
          let computed : IsStep n j =
          record { within = law.inside i j step.within changed.1; computed = is } in
          let up = law.rises i j step changed.1 computed in
          further i j changed.1
          (before j computed (let z : n.key j < m = omega (arith, up, less) in z)
          (again j computed changed.2))

  pub depends : (i : ℕ) → IsStep n i → HasChangedRead n old final i → DependsOnChange n old final i
  depends i step changed = depends_below (suc (n.key i)) i step (let z : n.key i < suc (n.key i) = omega arith in z) changed
