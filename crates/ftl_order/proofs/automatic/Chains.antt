-- A lawful grammar has a chain of passes, and at its end nothing can be taken.
use Rattle.std.proofs.Common.{◌≡◌, ◌≢◌, ◌⊎◌, ℕ, zero, suc, ◌+◌, ◌<◌, refl, sym, subst, inl, inr, ⊎_elim, arith, List, []}
use Rattle.std.proofs.Common.{◌∷◌, ◌++◌, length, length-append, Contains}
use Rattle.std.proofs.lemmas.List.Elements.{Contains-append_cases, Contains-append_left, Contains-append_right}
use Rattle.ftl_model.specs.lists.Lists.{AreDistinct}
use Rattle.ftl_model.proofs.lists.Elements.{distinct-append, nothing_in}
use Rattle.ftl_model.specs.layout.AttributeGrammar.{AttributeGrammar}
use Rattle.ftl_order.specs.orders.Lawful.{IsLawful}
use Rattle.ftl_order.specs.orders.Schedule.{Pass, Schedule, bottomup, entries, inorder, topdown}
use Rattle.ftl_order.specs.automatic.Automatic.{IsChainAfter, IsNext, chosen}
use Rattle.ftl_order.specs.automatic.Fitting.{IsComputed}
use Rattle.ftl_order.proofs.automatic.Largest.{few_below, list_exists}
use Rattle.ftl_order.proofs.automatic.Ones.{next_fits}

empty_or_not : (xs : List ℕ) → (xs ≡ []) ⊎ ((xs ≢ []) × (0 < length xs))
empty_or_not [] = inl refl
empty_or_not (x ∷ xs) = inr ((λ e. let z : ⊥ = grind (arith, e) in z), omega arith)

module _ (g : AttributeGrammar) (law : IsLawful g) where
  pub next_exists : (done : List ℕ) → (pass : Pass) × IsNext g done pass
  next_exists done =
      let d = list_exists g law topdown done in
      let u = list_exists g law bottomup done in
      let i = list_exists g law inorder done in (
        chosen d.0 u.0 i.0,
        record {
          down = d.0;
          up = u.0;
          in_order = i.0;
          is_down = d.1;
          is_up = u.1;
          is_in_order = i.1;
          is = refl;
        },
      )

  -- what is done is computed, each once, and so many more can be
  pub record AreDone (done : List ℕ) (more : ℕ) : Type 0 where
    pub distinct : AreDistinct done
    pub computed : (a : ℕ) → Contains done a → IsComputed g a
    pub room : g.attribute_count < length done + more

  done_more : (done : List ℕ) (more : ℕ) (pass : Pass) → AreDone done (suc more) → IsNext g done pass
      → 0 < length pass.attributes → AreDone (done ++ pass.attributes) more
  done_more done more pass h next some =
      let fits = next_fits g done pass next in
      record {
        distinct = distinct-append done pass.attributes h.distinct fits.distinct
            (λ a old new. fits.not_done a new old);
        computed = λ a there. ⊎_elim (λ old. h.computed a old) (λ new. fits.computed a new)
            (Contains-append_cases done pass.attributes a there);
        room =
            let size = length-append done pass.attributes in
            let r = h.room in
            omega (arith, size, r, some);
      }

  pub chain_after : (more : ℕ) (done : List ℕ) → AreDone done more → (s : Schedule) × IsChainAfter g done s
  chain_after zero done h =
      let few = few_below g.attribute_count done h.distinct (λ a there. (h.computed a there).0) in
      let r = h.room in
      absurd (let z : ⊥ = omega (arith, few, r) in z)
  chain_after (suc more) done h =
      let next = next_exists done in
      ⊎_elim (λ empty. ([], (next.0, next.1, empty)))
      (λ some.
      let rest = chain_after more (done ++ next.0.attributes) (done_more done more next.0 h next.1 some.1) in
      ((next.0 ∷ []) ∷ rest.0, (next.0, refl, next.1, some.0, rest.1)))
      (empty_or_not next.0.attributes)

  pub chain_exists : (s : Schedule) × IsChainAfter g [] s
  chain_exists =
      chain_after (suc g.attribute_count) []
      (record { distinct = tt; computed = λ a none. absurd (nothing_in a none); room = omega arith })

-- what is done at the end of a chain, and that nothing can be taken then
pub record ChainEnd (g : AttributeGrammar) (done : List ℕ) (s : Schedule) : Type 0 where
  pub all_done : List ℕ
  pub pass : Pass
  pub next : IsNext g all_done pass
  pub empty : pass.attributes ≡ []
  pub known : (a : ℕ) → Contains all_done a → Contains done a ⊎ Contains (entries s) a

end_later : (g : AttributeGrammar) (done : List ℕ) (pass : Pass) (stages : Schedule)
    → ChainEnd g (done ++ pass.attributes) stages → ChainEnd g done ((pass ∷ []) ∷ stages)
end_later g done pass stages e =
    record {
      all_done = e.all_done;
      pass = e.pass;
      next = e.next;
      empty = e.empty;
      known = λ a h.
          ⊎_elim
          (λ old.
          ⊎_elim (λ d. inl d)
          (λ here. inr (Contains-append_left (pass.attributes ++ []) (entries stages) a
          (Contains-append_left pass.attributes [] a here)))
          (Contains-append_cases done pass.attributes a old))
          (λ later. inr (Contains-append_right (pass.attributes ++ []) (entries stages) a later))
          (e.known a h);
    }

pub chain_end : (g : AttributeGrammar) (done : List ℕ) (s : Schedule) → IsChainAfter g done s → ChainEnd g done s
chain_end g done [] h =
    record { all_done = done; pass = h.0; next = h.1; empty = h.2; known = λ a there. inl there }
chain_end g done (passes ∷ stages) h =
    subst (λ p. ChainEnd g done (p ∷ stages)) (sym h.1)
    (end_later g done h.0 stages (chain_end g (done ++ h.0.attributes) stages h.4))
