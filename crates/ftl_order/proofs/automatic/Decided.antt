-- Whether a list fits is decided, in a lawful grammar.
use Rattle.std.proofs.Common.{◌≡◌, ◌≢◌, ℕ, ◌<◌, refl, sym, subst, inl, inr, ⊎_elim, arith, List, [], ◌∷◌, Contains}
use Rattle.std.proofs.Common.{Option, Some, None}
use Rattle.std.proofs.lemmas.Bool.{cases_lt}
use Rattle.ftl_model.specs.lists.Lists.{AreDistinct}
use Rattle.ftl_model.specs.layout.AttributeGrammar.{AttributeGrammar, RuleName, Sort, inherited, input, local, synthesized}
use Rattle.ftl_order.specs.orders.Lawful.{IsLawful}
use Rattle.ftl_order.specs.orders.Ordered.{IsOrderedPair, visit_place}
use Rattle.ftl_order.specs.orders.Pairs.{IsPair, Pair}
use Rattle.ftl_order.specs.orders.Schedule.{PassKind}
use Rattle.ftl_order.specs.faults.FirstFault.{reads_fault}
use Rattle.ftl_order.specs.declared.faults.fault.VerifyFault.{VerifyFault}
use Rattle.ftl_order.proofs.faults.Pairs.{reader_free, reader_ordered}
use Rattle.ftl_order.specs.automatic.Fitting.{Fits, IsComputed, defined_by_reader, placing_after}
use Rattle.ftl_order.proofs.automatic.Choices.{Decided, decided_both, decided_each, decided_if, decided_not}
use Rattle.ftl_order.proofs.automatic.Turns.{cases_in}

decided_sort : (sort : Sort) → Decided (sort ≢ input)
decided_sort input = inr (λ n. n refl)
decided_sort inherited = inl (grind arith)
decided_sort synthesized = inl (grind arith)
decided_sort local = inl (grind arith)

decided_below : (a n : ℕ) → Decided (a < n)
decided_below a n =
    ⊎_elim (λ less. inl less) (λ more. inr (λ less. let z : ⊥ = omega (arith, more, less) in z)) (cases_lt a n)

pub decided_computed : (g : AttributeGrammar) (a : ℕ) → Decided (IsComputed g a)
decided_computed g a = decided_both (decided_below a g.attribute_count) (decided_sort (g.sort a))

decided_distinct : (xs : List ℕ) → Decided (AreDistinct xs)
decided_distinct [] = inl tt
decided_distinct (x ∷ xs) = decided_both (decided_not (cases_in xs x)) (decided_distinct xs)

decided_none : (o : Option VerifyFault) → Decided (o ≡ None)
decided_none None = inl refl
decided_none (Some x) = inr (λ e. let z : ⊥ = grind (arith, e) in z)

module _ (g : AttributeGrammar) (law : IsLawful g) (kind : PassKind) (done list : List ℕ) where
  abbrev OrderedInPass : Type 0
  OrderedInPass =
      (pair : Pair) → IsPair g pair → Contains list (defined_by_reader g pair)
      → IsOrderedPair g (placing_after done kind list) pair

  abbrev FreeInPass : RuleName → Type 0
  FreeInPass w =
      Contains list (visit_place g w).attribute → reads_fault g (placing_after done kind list) (0, w) ≡ None

  decided_ordered : Decided OrderedInPass
  decided_ordered =
      ⊎_elim
      (λ each. inl (λ pair is there.
      reader_ordered g (placing_after done kind list) law pair is 0
      (each pair.reader (law.rules_have pair.reader is.0.0) there)))
      (λ not. inr (λ ordered. not (λ w in_it there.
      reader_free g (placing_after done kind list) law w
      (λ pair is same. ordered pair is
      (subst (λ v. Contains list (visit_place g v).attribute) (sym same) there)) 0 (law.rules_are w in_it))))
      (decided_each FreeInPass
      (λ w. decided_if (cases_in list (visit_place g w).attribute)
      (decided_none (reads_fault g (placing_after done kind list) (0, w)))) g.rules)

  pub decided_fits : Decided (Fits g kind done list)
  decided_fits =
      ⊎_elim
      (λ h. inl (record { distinct = h.0; computed = h.1.0; not_done = h.1.1.0; ordered = h.1.1.1 }))
      (λ n. inr (λ f. n (f.distinct, (f.computed, (f.not_done, f.ordered)))))
      (decided_both (decided_distinct list)
      (decided_both (decided_each (IsComputed g) (decided_computed g) list)
      (decided_both (decided_each (λ a. Contains done a → ⊥) (λ a. decided_not (cases_in done a)) list)
      decided_ordered)))
