-- What a hand proof of a list of a kind needs.
use Rattle.std.proofs.Common.{◌≡◌, ℕ, ◌<◌, refl, sym, ◌∙◌, ap, subst, inl, inr, ⊎_elim, arith}
use Rattle.std.proofs.Common.{List, [], ◌∷◌, Contains}
use Rattle.std.proofs.lemmas.Bool.{cases_lt}
use Rattle.ftl_model.specs.lists.Lists.{AreDistinct, NoneFalls, place_in}
use Rattle.ftl_model.proofs.lists.Elements.{here_in, in_cases, nothing_in}
use Rattle.ftl_model.specs.layout.AttributeGrammar.{AttributeGrammar}
use Rattle.ftl_order.specs.orders.Ordered.{KeyBelow, Row, VisitPlace, visit_place}
use Rattle.ftl_order.specs.orders.Pairs.{IsPair, Pair}
use Rattle.ftl_order.specs.orders.Schedule.{PassKind}
use Rattle.ftl_order.specs.automatic.Fitting.{Fits, HasAll, IsAtMost, IsComputed, IsListOf, defined_by_reader, placing_after}
use Rattle.ftl_order.specs.automatic.Fitting.{written}
use Rattle.ftl_order.proofs.automatic.Lists.{Ascends, tail_has}
use Rattle.ftl_order.proofs.automatic.PairsInPass.{Met, in_pass, is_done, met}

-- of two lists with the same numbers the ascending one is at most the other
pub ascending_least : (xs ys : List ℕ) → Ascends xs → AreDistinct ys → HasAll xs ys → HasAll ys xs → IsAtMost xs ys
ascending_least [] [] a d h k = inl refl
ascending_least [] (y ∷ ys) a d h k = absurd (nothing_in y (h y (here_in y ys)))
ascending_least (x ∷ xs) [] a d h k = absurd (nothing_in x (k x (here_in x xs)))
ascending_least (x ∷ xs) (y ∷ ys) a d h k =
    ⊎_elim (λ same. by_rest same
    (ascending_least xs ys (record { distinct = a.distinct.1; ascending = a.ascending.1 }) d.1
    (tail_has x xs ys (λ there. d.0 (subst (Contains ys) same there))
    (subst (λ z. HasAll (x ∷ xs) (z ∷ ys)) (sym same) h))
    (tail_has y ys xs (λ there. a.distinct.0 (subst (Contains xs) (sym same) there))
    (subst (λ z. HasAll (y ∷ ys) (z ∷ xs)) same k))))
    (λ later.
    let up = a.ascending.0 y later in
    ⊎_elim (λ less. inr (inl less))
    (λ more.
    let same : x ≡ y = omega (arith, up, more) in
    absurd (a.distinct.0 (subst (Contains xs) (sym same) later)))
    (cases_lt x y))
    (in_cases x y xs (h y (here_in y ys)))
  where
    by_rest : x ≡ y → IsAtMost xs ys → IsAtMost (x ∷ xs) (y ∷ ys)
    by_rest same rest =
        ⊎_elim (λ e. inl (ap (λ z. z ∷ xs) same ∙ ap (λ zs. y ∷ zs) e)) (λ less. inr (inr (same, less))) rest

module _ (g : AttributeGrammar) (kind : PassKind) (done : List ℕ) where
  pub list_by : (xs : List ℕ) → Fits g kind done xs → NoneFalls (λ a. a) xs
      → ((other : List ℕ) → Fits g kind done other → HasAll xs other) → IsListOf g kind done xs
  list_by xs fits up largest =
      record {
        fits = fits;
        largest = largest;
        least = λ other f has.
            ascending_least xs other (record { distinct = fits.distinct; ascending = up }) f.distinct (largest other f)
            has;
      }

  pub fits_nothing : Fits g kind done []
  fits_nothing =
      record {
        distinct = tt;
        computed = λ a none. absurd (nothing_in a none);
        not_done = λ a none old. nothing_in a none;
        ordered = λ pair is none. absurd (nothing_in (defined_by_reader g pair) none);
      }

  -- where nothing is left, the list is empty
  pub nothing_left : ((a : ℕ) → IsComputed g a → Contains done a) → IsListOf g kind done []
  nothing_left all =
      list_by [] fits_nothing tt (λ other f a h. absurd (f.not_done a h (all a (f.computed a h))))

  -- what a pair needs whose writer is not done
  pub record Needed (list : List ℕ) (pair : Pair) : Type 0 where
    pub there : Contains list (written g pair)
    pub row :
        Row pair.runs_at kind (placing_after done kind list) pair.read (visit_place g pair.writer)
        (visit_place g pair.reader)

  pub needed : (list : List ℕ) → Fits g kind done list → (pair : Pair) → IsPair g pair
      → (Contains done (written g pair) → ⊥) → Contains list (defined_by_reader g pair) → Needed list pair
  needed list fits pair is out there =
      by
      (met done kind list pair.runs_at pair.read (visit_place g pair.writer) (visit_place g pair.reader)
      (fits.not_done (defined_by_reader g pair) there) there (fits.ordered pair is there))
    where
      by : Met done kind list pair.runs_at pair.read (visit_place g pair.writer) (visit_place g pair.reader)
          → Needed list pair
      by (is_done d) = absurd (out d)
      by (in_pass in_x row) = record { there = in_x; row = row }

-- of two rules of one node for the same child, the writer's attribute stands earlier
pub key_less : (done : List ℕ) (kind : PassKind) (list : List ℕ) (x y : VisitPlace) → x.child ≡ y.child
    → KeyBelow (placing_after done kind list) x y → place_in list x.attribute < place_in list y.attribute
key_less done kind list x y e h =
    ⊎_elim (λ less. less) (λ same. let l = same.1 in absurd (let z : ⊥ = omega (arith, l, e) in z)) h
