-- Two lists of one kind that fit, joined, fit.
use Rattle.std.proofs.Common.{ℕ, ◌<◌, not, sym, ◌∙◌, ap, inl, inr, ⊎_elim, arith}
use Rattle.std.proofs.Common.{List, ◌++◌, Contains}
use Rattle.std.proofs.lemmas.Bool.{not_from_false, false_from_ne_true, true≢false}
use Rattle.std.proofs.lemmas.List.Elements.{Contains-append_cases, Contains-append_left, Contains-append_right}
use Rattle.ftl_model.specs.lists.Lists.{AreDistinct, is_listed, place_in}
use Rattle.ftl_model.proofs.lists.Elements.{distinct-append, distinct-filter, filter_has, in_filter}
use Rattle.ftl_model.proofs.lists.Listed.{is_there, listed}
use Rattle.ftl_model.proofs.lists.Places.{place_within}
use Rattle.ftl_model.specs.layout.AttributeGrammar.{AttributeGrammar, Read}
use Rattle.ftl_order.specs.orders.Ordered.{KeyBelow, VisitPlace, visit_place}
use Rattle.ftl_order.specs.orders.Pairs.{Where}
use Rattle.ftl_order.specs.orders.Schedule.{PassKind}
use Rattle.ftl_order.specs.automatic.AutomaticLaws.{without}
use Rattle.ftl_order.specs.automatic.Fitting.{Fits, placing_after}
use Rattle.ftl_order.proofs.automatic.PairsInPass.{Met, in_pass, is_done, met, of_met, row_moves, row_with_key}
use Rattle.ftl_order.proofs.automatic.Turns.{cases_in, place_left, place_right, places_rise, rising-filter, rising_place, same_place}

pub in_without : (xs ys : List ℕ) (a : ℕ) → Contains (without xs ys) a → Contains ys a × (Contains xs a → ⊥)
in_without xs ys a h =
    let both = in_filter (λ b. not (is_listed xs b)) ys a h in
    (both.0, λ there. true≢false (sym both.1 ∙ ap not (listed xs a there)))

pub without_has : (xs ys : List ℕ) (a : ℕ) → Contains ys a → (Contains xs a → ⊥) → Contains (without xs ys) a
without_has xs ys a h out =
    filter_has (λ b. not (is_listed xs b)) ys a h
    (not_from_false (is_listed xs a) (false_from_ne_true (is_listed xs a) (λ e. out (is_there xs a e))))

-- what has a list without another stands as in the list
without_place : (xs ys : List ℕ) → AreDistinct ys → (a b : ℕ) → Contains (without xs ys) a → Contains (without xs ys) b
    → place_in ys a < place_in ys b → place_in (without xs ys) a < place_in (without xs ys) b
without_place xs ys d a b in_a in_b less =
    rising_place (place_in ys) (without xs ys)
    (rising-filter (λ x y. place_in ys x < place_in ys y) (λ c. not (is_listed xs c)) ys (places_rise ys d)) a b in_a in_b
    less

module _ (done : List ℕ) (kind : PassKind) (xs ys : List ℕ) (distinct : AreDistinct ys) (runs_at : Where) (r : Read)
    (x y : VisitPlace) where
  -- the reader is of the first
  first_key : Contains xs x.attribute → Contains xs y.attribute → KeyBelow (placing_after done kind xs) x y
      → KeyBelow (placing_after done kind (xs ++ without xs ys)) x y
  first_key in_x in_y h =
      let p = place_left xs (without xs ys) x.attribute in_x in
      let q = place_left xs (without xs ys) y.attribute in_y in
      ⊎_elim (λ less. inl (omega (arith, p, q, less))) (λ same. inr (p ∙ same.0 ∙ sym q, same.1)) h

  met_first : Contains xs y.attribute → Met done kind xs runs_at r x y
      → Met done kind (xs ++ without xs ys) runs_at r x y
  met_first in_y (is_done h) = is_done h
  met_first in_y (in_pass h row) =
      in_pass (Contains-append_left xs (without xs ys) x.attribute h)
      (row_moves runs_at kind (placing_after done kind xs) (placing_after done kind (xs ++ without xs ys)) r x y
      (first_key h in_y) row)

  -- the reader is of the second
  across_key : Contains xs x.attribute → (Contains xs y.attribute → ⊥)
      → KeyBelow (placing_after done kind (xs ++ without xs ys)) x y
  across_key in_x out_y =
      let p = place_left xs (without xs ys) x.attribute in_x in
      let q = place_right xs (without xs ys) y.attribute out_y in
      let w = place_within xs x.attribute in_x in
      inl (omega (arith, p, q, w))

  second_key : Contains (without xs ys) x.attribute → Contains (without xs ys) y.attribute
      → KeyBelow (placing_after done kind ys) x y → KeyBelow (placing_after done kind (xs ++ without xs ys)) x y
  second_key in_x in_y h =
      let out_x = in_without xs ys x.attribute in_x in
      let out_y = in_without xs ys y.attribute in_y in
      let p = place_right xs (without xs ys) x.attribute out_x.1 in
      let q = place_right xs (without xs ys) y.attribute out_y.1 in
      ⊎_elim
      (λ less.
      let l = without_place xs ys distinct x.attribute y.attribute in_x in_y less in inl (omega (arith, p, q, l)))
      (λ same.
      inr (ap (place_in (xs ++ without xs ys)) (same_place ys x.attribute y.attribute out_x.0 out_y.0 same.0), same.1)) h

  met_second : Contains (without xs ys) y.attribute → Met done kind ys runs_at r x y
      → Met done kind (xs ++ without xs ys) runs_at r x y
  met_second in_y (is_done h) = is_done h
  met_second in_y (in_pass h row) =
      ⊎_elim
      (λ old. in_pass (Contains-append_left xs (without xs ys) x.attribute old)
      (row_with_key runs_at kind (placing_after done kind ys) (placing_after done kind (xs ++ without xs ys)) r x y
      (across_key old (in_without xs ys y.attribute in_y).1) row))
      (λ new.
      let in_x = without_has xs ys x.attribute h new in
      in_pass (Contains-append_right xs (without xs ys) x.attribute in_x)
      (row_moves runs_at kind (placing_after done kind ys) (placing_after done kind (xs ++ without xs ys)) r x y
      (second_key in_x in_y) row))
      (cases_in xs x.attribute)

pub joined_fit : (g : AttributeGrammar) (kind : PassKind) (done xs ys : List ℕ) → Fits g kind done xs
    → Fits g kind done ys → Fits g kind done (xs ++ without xs ys)
joined_fit g kind done xs ys f s =
    record {
      distinct = distinct-append xs (without xs ys) f.distinct (distinct-filter (λ a. not (is_listed xs a)) ys s.distinct)
          (λ a here there. (in_without xs ys a there).1 here);
      computed = λ a h.
          ⊎_elim (λ here. f.computed a here) (λ there. s.computed a (in_without xs ys a there).0)
          (Contains-append_cases xs (without xs ys) a h);
      not_done = λ a h.
          ⊎_elim (λ here. f.not_done a here) (λ there. s.not_done a (in_without xs ys a there).0)
          (Contains-append_cases xs (without xs ys) a h);
      ordered = λ pair is h.
          let x = visit_place g pair.writer in
          let y = visit_place g pair.reader in
          ⊎_elim
          (λ here.
          of_met done kind (xs ++ without xs ys) pair.runs_at pair.read x y (f.not_done y.attribute here) h
          (met_first done kind xs ys s.distinct pair.runs_at pair.read x y here
          (met done kind xs pair.runs_at pair.read x y (f.not_done y.attribute here) here (f.ordered pair is here))))
          (λ there.
          let in_y = (in_without xs ys y.attribute there).0 in
          of_met done kind (xs ++ without xs ys) pair.runs_at pair.read x y (s.not_done y.attribute in_y) h
          (met_second done kind xs ys s.distinct pair.runs_at pair.read x y there
          (met done kind ys pair.runs_at pair.read x y (s.not_done y.attribute in_y) in_y (s.ordered pair is in_y))))
          (Contains-append_cases xs (without xs ys) y.attribute h);
    }
