-- Where some schedule is ordered and an attribute is not done, a list of some kind fits that has one.
use Rattle.std.proofs.Common.{◌≡◌, ◌⊎◌, ℕ, ◌<◌, ◌≤◌, ◌==◌, ◌&&◌, Bool, true, not, refl, sym, ◌∙◌, ap, subst, inl, inr}
use Rattle.std.proofs.Common.{⊎_elim, arith, eqb-true, eq-eqb, List, filter, Contains}
use Rattle.std.specs.List.{range_with_len}
use Rattle.std.proofs.lemmas.Bool.{and_from, and_parts, cases_lt, false_from_ne_true, not_from_false, true≢false}
use Rattle.ftl_model.specs.lists.Lists.{AreDistinct, is_listed, place_in, sorted_by}
use Rattle.ftl_model.proofs.lists.Elements.{distinct-filter, distinct-range, filter_has, in_filter, in_range_from, range_has}
use Rattle.ftl_model.proofs.lists.Listed.{is_there, listed}
use Rattle.ftl_model.proofs.lists.Rising.{Rising, strictly}
use Rattle.ftl_model.proofs.lists.Sorted.{distinct-sorted, in_sorted, none_falls-sorted, sorted_has}
use Rattle.ftl_model.specs.layout.AttributeGrammar.{AttributeGrammar}
use Rattle.ftl_order.specs.orders.Lawful.{IsLawful}
use Rattle.ftl_order.specs.orders.Ordered.{IsOrdered, KeyBelow, Row, VisitPlace, visit_place}
use Rattle.ftl_order.specs.orders.Pairs.{IsPair, Pair}
use Rattle.ftl_order.specs.orders.Schedule.{IsOnePass, PassKind, Schedule, placing_of}
use Rattle.ftl_order.specs.orders.Sequence.{is_in_pass}
use Rattle.ftl_order.proofs.orders.LegalOrders.{computed, is_computed, not_input, placing_of-one_kind}
use Rattle.ftl_order.proofs.orders.SchedulePlaces.{own_keys}
use Rattle.ftl_order.specs.automatic.Fitting.{Fits, IsComputed, defined_by_reader, placing_after}
use Rattle.ftl_order.proofs.automatic.Choices.{Best, best_of, decided_both, decided_not}
use Rattle.ftl_order.proofs.automatic.Decided.{decided_computed}
use Rattle.ftl_order.proofs.automatic.PairsInPass.{Met, in_pass, is_done, of_met, row_moves}
use Rattle.ftl_order.proofs.automatic.Targets.{writer_computed}
use Rattle.ftl_order.proofs.automatic.Turns.{cases_in, rising_place}

-- computed and not done
abbrev pub IsUndone : AttributeGrammar → List ℕ → ℕ → Type 0
IsUndone g done a = IsComputed g a × (Contains done a → ⊥)

-- the test of it
abbrev pub is_undone : AttributeGrammar → List ℕ → ℕ → Bool
is_undone g done a = is_computed (g.sort a) && not (is_listed done a)

-- the numbers that are, in their order
abbrev pub undone : AttributeGrammar → List ℕ → List ℕ
undone g done = filter (is_undone g done) (range_with_len 0 g.attribute_count)

pub undone_test : (g : AttributeGrammar) (done : List ℕ) (a : ℕ) → IsUndone g done a → is_undone g done a ≡ true
undone_test g done a h =
    and_from (is_computed (g.sort a)) (not (is_listed done a)) (computed (g.sort a) h.0.1)
    (not_from_false (is_listed done a) (false_from_ne_true (is_listed done a) (λ e. h.1 (is_there done a e))))

pub test_undone : (g : AttributeGrammar) (done : List ℕ) (a : ℕ) → a < g.attribute_count → is_undone g done a ≡ true
    → IsUndone g done a
test_undone g done a known e =
    let both = and_parts (is_computed (g.sort a)) (not (is_listed done a)) e in
    ((known, not_input (g.sort a) both.0), (λ there. true≢false (sym both.1 ∙ ap not (listed done a there))))

pub in_range : (n a : ℕ) → a < n → Contains (range_with_len 0 n) a
in_range n a known = range_has 0 n a (omega arith) (omega (arith, known))

pub below_range : (n a : ℕ) → Contains (range_with_len 0 n) a → a < n
below_range n a h = let b = (in_range_from 0 n a h).1 in omega (arith, b)

module _ (g : AttributeGrammar) (law : IsLawful g) (s : Schedule) (ordered : IsOrdered g s) (done : List ℕ) where
  -- the least stage first
  abbrev NoLater : ℕ → ℕ → Type 0
  NoLater a b = (placing_of s a).stage ≤ (placing_of s b).stage

  no_later_total : (a b : ℕ) → NoLater a b ⊎ NoLater b a
  no_later_total a b =
      ⊎_elim (λ less. inl (omega (arith, less))) (λ more. inr more)
      (cases_lt (placing_of s a).stage (placing_of s b).stage)

  earliest : (a : ℕ) → IsUndone g done a
      → Best (IsUndone g done) NoLater a (range_with_len 0 g.attribute_count)
  earliest a h =
      best_of (IsUndone g done) (λ b. decided_both (decided_computed g b) (decided_not (cases_in done b))) NoLater
      no_later_total (λ x y z p q. omega (arith, p, q)) a h (range_with_len 0 g.attribute_count)

  module _ (b : ℕ) (new : IsUndone g done b)
      (least : (a : ℕ) → IsUndone g done a → (placing_of s b).stage ≤ (placing_of s a).stage) where
    abbrev of_the_pass : ℕ → Bool
    of_the_pass a = is_undone g done a && is_in_pass (placing_of s) (placing_of s b) a

    abbrev index : ℕ → ℕ
    index a = (placing_of s a).index

    abbrev the_list : List ℕ
    the_list = sorted_by index (filter of_the_pass (range_with_len 0 g.attribute_count))

    -- an entry is not done, and stands in the pass
    record IsOfPass (a : ℕ) : Type 0 where
      is_new : IsUndone g done a
      one : IsOnePass (placing_of s a) (placing_of s b)

    in_list : (a : ℕ) → Contains the_list a → IsOfPass a
    in_list a h =
        let f = in_filter of_the_pass (range_with_len 0 g.attribute_count) a
        (in_sorted index (filter of_the_pass (range_with_len 0 g.attribute_count)) a h) in
        let both = and_parts (is_undone g done a) (is_in_pass (placing_of s) (placing_of s b) a) f.1 in
        let pass = and_parts ((placing_of s a).stage == (placing_of s b).stage) ((placing_of s a).pass == (placing_of s b).pass)
        both.1 in
        record {
          is_new = test_undone g done a (below_range g.attribute_count a f.0) both.0;
          one = (
            eqb-true (placing_of s a).stage (placing_of s b).stage pass.0,
            eqb-true (placing_of s a).pass (placing_of s b).pass pass.1,
          );
        }

    list_has : (a : ℕ) → IsUndone g done a → IsOnePass (placing_of s a) (placing_of s b) → Contains the_list a
    list_has a h one =
        sorted_has index (filter of_the_pass (range_with_len 0 g.attribute_count)) a
        (filter_has of_the_pass (range_with_len 0 g.attribute_count) a (in_range g.attribute_count a h.0.0)
        (and_from (is_undone g done a) (is_in_pass (placing_of s) (placing_of s b) a) (undone_test g done a h)
        (and_from ((placing_of s a).stage == (placing_of s b).stage) ((placing_of s a).pass == (placing_of s b).pass)
        (eq-eqb (placing_of s a).stage (placing_of s b).stage one.0) (eq-eqb (placing_of s a).pass (placing_of s b).pass one.1))))

    distinct_list : AreDistinct the_list
    distinct_list =
        distinct-sorted index (filter of_the_pass (range_with_len 0 g.attribute_count))
        (distinct-filter of_the_pass (range_with_len 0 g.attribute_count) (distinct-range 0 g.attribute_count))

    own : (a c : ℕ) → Contains the_list a → Contains the_list c → index a ≡ index c → a ≡ c
    own a c in_a in_c e =
        let x = in_list a in_a in
        let y = in_list c in_c in
        own_keys g s ordered.once a c x.is_new.0.0 y.is_new.0.0 x.is_new.0.1 y.is_new.0.1
        (x.one.0 ∙ sym y.one.0, x.one.1 ∙ sym y.one.1) e

    list_rises : Rising (λ a c. index a < index c) the_list
    list_rises =
        strictly index the_list (none_falls-sorted index (filter of_the_pass (range_with_len 0 g.attribute_count)))
        distinct_list own

    list_key : (x y : VisitPlace) → Contains the_list x.attribute → Contains the_list y.attribute
        → KeyBelow (placing_of s) x y → KeyBelow (placing_after done (placing_of s b).kind the_list) x y
    list_key x y in_x in_y h =
        ⊎_elim (λ less. inl (rising_place index the_list list_rises x.attribute y.attribute in_x in_y less))
        (λ same. inr (ap (place_in the_list) (own x.attribute y.attribute in_x in_y same.0), same.1)) h

    pair_met : (pair : Pair) → IsPair g pair → Contains the_list (defined_by_reader g pair)
        → Met done (placing_of s b).kind the_list pair.runs_at pair.read (visit_place g pair.writer)
        (visit_place g pair.reader)
    pair_met pair is there =
        let x = visit_place g pair.writer in
        let y = visit_place g pair.reader in
        let of_y = in_list y.attribute there in
        ⊎_elim (λ old. is_done old)
        (λ out.
        let is_new : IsUndone g done x.attribute = (writer_computed g law pair is, out) in
        ⊎_elim
        (λ less.
        let low = least x.attribute is_new in
        let e = of_y.one.0 in
        absurd (let z : ⊥ = omega (arith, less, low, e) in z))
        (λ row.
        let in_x = list_has x.attribute is_new (row.0.0 ∙ of_y.one.0, row.0.1 ∙ of_y.one.1) in
        in_pass in_x
        (row_moves pair.runs_at (placing_of s b).kind (placing_of s) (placing_after done (placing_of s b).kind the_list)
        pair.read x y (list_key x y in_x there)
        (subst (λ k. Row pair.runs_at k (placing_of s) pair.read x y) (placing_of-one_kind s y.attribute b of_y.one) row.1)))
        (ordered.pairs pair is))
        (cases_in done x.attribute)

    list_fits : Fits g (placing_of s b).kind done the_list
    list_fits =
        record {
          distinct = distinct_list;
          computed = λ a h. (in_list a h).is_new.0;
          not_done = λ a h. (in_list a h).is_new.1;
          ordered = λ pair is there.
              of_met done (placing_of s b).kind the_list pair.runs_at pair.read (visit_place g pair.writer)
              (visit_place g pair.reader) (in_list (defined_by_reader g pair) there).is_new.1 there
              (pair_met pair is there);
        }

  -- a list that fits, and an entry of it
  pub record SomeFits : Type 0 where
    pub kind : PassKind
    pub list : List ℕ
    pub fits : Fits g kind done list
    pub entry : ℕ
    pub there : Contains list entry

  pub some_fits : (a : ℕ) → IsUndone g done a → SomeFits
  some_fits a h =
      let e = earliest a h in
      let least : (c : ℕ) → IsUndone g done c → (placing_of s e.best).stage ≤ (placing_of s c).stage =
      λ c n. e.than_each c (in_range g.attribute_count c n.0.0) n in
      record {
        kind = (placing_of s e.best).kind;
        list = the_list e.best e.holds least;
        fits = list_fits e.best e.holds least;
        entry = e.best;
        there = list_has e.best e.holds least e.best e.holds (refl, refl);
      }
