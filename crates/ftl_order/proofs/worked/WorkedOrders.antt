-- Legal and illegal orders of the steps of a sheet over an empty column.
use Rattle.std.proofs.Common.{◌≡◌, ◌≢◌, ℕ, refl, ap, lit<, arith, rules, List, [], ◌∷◌, map, Contains}
use Rattle.std.specs.List.{AllByRecursion}
use Rattle.ftl_model.specs.lists.Lists.{AreDistinct}
use Rattle.ftl_model.proofs.lists.Elements.{each_in, not_among}
use Rattle.ftl_model.proofs.lists.Rising.{Rising, map_has, rising_at}
use Rattle.ftl_model.specs.layout.AttributeGrammar.{input}
use Rattle.ftl_model.specs.layout.Path.{top}
use Rattle.ftl_model.specs.layout.Solves.{Instance, instance_of}
use Rattle.ftl_model.specs.layout.Stack.{box_y, page_h, stack}
use Rattle.ftl_model.specs.layout.Table.{instance_number, instances}
use Rattle.ftl_model.specs.layout.Tree.{Forest}
use Rattle.ftl_model.specs.layout.Worked.{empty_column, two_words}
use Rattle.ftl_order.specs.orders.LegalOrder.{IsLegalOrder, IsStep, MustPrecede}
use Rattle.ftl_order.specs.orders.Schedule.{Schedule}
use Rattle.ftl_order.proofs.orders.Instances.{is_listed_instance}
use Rattle.ftl_order.proofs.orders.LegalOrders.{computed}
use Rattle.ftl_order.specs.worked.WorkedSchedules.{places_beside, sizes_then_places}
use Rattle.ftl_order.specs.worked.WorkedSteps.{sheet_first, the_column, the_sheet, two_words_order, without_y, x_first, y_first}

distinct_by_map : {X : Type 0} (f : X → ℕ) (xs : List X) → AreDistinct (map f xs) → AreDistinct xs
distinct_by_map f [] h = tt
distinct_by_map f (x ∷ xs) h = ((λ again. h.0 (map_has f xs x again)), distinct_by_map f xs h.1)

-- no step must precede one that stands before it
abbrev IsFreeAfter : Schedule → Forest → Instance → Instance → Type 0
IsFreeAfter s t i j = MustPrecede stack t s j i → ⊥

module _ (s : Schedule) (t : Forest) (order : List Instance) (steps : AllByRecursion (IsStep stack t) order)
    (all : AllByRecursion (λ i. stack.sort i.attribute ≢ input → Contains order i) (instances stack t))
    (once : AreDistinct (map (instance_number stack t) order)) (kept : Rising (IsFreeAfter s t) order) where
  legal_by : IsLegalOrder stack t s order
  legal_by =
      record {
        steps = each_in (IsStep stack t) order steps;
        all = λ i step.
            each_in (λ i. stack.sort i.attribute ≢ input → Contains order i) (instances stack t) all i
            (is_listed_instance stack t i step.0) step.1;
        once = distinct_by_map (instance_number stack t) order once;
        legal = λ m n d less below. rising_at (IsFreeAfter s t) order kept m n d less below;
      }

column_step : (a : ℕ) → stack.sort a ≢ input → Contains (1 ∷ (2 ∷ (3 ∷ (4 ∷ [])))) a
    → IsStep stack empty_column (instance_of the_column a)
column_step a computed of = ((tt, of), computed)

sheet_step : IsStep stack empty_column (instance_of the_sheet page_h)
sheet_step = ((tt, (0, lit< tt, refl)), λ e. (let z : ⊥ = grind arith in z))

five : (a b c d e : ℕ) → AllByRecursion (λ x. x ≢ a) (b ∷ (c ∷ (d ∷ (e ∷ []))))
    → AllByRecursion (λ x. x ≢ b) (c ∷ (d ∷ (e ∷ [])))
    → AllByRecursion (λ x. x ≢ c) (d ∷ (e ∷ [])) → AllByRecursion (λ x. x ≢ d) (e ∷ [])
    → AreDistinct {X = ℕ} (a ∷ (b ∷ (c ∷ (d ∷ (e ∷ [])))))
five a b c d e p q r s = (
  not_among a (b ∷ (c ∷ (d ∷ (e ∷ [])))) p,
  (
    not_among b (c ∷ (d ∷ (e ∷ []))) q,
    (not_among c (d ∷ (e ∷ [])) r, (not_among d (e ∷ []) s, (not_among e [] tt, tt))),
  ),
)

w_step : IsStep stack empty_column (instance_of the_column 3)
w_step = column_step 3 (λ e. (let z : ⊥ = grind arith in z)) (2, lit< tt, refl)

h_step : IsStep stack empty_column (instance_of the_column 4)
h_step = column_step 4 (λ e. (let z : ⊥ = grind arith in z)) (3, lit< tt, refl)

x_step : IsStep stack empty_column (instance_of the_column 1)
x_step = column_step 1 (λ e. (let z : ⊥ = grind arith in z)) (0, lit< tt, refl)

y_step : IsStep stack empty_column (instance_of the_column 2)
y_step = column_step 2 (λ e. (let z : ⊥ = grind arith in z)) (1, lit< tt, refl)

pub x_first_legal : IsLegalOrder stack empty_column places_beside x_first
x_first_legal =
    legal_by places_beside empty_column x_first (w_step, (h_step, (sheet_step, (x_step, (y_step, tt))))) (
      (λ c. (2, lit< tt, refl)),
      (
        (λ c. (3, lit< tt, refl)),
        ((λ c. (4, lit< tt, refl)), ((λ c. (0, lit< tt, refl)), ((λ c. (1, lit< tt, refl)), tt))),
      ),
    )
    (five 3 4 0 1 2 (omega arith) (omega arith) (omega arith) (omega arith))
    (search rules)

pub y_first_legal : IsLegalOrder stack empty_column places_beside y_first
y_first_legal =
    legal_by places_beside empty_column y_first (w_step, (h_step, (sheet_step, (y_step, (x_step, tt))))) (
      (λ c. (2, lit< tt, refl)),
      (
        (λ c. (4, lit< tt, refl)),
        ((λ c. (3, lit< tt, refl)), ((λ c. (0, lit< tt, refl)), ((λ c. (1, lit< tt, refl)), tt))),
      ),
    )
    (five 3 4 0 2 1 (omega arith) (omega arith) (omega arith) (omega arith))
    (search rules)

pub sheet_first_illegal : IsLegalOrder stack empty_column places_beside sheet_first → ⊥
sheet_first_illegal h = h.legal 1 2 (instance_of top 0) (lit< tt) (lit< tt) (search rules)

differs : (i : Instance) → i.attribute ≢ box_y → i ≡ instance_of the_column box_y → ⊥
differs i other e = other (ap (λ (j : Instance). j.attribute) e)

pub without_y_illegal : IsLegalOrder stack empty_column places_beside without_y → ⊥
without_y_illegal h =
    each_in (λ i. i ≡ instance_of the_column box_y → ⊥) without_y (
      differs (instance_of the_column 3) (omega arith),
      (
        differs (instance_of the_column 4) (omega arith),
        (differs (instance_of the_sheet 0) (omega arith), (differs (instance_of the_column 1) (omega arith), tt)),
      ),
    )
    (instance_of the_column box_y) (h.all (instance_of the_column box_y) y_step) refl

abbrev FreeAfterAll : Schedule → Forest → List Instance → Type 0
FreeAfterAll s t [] = Unit {0}
FreeAfterAll s t (i ∷ is) = AllByRecursion (IsFreeAfter s t i) is × FreeAfterAll s t is

kept_rising : (s : Schedule) (t : Forest) (order : List Instance) → FreeAfterAll s t order → Rising (IsFreeAfter s t) order
kept_rising s t [] h = tt
kept_rising s t (i ∷ is) h = (each_in (IsFreeAfter s t i) is h.0, kept_rising s t is h.1)

two_words_kept : FreeAfterAll sizes_then_places two_words two_words_order
two_words_kept = search rules

two_words_steps : AllByRecursion (IsStep stack two_words) two_words_order
two_words_steps = search rules

two_words_all : AllByRecursion (λ i. stack.sort i.attribute ≢ input → Contains two_words_order i) (instances stack two_words)
two_words_all = (
  (λ c. (6, lit< tt, refl)),
  (
    (λ c. (7, lit< tt, refl)),
    (
      (λ c. (8, lit< tt, refl)),
      (
        (λ c. (4, lit< tt, refl)),
        (
          (λ c. (5, lit< tt, refl)),
          (
            (λ c. (9, lit< tt, refl)),
            (
              (λ c. (11, lit< tt, refl)),
              (
                (λ c. (2, lit< tt, refl)),
                (
                  (λ c. (3, lit< tt, refl)),
                  (
                    (λ c. absurd (c refl)),
                    (
                      (λ c. absurd (c refl)),
                      (
                        (λ c. (10, lit< tt, refl)),
                        (
                          (λ c. (12, lit< tt, refl)),
                          (
                            (λ c. (0, lit< tt, refl)),
                            (
                              (λ c. (1, lit< tt, refl)),
                              ((λ c. absurd (c refl)), ((λ c. absurd (c refl)), tt)),
                            ),
                          ),
                        ),
                      ),
                    ),
                  ),
                ),
              ),
            ),
          ),
        ),
      ),
    ),
  ),
)

two_words_once : AreDistinct (map (instance_number stack two_words) two_words_order)
two_words_once = search (rules, not_among)

pub two_words_legal : IsLegalOrder stack two_words sizes_then_places two_words_order
two_words_legal =
    legal_by sizes_then_places two_words two_words_order two_words_steps two_words_all two_words_once
    (kept_rising sizes_then_places two_words two_words_order two_words_kept)
