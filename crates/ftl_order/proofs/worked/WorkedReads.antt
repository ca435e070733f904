-- What steps of a column of two words read: two occurrences each.
use Rattle.std.proofs.Common.{◌≡◌, ◌⊎◌, ◌↔◌, refl, sym, subst, inl, inr, ⊎_elim, lit<, [], ◌∷◌, Contains}
use Rattle.ftl_model.proofs.lists.Elements.{in_cases, nothing_in}
use Rattle.ftl_model.specs.layout.Solves.{Instance, instance_of}
use Rattle.ftl_model.specs.layout.Stack.{box_h, box_y, stack}
use Rattle.ftl_model.specs.layout.Worked.{two_words}
use Rattle.ftl_order.specs.orders.Reads.{Reads}
use Rattle.ftl_order.specs.worked.WorkedSteps.{first_word, second_word, the_column}

-- the entries of a list of two
two_entries : (i j k : Instance) → Contains (i ∷ (j ∷ [])) k ↔ ((k ≡ i) ⊎ (k ≡ j))
two_entries i j k = (
  (λ h. ⊎_elim (λ same. inl (sym same))
      (λ later. ⊎_elim (λ same. inr (sym same)) (λ none. absurd (nothing_in k none)) (in_cases j k [] later))
      (in_cases i k (j ∷ []) h)),
  ⊎_elim (λ same. subst (Contains (i ∷ (j ∷ []))) (sym same) (0, lit< tt, refl))
      (λ same. subst (Contains (i ∷ (j ∷ []))) (sym same) (1, lit< tt, refl)),
)

pub column_reads_heights : (j : Instance) → Reads stack two_words (instance_of the_column box_h) j
    ↔ ((j ≡ instance_of first_word box_h) ⊎ (j ≡ instance_of second_word box_h))
column_reads_heights j = two_entries (instance_of first_word box_h) (instance_of second_word box_h) j

pub y_reads_before : (j : Instance) → Reads stack two_words (instance_of second_word box_y) j
    ↔ ((j ≡ instance_of first_word box_y) ⊎ (j ≡ instance_of first_word box_h))
y_reads_before j = two_entries (instance_of first_word box_y) (instance_of first_word box_h) j
