-- The worked schedules of the stack grammar that are accepted, and that each of its trees has one table.
use Rattle.std.proofs.Common.{◌≡◌, ◌≢◌, ℕ, ◌==◌, refl, inl, inr, lit<, [], ◌∷◌, count_by}
use Rattle.std.specs.List.{AllByRecursion}
use Rattle.ftl_model.proofs.lists.Elements.{each_in}
use Rattle.ftl_model.specs.layout.AttributeGrammar.{input}
use Rattle.ftl_model.specs.layout.Stack.{stack}
use Rattle.ftl_model.specs.layout.Tree.{Forest}
use Rattle.ftl_model.specs.layout.TreeOf.{IsTreeOf}
use Rattle.ftl_order.specs.orders.OneTable.{ExactlyOneList, ExactlyOneTable}
use Rattle.ftl_order.specs.orders.Ordered.{IsOrdered, IsOrderedPair}
use Rattle.ftl_order.specs.orders.Schedule.{EachStandsOnce, Schedule, entries, placing_of}
use Rattle.ftl_order.proofs.orders.Bounded.{each_below}
use Rattle.ftl_order.proofs.orders.Scheduled.{one_list_under, one_table_under}
use Rattle.ftl_order.specs.worked.WorkedSchedules.{places_beside, sizes_then_places, stack_pairs}
use Rattle.ftl_order.proofs.worked.StackLawful.{stack_lawful}
use Rattle.ftl_order.proofs.worked.StackPairs.{pairs_listed}

abbrev StandsOnce : Schedule → ℕ → Type 0
StandsOnce s a = stack.sort a ≢ input → count_by (λ b. b == a) (entries s) ≡ 1

-- each computed attribute, listed once; the inputs are 5 and 6
stack_once : (s : Schedule) → AllByRecursion (λ a. count_by (λ b. b == a) (entries s) ≡ 1) (4 ∷ 3 ∷ 2 ∷ 1 ∷ 0 ∷ [])
    → EachStandsOnce stack s
stack_once s h =
    each_below (StandsOnce s) 7
    ((λ c. absurd (c refl)), ((λ c. absurd (c refl)), ((λ c. h.0), ((λ c. h.1.0), ((λ c. h.1.1.0), ((λ c. h.1.1.1.0), ((λ c. h.1.1.1.1.0), tt)))))))

pub sizes_then_places_ordered : IsOrdered stack sizes_then_places
sizes_then_places_ordered =
    record {
      once = stack_once sizes_then_places (refl, (refl, (refl, (refl, (refl, tt)))));
      pairs = λ pair is.
          each_in (IsOrderedPair stack (placing_of sizes_then_places)) stack_pairs
          (inr ((refl, refl), tt), (inr ((refl, refl), tt), (inr ((refl, refl), tt), (inr ((refl, refl), tt), (inr ((refl, refl), tt), (inr ((refl, refl), tt), (inr ((refl, refl), tt), (inr ((refl, refl), tt), (inr ((refl, refl), tt), (inr ((refl, refl), tt), (inr ((refl, refl), inr (refl, (refl, refl))), (inl (lit< tt), (inl (lit< tt), tt)))))))))))))
          pair (pairs_listed pair is);
    }

pub places_beside_ordered : IsOrdered stack places_beside
places_beside_ordered =
    record {
      once = stack_once places_beside (refl, (refl, (refl, (refl, (refl, tt)))));
      pairs = λ pair is.
          each_in (IsOrderedPair stack (placing_of places_beside)) stack_pairs
          (inr ((refl, refl), tt), (inr ((refl, refl), tt), (inr ((refl, refl), tt), (inr ((refl, refl), tt), (inr ((refl, refl), tt), (inr ((refl, refl), tt), (inr ((refl, refl), tt), (inr ((refl, refl), tt), (inr ((refl, refl), tt), (inr ((refl, refl), tt), (inr ((refl, refl), inr (refl, (refl, refl))), (inl (lit< tt), (inl (lit< tt), tt)))))))))))))
          pair (pairs_listed pair is);
    }

pub one_stack_table : (t : Forest) → IsTreeOf stack t → ExactlyOneTable stack t
one_stack_table t fits = one_table_under stack sizes_then_places t stack_lawful sizes_then_places_ordered.pairs fits

pub one_stack_list : (t : Forest) → IsTreeOf stack t → ExactlyOneList stack t
one_stack_list t fits = one_list_under stack sizes_then_places t stack_lawful sizes_then_places_ordered.pairs fits
