-- The schedule of the worked grammar of notes is ordered, and orders of its steps.
use Rattle.std.proofs.Common.{◌≡◌, ◌≢◌, ℕ, zero, suc, ◌<◌, ◌==◌, refl, sym, ◌∙◌, ap, subst, subst₂, inl, inr, ⊎_elim, lit<, arith, rules, List, [], ◌∷◌, map, count_by, Contains, ne_eqb, cond}
use Rattle.std.specs.List.{AllByRecursion}
use Rattle.ftl_model.specs.lists.Lists.{AreDistinct}
use Rattle.ftl_model.proofs.lists.Elements.{each_in, not_among}
use Rattle.ftl_model.proofs.lists.Rising.{Rising, map_has, rising_at}
use Rattle.ftl_model.specs.layout.AttributeGrammar.{Part, Read, RuleName, each_read, first_then, fold_over, for_child, for_self, input, last_read, plain, prev_read, reads_in, self_read, single_read, this_read}
use Rattle.ftl_model.specs.layout.Notes.{no_items, notes, notes_rules}
use Rattle.ftl_model.specs.layout.Solves.{Instance, rule_named}
use Rattle.ftl_model.specs.layout.Table.{instance_number, instances}
use Rattle.ftl_order.specs.orders.Lawful.{class_of_rule, declared}
use Rattle.ftl_order.specs.orders.LegalOrder.{IsLegalOrder, IsStep, MustPrecede}
use Rattle.ftl_order.specs.orders.NotesOrders.{notes_order, notes_schedule, size_twice}
use Rattle.ftl_order.specs.orders.Ordered.{IsOrdered, IsOrderedRead, visit_place}
use Rattle.ftl_order.specs.orders.Pairs.{Where, Writes, child_class, parent_class, same_class}
use Rattle.ftl_order.specs.orders.Schedule.{EachStandsOnce, entries, placing_of}
use Rattle.ftl_order.proofs.orders.Bounded.{each_below}
use Rattle.ftl_order.proofs.orders.Instances.{is_listed_instance}
use Rattle.ftl_order.proofs.orders.NotesLawful.{each_rule}
use Rattle.ftl_order.proofs.orders.PartReads.{first_then_reads, fold_reads, plain_reads}

-- the writers of an inherited attribute of a note, and of a box
pub shift_writer : (runs_at : Where) (w : RuleName) → Writes notes 2 (self_read 4) runs_at w
    → (runs_at ≡ parent_class) × (w ≡ for_child 0 0 4)
shift_writer runs_at w h = (h.5, h.6 ∙ above h.0 h.1 h.2 h.3 h.4)
  where
    above : (k c : ℕ) → k < 3 → c < notes.child_count k → notes.child_interface k c ≡ 2
        → for_child k c 4 ≡ for_child 0 0 4
    above zero zero known declared e = refl
    above zero (suc c) known declared e =
        absurd
        (let one : notes.child_interface 0 (suc c) ≡ 1 = ap (λ b. cond b 2 1) (ne_eqb (suc c) 0 (omega arith)) in
        let z : ⊥ = omega (arith, e, one) in z)
    above (suc k) c known declared e =
        absurd
        (let none : notes.child_count (suc k) ≡ 0 = ap (λ b. cond b 2 0) (ne_eqb (suc k) 0 (omega arith)) in
        let z : ⊥ = omega (arith, declared, none) in z)

abbrev stands : ℕ → Type 0
stands a = notes.sort a ≢ input → count_by (λ b. b == a) (entries notes_schedule) ≡ 1

notes_once : EachStandsOnce notes notes_schedule
notes_once =
    each_below stands 10
    ((λ c. absurd (c refl)), ((λ c. absurd (c refl)), ((λ c. refl), ((λ c. refl), ((λ c. refl), ((λ c. refl), ((λ c. absurd (c refl)), ((λ c. refl), ((λ c. refl), ((λ c. refl), tt))))))))))

-- what writes for this read of a rule is ordered
abbrev ReadOrdered : RuleName → Read → Type 0
ReadOrdered reader r =
    (runs_at : Where) (w : RuleName) → Writes notes (class_of_rule reader) r runs_at w
    → IsOrderedRead (placing_of notes_schedule) runs_at r (visit_place notes w) (visit_place notes reader)

abbrev PairsOrdered : RuleName → Type 0
PairsOrdered reader =
    (part : Part) (r : Read) → Contains (reads_in (rule_named notes reader).parts part) r → ReadOrdered reader r

-- the classes of an interface: the one of its number
one_class : (P : ℕ → Type 0) (i : ℕ) → P i → (below : ℕ) → below ≡ i → P below
one_class P i h below e = subst P (sym e) h

-- one writer, at the node itself or of its kids
one_writer : (reader : RuleName) (r : Read) (at_class : Where) (v : RuleName)
    → IsOrderedRead (placing_of notes_schedule) at_class r (visit_place notes v) (visit_place notes reader)
    → (runs_at : Where) (w : RuleName) → (runs_at ≡ at_class) × (w ≡ v)
    → IsOrderedRead (placing_of notes_schedule) runs_at r (visit_place notes w) (visit_place notes reader)
one_writer reader r at_class v h runs_at w is =
    subst₂ (λ p x. IsOrderedRead (placing_of notes_schedule) p r (visit_place notes x) (visit_place notes reader))
    (sym is.0) (sym is.1) h

-- the writers of a synthesized attribute of a kid of interface i
kid_writer : (reader : RuleName) (r : Read) (i a : ℕ)
    → IsOrderedRead (placing_of notes_schedule) child_class r (visit_place notes (for_self i a)) (visit_place notes reader)
    → (runs_at : Where) (w : RuleName)
    → ((below : ℕ) × (below < 3) × (below ≡ i) × (runs_at ≡ child_class) × (w ≡ for_self below a))
    → IsOrderedRead (placing_of notes_schedule) runs_at r (visit_place notes w) (visit_place notes reader)
kid_writer reader r i a h runs_at w is =
    one_writer reader r child_class (for_self i a) h runs_at w (is.3, is.4 ∙ ap (λ b. for_self b a) is.2)

from_plain : (reader : RuleName) (reads : List Read) → AllByRecursion (ReadOrdered reader) reads
    → (part : Part) (r : Read) → Contains (reads_in (plain reads) part) r
    → ReadOrdered reader r
from_plain reader reads h part r c = each_in (ReadOrdered reader) reads h r (plain_reads reads part r c).1

from_first_then : (reader : RuleName) (first later : List Read) → AllByRecursion (ReadOrdered reader) first
    → AllByRecursion (ReadOrdered reader) later → (part : Part) (r : Read)
    → Contains (reads_in (first_then first later) part) r → ReadOrdered reader r
from_first_then reader first later f l part r c =
    ⊎_elim (λ a. each_in (ReadOrdered reader) first f r a.1) (λ b. each_in (ReadOrdered reader) later l r b.1)
    (first_then_reads first later part r c)

from_fold : (reader : RuleName) (child : ℕ) (start step : List Read) → AllByRecursion (ReadOrdered reader) start
    → AllByRecursion (ReadOrdered reader) step → (part : Part) (r : Read)
    → Contains (reads_in (fold_over child start step) part) r → ReadOrdered reader r
from_fold reader child start step f l part r c =
    ⊎_elim (λ a. each_in (ReadOrdered reader) start f r a.1) (λ b. each_in (ReadOrdered reader) step l r b.1)
    (fold_reads child start step part r c)

rules_ordered : AllByRecursion PairsOrdered notes_rules
rules_ordered = (
  from_plain (for_self 0 7) (single_read 0 5 ∷ [])
      (kid_writer (for_self 0 7) (single_read 0 5) 2 5 (inr ((refl, refl), tt)), tt),
  (
    from_plain (for_child 0 0 4) (last_read 1 2 ∷ [])
        (kid_writer (for_child 0 0 4) (last_read 1 2) 1 2 (inl (lit< tt)), tt),
    (
      from_first_then (for_child 0 1 1) (self_read 7 ∷ []) (prev_read 1 1 ∷ prev_read 1 2 ∷ this_read 1 3 ∷ [])
          (one_writer (for_child 0 1 1) (self_read 7) same_class (for_self 0 7) (inl (lit< tt)), tt) (
            one_writer (for_child 0 1 1) (prev_read 1 1) same_class (for_child 0 1 1)
                (inr ((refl, refl), inr (refl, (refl, refl)))),
            (kid_writer (for_child 0 1 1) (prev_read 1 2) 1 2 (inl (lit< tt)), ((λ runs_at w h. absurd h), tt)),
          ),
      (
        from_fold (for_self 0 0) 1 [] (each_read 1 2 ∷ self_read 7 ∷ []) tt
            (kid_writer (for_self 0 0) (each_read 1 2) 1 2 (inr ((refl, refl), tt)), (one_writer (for_self 0 0) (self_read 7) same_class (for_self 0 7) (inr ((refl, refl), inl (inl (lit< tt)))), tt)),
        (
          from_plain (for_self 1 2) (self_read 8 ∷ []) ((λ runs_at w h. absurd h), tt),
          (
            from_plain (for_self 2 5) (self_read 9 ∷ []) ((λ runs_at w h. absurd h), tt),
            (
              from_plain (for_self 2 6) (self_read 4 ∷ self_read 5 ∷ []) (
                (λ runs_at w h. one_writer (for_self 2 6) (self_read 4) parent_class (for_child 0 0 4) (inr ((refl, refl), tt))
                    runs_at w (shift_writer runs_at w h)),
                (one_writer (for_self 2 6) (self_read 5) same_class (for_self 2 5) (inl (lit< tt)), tt),
              ),
              tt,
            ),
          ),
        ),
      ),
    ),
  ),
)

pub notes_ordered : IsOrdered notes notes_schedule
notes_ordered =
    record {
      once = notes_once;
      pairs = λ pair is.
          each_rule PairsOrdered rules_ordered pair.reader is.0.0 pair.part pair.read is.0.1
          pair.runs_at pair.writer is.1;
    }

-- ---- orders

-- neither must come before the other, when the first stands first
abbrev IsFreeAfter : Instance → Instance → Type 0
IsFreeAfter i j = MustPrecede notes no_items notes_schedule j i → ⊥

abbrev FreeAfterAll : List Instance → Type 0
FreeAfterAll [] = Unit {0}
FreeAfterAll (i ∷ is) = AllByRecursion (IsFreeAfter i) is × FreeAfterAll is

free_rising : (order : List Instance) → FreeAfterAll order → Rising IsFreeAfter order
free_rising [] h = tt
free_rising (i ∷ is) h = (each_in (IsFreeAfter i) is h.0, free_rising is h.1)

distinct_by_map : (f : Instance → ℕ) (xs : List Instance) → AreDistinct (map f xs) → AreDistinct xs
distinct_by_map f [] h = tt
distinct_by_map f (x ∷ xs) h = ((λ again. h.0 (map_has f xs x again)), distinct_by_map f xs h.1)

order_steps : AllByRecursion (IsStep notes no_items) notes_order
order_steps = search rules

order_free : FreeAfterAll notes_order
order_free = search rules

order_once : AreDistinct (map (instance_number notes no_items) notes_order)
order_once = search (rules, not_among)

order_all : AllByRecursion (λ i. notes.sort i.attribute ≢ input → Contains notes_order i) (instances notes no_items)
order_all =
    ((λ c. (2, lit< tt, refl)), ((λ c. (1, lit< tt, refl)), ((λ c. (3, lit< tt, refl)), ((λ c. (0, lit< tt, refl)), ((λ c. (4, lit< tt, refl)), ((λ c. absurd (c refl)), tt))))))

pub notes_order_legal : IsLegalOrder notes no_items notes_schedule notes_order
notes_order_legal =
    record {
      steps = each_in (IsStep notes no_items) notes_order order_steps;
      all = λ i step.
          each_in (λ i. notes.sort i.attribute ≢ input → Contains notes_order i) (instances notes no_items) order_all i
          (is_listed_instance notes no_items i step.0) step.1;
      once = distinct_by_map (instance_number notes no_items) notes_order order_once;
      legal = λ m n d less below. rising_at IsFreeAfter notes_order (free_rising notes_order order_free) m n d less below;
    }

pub size_twice_illegal : IsLegalOrder notes no_items notes_schedule size_twice → ⊥
size_twice_illegal h = h.once.0 (0, lit< tt, refl)
