-- The regions of rows and cells, and the schedules with nests that are accepted.
use Rattle.std.proofs.Common.{◌≡◌, ◌≢◌, ℕ, zero, suc, ◌<◌, ◌==◌, if◌then◌else◌, refl, sym, subst, subst₂, inl, inr, ⊎_elim, lit<, arith, List, [], ◌∷◌, count_by, Contains, None, Some}
use Rattle.std.specs.List.{AllByRecursion}
use Rattle.ftl_model.proofs.lists.Elements.{each_in, not_among, nothing_in}
use Rattle.ftl_model.specs.layout.AttributeGrammar.{Part, Read, RuleName, each_read, for_child, for_self, input, reads_in, self_read}
use Rattle.ftl_model.specs.layout.Solves.{rule_named}
use Rattle.ftl_order.specs.orders.Lawful.{class_of_rule}
use Rattle.ftl_order.specs.orders.Ordered.{visit_place}
use Rattle.ftl_order.specs.orders.Pairs.{Where, Writes, child_class, same_class}
use Rattle.ftl_order.specs.orders.Schedule.{EachStandsOnce, Schedule, bottomup, entries, topdown}
use Rattle.ftl_order.proofs.orders.Bounded.{each_below}
use Rattle.ftl_order.proofs.orders.PartReads.{fold_reads, plain_reads}
use Rattle.ftl_nests.specs.Nests.{EachPairNestOrdered, IsNestOrdered, IsNestOrderedRead, KeepsSides, Nest, NestingSchedule, nest_placing_of, nesting_pass, outer_schedule}
use Rattle.ftl_nests.specs.Region.{InRegion, IsClosed, Leads, OfRegion}
use Rattle.ftl_nests.specs.WorkedRows.{nested_rows, one_inner, rows}
use Rattle.ftl_nests.specs.WorkedNests.{slots_first}
use Rattle.ftl_nests.proofs.RowsLawful.{each_rule}

-- ---- the region of a row: the slots

pub only_slot : (way : List ℕ) (i : ℕ) → Leads rows 1 way i → i ≡ 2
only_slot [] i h = sym h.2
only_slot (class ∷ way) i h =
    let e : class ≡ 2 = only_slot way class h.2 in
    let none : h.1.0 < 0 = subst (λ k. h.1.0 < (if k == 2 then 0 else 1)) e h.1.1 in
    absurd (let z : ⊥ = omega (arith, none) in z)

pub slot : InRegion rows 1 2
slot = ([], (0, lit< tt, refl))

pub row_closed : IsClosed rows 1
row_closed =
    record {
      known = lit< tt;
      host_outside = λ r. let e = only_slot r.0 1 r.1 in let z : ⊥ = omega (arith, e) in z;
      root_outside = λ r. let e = only_slot r.0 0 r.1 in let z : ⊥ = omega (arith, e) in z;
      no_other_parent = λ class i known child r.
          let e = only_slot r.0 i r.1 in
          let f = child.2 in
          inl (let z : class ≡ 1 = omega (arith, e, f) in z);
    }

-- the attributes of a slot
pub slot_attributes : (P : ℕ → Type 0) → P 2 → P 3 → (a : ℕ) → OfRegion rows 1 a → P a
slot_attributes P ph rh a region =
    ⊎_elim
    (λ shared. each_in P (2 ∷ 3 ∷ []) (ph, (rh, tt)) a
    (subst (λ i. Contains (rows.shared i) a) (only_slot region.1.0 region.0 region.1.1) shared.1))
    (λ private. absurd (nothing_in a private.2.1)) region.2

-- ---- the pairs

-- a read that is ordered in a schedule
abbrev pub RowsRead : NestingSchedule → Where → Read → RuleName → RuleName → Type 0
RowsRead s runs_at r writer reader =
    IsNestOrderedRead (nest_placing_of s) runs_at r (visit_place rows writer) (visit_place rows reader)

-- the three pairs: a sheet reads the heights of its rows, a row those of its cells, and a cell that of its row
pub record RowsPairs (s : NestingSchedule) : Type 0 where
  pub sheet : RowsRead s child_class (each_read 0 1) (for_self 1 1) (for_self 0 0)
  pub row : RowsRead s child_class (each_read 0 2) (for_self 2 2) (for_self 1 1)
  pub cell : RowsRead s same_class (self_read 1) (for_self 1 1) (for_child 1 0 3)

module _ (s : NestingSchedule) (pairs : RowsPairs s) where
  -- all writers of this read are ordered before this rule
  abbrev WritersOrdered : RuleName → Read → Type 0
  WritersOrdered reader r =
      (runs_at : Where) (w : RuleName) → Writes rows (class_of_rule reader) r runs_at w → RowsRead s runs_at r w reader

  abbrev ReadsOrdered : RuleName → Type 0
  ReadsOrdered reader =
      (part : Part) (r : Read) → Contains (reads_in (rule_named rows reader).parts part) r → WritersOrdered reader r

  -- a class writes what the one above reads of its kids
  one_writer : (k : ℕ)
      → RowsRead s child_class (each_read 0 (suc k)) (for_self (suc k) (suc k)) (for_self k k)
      → (runs_at : Where) (w : RuleName) → (below : ℕ) → below ≡ suc k → runs_at ≡ child_class
      → w ≡ for_self below (suc k) → RowsRead s runs_at (each_read 0 (suc k)) w (for_self k k)
  one_writer k h runs_at w below e f w_is =
      subst₂ (λ p x. RowsRead s p (each_read 0 (suc k)) x (for_self k k)) (sym f) (sym w_is)
      (subst (λ b. RowsRead s child_class (each_read 0 (suc k)) (for_self b (suc k)) (for_self k k)) (sym e) h)

  sheet_ordered : ReadsOrdered (for_self 0 0)
  sheet_ordered part r h =
      ⊎_elim (λ start. absurd (nothing_in r start.1))
      (λ step. each_in (WritersOrdered (for_self 0 0)) (each_read 0 1 ∷ [])
      ((λ runs_at w writes. one_writer 0 pairs.sheet runs_at w writes.0 writes.2 writes.3 writes.4), tt) r step.1)
      (fold_reads 0 [] (each_read 0 1 ∷ []) part r h)

  row_ordered : ReadsOrdered (for_self 1 1)
  row_ordered part r h =
      ⊎_elim (λ start. absurd (nothing_in r start.1))
      (λ step. each_in (WritersOrdered (for_self 1 1)) (each_read 0 2 ∷ [])
      ((λ runs_at w writes. one_writer 1 pairs.row runs_at w writes.0 writes.2 writes.3 writes.4), tt) r step.1)
      (fold_reads 0 [] (each_read 0 2 ∷ []) part r h)

  cell_ordered : ReadsOrdered (for_child 1 0 3)
  cell_ordered part r h =
      each_in (WritersOrdered (for_child 1 0 3)) (self_read 1 ∷ []) (
        (λ runs_at w writes. subst₂ (λ p x. RowsRead s p (self_read 1) x (for_child 1 0 3)) (sym writes.0) (sym writes.1)
            pairs.cell),
        tt,
      ) r (plain_reads (self_read 1 ∷ []) part r h).1

  pub rows_pairs : EachPairNestOrdered rows (nest_placing_of s)
  rows_pairs pair is =
      each_rule ReadsOrdered
      (sheet_ordered, (row_ordered, (cell_ordered, ((λ part r h. absurd (nothing_in r (plain_reads [] part r h).1)), tt))))
      pair.reader is.0.0 pair.part pair.read is.0.1 pair.runs_at pair.writer is.1

-- ---- each attribute once

pub rows_once : (s : NestingSchedule)
    → AllByRecursion (λ a. count_by (λ b. b == a) (entries (outer_schedule s)) ≡ 1) (3 ∷ 2 ∷ 1 ∷ 0 ∷ [])
    → EachStandsOnce rows (outer_schedule s)
rows_once s h =
    each_below (λ a. rows.sort a ≢ input → count_by (λ b. b == a) (entries (outer_schedule s)) ≡ 1) 4
    ((λ c. h.0), ((λ c. h.1.0), ((λ c. h.1.1.0), ((λ c. h.1.1.1.0), tt))))

-- ---- the sides

pub same_nest : (x y : Nest) → Some x ≡ Some y → x ≡ y
same_nest x y e = grind arith

pub no_nest : {X : Type 0} (y : Nest) → None ≡ Some y → X
no_nest y e = absurd (let z : ⊥ = grind arith in z)

-- a nest in each row keeps sides, where the pass's own list has no attribute of a slot, and the nest those alone
row_sides : (own : List ℕ) (stages : Schedule) → (Contains own 2 → ⊥) → (Contains own 3 → ⊥)
    → AllByRecursion (OfRegion rows 1) (entries stages) → KeepsSides rows own (record { host = 1; stages = stages })
row_sides own stages no_ph no_rh h =
    record {
      closed = row_closed;
      own = λ a listed region. slot_attributes (λ a. Contains own a → ⊥) no_ph no_rh a region listed;
      inner = λ a listed. each_in (OfRegion rows 1) (entries stages) h a listed;
    }

of_slot : (a : ℕ) → Contains (2 ∷ 3 ∷ []) a → OfRegion rows 1 a
of_slot a h = (2, slot, inl (lit< tt, h))

own_free : KeepsSides rows (0 ∷ 1 ∷ []) (record { host = 1; stages = one_inner bottomup (2 ∷ []) })
own_free =
    row_sides (0 ∷ 1 ∷ []) (one_inner bottomup (2 ∷ []))
    (not_among 2 (0 ∷ 1 ∷ []) ((λ e. let z : ⊥ = omega (arith, e) in z), ((λ e. let z : ⊥ = omega (arith, e) in z), tt)))
    (not_among 3 (0 ∷ 1 ∷ []) ((λ e. let z : ⊥ = omega (arith, e) in z), ((λ e. let z : ⊥ = omega (arith, e) in z), tt)))
    (of_slot 2 (0, lit< tt, refl), tt)

-- a nest of rh alone, where the own list has at most a row's height
rh_sides : (own : List ℕ) → (Contains own 2 → ⊥) → (Contains own 3 → ⊥)
    → KeepsSides rows own (record { host = 1; stages = one_inner topdown (3 ∷ []) })
rh_sides own no_ph no_rh = row_sides own (one_inner topdown (3 ∷ [])) no_ph no_rh (of_slot 3 (1, lit< tt, refl), tt)

nested_rows_sides : (m n : ℕ) (nest : Nest) → (nesting_pass nested_rows m n).nest ≡ Some nest
    → KeepsSides rows (nesting_pass nested_rows m n).attributes nest
nested_rows_sides zero zero nest e =
    subst (KeepsSides rows (0 ∷ 1 ∷ []))
    (same_nest (record { host = 1; stages = one_inner bottomup (2 ∷ []) }) nest e) own_free
nested_rows_sides zero (suc n) nest e = no_nest nest e
nested_rows_sides (suc zero) zero nest e =
    subst (KeepsSides rows []) (same_nest (record { host = 1; stages = one_inner topdown (3 ∷ []) }) nest e)
    (rh_sides [] (nothing_in 2) (nothing_in 3))
nested_rows_sides (suc zero) (suc n) nest e = no_nest nest e
nested_rows_sides (suc (suc m)) n nest e = no_nest nest e

slots_first_sides : (m n : ℕ) (nest : Nest) → (nesting_pass slots_first m n).nest ≡ Some nest
    → KeepsSides rows (nesting_pass slots_first m n).attributes nest
slots_first_sides zero zero nest e = no_nest nest e
slots_first_sides zero (suc n) nest e = no_nest nest e
slots_first_sides (suc zero) zero nest e =
    subst (KeepsSides rows (1 ∷ [])) (same_nest (record { host = 1; stages = one_inner topdown (3 ∷ []) }) nest e)
    (rh_sides (1 ∷ []) (not_among 2 (1 ∷ []) ((λ e. let z : ⊥ = omega (arith, e) in z), tt))
    (not_among 3 (1 ∷ []) ((λ e. let z : ⊥ = omega (arith, e) in z), tt)))
slots_first_sides (suc zero) (suc n) nest e = no_nest nest e
slots_first_sides (suc (suc zero)) zero nest e = no_nest nest e
slots_first_sides (suc (suc zero)) (suc n) nest e = no_nest nest e
slots_first_sides (suc (suc (suc m))) n nest e = no_nest nest e

-- ---- the schedules

pub nested_rows_ordered : IsNestOrdered rows nested_rows
nested_rows_ordered =
    record {
      once = rows_once nested_rows (refl, (refl, (refl, (refl, tt))));
      sides = nested_rows_sides;
      pairs = rows_pairs nested_rows
          (record { sheet = inr ((refl, refl), tt); row = inr ((refl, refl), refl); cell = inl (lit< tt) });
    }

pub slots_first_ordered : IsNestOrdered rows slots_first
slots_first_ordered =
    record {
      once = rows_once slots_first (refl, (refl, (refl, (refl, tt))));
      sides = slots_first_sides;
      pairs = rows_pairs slots_first
          (record { sheet = inl (lit< tt); row = inl (lit< tt); cell = inr ((refl, refl), refl) });
    }
