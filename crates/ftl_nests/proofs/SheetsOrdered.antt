-- A nest in the sheet, whose region has rows and cells: it is closed, and the schedule with it is accepted.
use Rattle.std.proofs.Common.{◌≡◌, ◌⊎◌, ℕ, zero, suc, ◌<◌, ◌==◌, if◌then◌else◌, refl, sym, subst, inl, inr, ⊎_elim, lit<, arith, List, [], ◌∷◌, Contains, Some}
use Rattle.ftl_model.proofs.lists.Elements.{each_in, not_among, nothing_in}
use Rattle.ftl_order.specs.orders.Schedule.{entries}
use Rattle.ftl_nests.specs.Nests.{IsNestOrdered, KeepsSides, Nest, nesting_pass}
use Rattle.ftl_nests.specs.Region.{InRegion, IsClosed, Leads, OfRegion}
use Rattle.ftl_nests.specs.WorkedRows.{rows}
use Rattle.ftl_nests.specs.WorkedNests.{heights_then_cells, nested_in_sheet}
use Rattle.ftl_nests.proofs.RowsOrdered.{no_nest, rows_once, rows_pairs, same_nest}

-- what is below a sheet
below_sheet : (way : List ℕ) (i : ℕ) → Leads rows 0 way i → (i ≡ 1) ⊎ (i ≡ 2)
below_sheet [] i h = inl (sym h.2)
below_sheet (class ∷ way) i h =
    ⊎_elim (λ e. inr (let f = h.1.2 in let z : i ≡ 2 = omega (arith, e, f) in z))
    (λ e.
    let none : h.1.0 < 0 = subst (λ k. h.1.0 < (if k == 2 then 0 else 1)) e h.1.1 in
    absurd (let z : ⊥ = omega (arith, none) in z))
    (below_sheet way class h.2)

line : InRegion rows 0 1
line = ([], (0, lit< tt, refl))

slot_below : InRegion rows 0 2
slot_below = (1 ∷ [], (lit< tt, (0, lit< tt, refl), (0, lit< tt, refl)))

pub sheet_region : (i : ℕ) → (InRegion rows 0 i → (i ≡ 1) ⊎ (i ≡ 2)) × ((i ≡ 1) ⊎ (i ≡ 2) → InRegion rows 0 i)
sheet_region i = (
  (λ r. below_sheet r.0 i r.1),
  (λ h. ⊎_elim (λ e. subst (InRegion rows 0) (sym e) line) (λ e. subst (InRegion rows 0) (sym e) slot_below) h),
)

no_sheet : InRegion rows 0 0 → ⊥
no_sheet r =
    ⊎_elim (λ e. let z : ⊥ = omega (arith, e) in z) (λ e. let z : ⊥ = omega (arith, e) in z) (below_sheet r.0 0 r.1)

pub sheet_closed : IsClosed rows 0
sheet_closed =
    record {
      known = lit< tt;
      host_outside = no_sheet;
      root_outside = no_sheet;
      no_other_parent = λ class i known child r.
          let f = child.2 in
          ⊎_elim (λ e. inl (let z : class ≡ 0 = omega (arith, e, f) in z))
          (λ e. inr (subst (InRegion rows 0) (let z : 1 ≡ class = omega (arith, e, f) in z) line)) (below_sheet r.0 i r.1);
    }

-- the sheet's own attribute is none of the region
own_outside : (a : ℕ) → OfRegion rows 0 a → 0 ≡ a → ⊥
own_outside a region e =
    ⊎_elim
    (λ shared.
    ⊎_elim
    (λ f. not_among 0 (1 ∷ []) ((λ e. let z : ⊥ = omega (arith, e) in z), tt)
    (subst (λ i. Contains (rows.shared i) 0) f (subst (Contains (rows.shared region.0)) (sym e) shared.1)))
    (λ f. not_among 0 (2 ∷ 3 ∷ []) ((λ e. let z : ⊥ = omega (arith, e) in z), ((λ e. let z : ⊥ = omega (arith, e) in z), tt))
    (subst (λ i. Contains (rows.shared i) 0) f (subst (Contains (rows.shared region.0)) (sym e) shared.1)))
    (below_sheet region.1.0 region.0 region.1.1))
    (λ private. nothing_in a private.2.1) region.2

sheet_sides : KeepsSides rows (0 ∷ []) (record { host = 0; stages = heights_then_cells })
sheet_sides =
    record {
      closed = sheet_closed;
      own = λ a listed region. each_in (λ b. OfRegion rows 0 b → ⊥) (0 ∷ []) ((λ r. own_outside 0 r refl), tt) a listed region;
      inner = each_in (OfRegion rows 0) (entries heights_then_cells) (
        (2, slot_below, inl (lit< tt, (0, lit< tt, refl))),
        ((1, line, inl (lit< tt, (0, lit< tt, refl))), ((2, slot_below, inl (lit< tt, (1, lit< tt, refl))), tt)),
      );
    }

sides : (m n : ℕ) (nest : Nest) → (nesting_pass nested_in_sheet m n).nest ≡ Some nest
    → KeepsSides rows (nesting_pass nested_in_sheet m n).attributes nest
sides zero zero nest e =
    subst (KeepsSides rows (0 ∷ [])) (same_nest (record { host = 0; stages = heights_then_cells }) nest e) sheet_sides
sides zero (suc n) nest e = no_nest nest e
sides (suc m) n nest e = no_nest nest e

pub nested_in_sheet_ordered : IsNestOrdered rows nested_in_sheet
nested_in_sheet_ordered =
    record {
      once = rows_once nested_in_sheet (refl, (refl, (refl, (refl, tt))));
      sides = sides;
      pairs = rows_pairs nested_in_sheet
          (record {
            sheet = inr ((refl, refl), refl);
            row = inr ((refl, refl), inr ((refl, refl), tt));
            cell = inr ((refl, refl), inl (lit< tt));
          });
    }
