-- The schedules of rows and cells that are refused, and the nests that aren't closed.
use Rattle.std.proofs.Common.{◌≡◌, ℕ, ◌<◌, ◌==◌, if◌then◌else◌, refl, sym, subst, inl, inr, ⊎_elim, lit<, arith, List, [], ◌∷◌, Contains}
use Rattle.ftl_model.proofs.lists.Elements.{not_among, nothing_in}
use Rattle.ftl_order.specs.orders.Pairs.{IsPair}
use Rattle.ftl_order.specs.orders.Schedule.{bottomup}
use Rattle.ftl_nests.specs.Nests.{IsNestOrdered}
use Rattle.ftl_nests.specs.Region.{InRegion, IsClosed, Leads, OfRegion}
use Rattle.ftl_nests.specs.WorkedRows.{one_inner, rows}
use Rattle.ftl_nests.specs.WorkedNests.{IsRefusedBySides, LeavesUnorderedWithNests, cell_at_root, cell_reads_row, cells_in_sheets, line_in_nest, ph_in_topdown, rh_in_bottomup, row_reads_cells, rows_in_rows, slot_in_own_list}
use Rattle.ftl_nests.proofs.RowsOrdered.{only_slot, rows_once, rows_pairs, slot}

-- ---- at a pair

cell_pair : IsPair rows cell_reads_row
cell_pair = (((lit< tt, lit< tt, (1, lit< tt, refl), refl), (0, lit< tt, refl)), (refl, refl))

row_pair : IsPair rows row_reads_cells
row_pair = (((lit< tt, (0, lit< tt, refl), inl refl), (0, lit< tt, refl)), (2, lit< tt, refl, refl, refl))

pub rh_refused : LeavesUnorderedWithNests rows rh_in_bottomup cell_reads_row
rh_refused = (
  cell_pair,
  (λ h. ⊎_elim (λ stage. let z : ⊥ = omega (arith, stage) in z)
      (λ here. let e = here.1 in let z : ⊥ = grind (arith, e) in z) h),
)

pub ph_refused : LeavesUnorderedWithNests rows ph_in_topdown row_reads_cells
ph_refused = (
  row_pair,
  (λ h. ⊎_elim (λ stage. let z : ⊥ = omega (arith, stage) in z)
      (λ here. let e = here.1 in let z : ⊥ = grind (arith, e) in z) h),
)

-- ---- by the sides

slot_refused : IsNestOrdered rows slot_in_own_list → ⊥
slot_refused ordered =
    (ordered.sides 0 0 (record { host = 1; stages = [] }) refl).own 2 (2, lit< tt, refl)
    (2, slot, inl (lit< tt, (0, lit< tt, refl)))

pub slot_refused_by_sides : IsRefusedBySides rows slot_in_own_list
slot_refused_by_sides = (
  rows_once slot_in_own_list (refl, (refl, (refl, (refl, tt)))),
  rows_pairs slot_in_own_list
      (record { sheet = inr ((refl, refl), tt); row = inr ((refl, refl), tt); cell = inl (lit< tt) }),
  slot_refused,
)

-- a row's height is none of a slot's attributes
line_outside : OfRegion rows 1 1 → ⊥
line_outside region =
    ⊎_elim
    (λ shared.
    not_among 1 (2 ∷ 3 ∷ []) ((λ e. let z : ⊥ = omega (arith, e) in z), ((λ e. let z : ⊥ = omega (arith, e) in z), tt))
    (subst (λ i. Contains (rows.shared i) 1) (only_slot region.1.0 region.0 region.1.1) shared.1))
    (λ private. nothing_in 1 private.2.1) region.2

line_refused : IsNestOrdered rows line_in_nest → ⊥
line_refused ordered =
    line_outside
    ((ordered.sides 0 0 (record { host = 1; stages = one_inner bottomup (2 ∷ 1 ∷ []) }) refl).inner 1 (1, lit< tt, refl))

pub line_refused_by_sides : IsRefusedBySides rows line_in_nest
line_refused_by_sides = (
  rows_once line_in_nest (refl, (refl, (refl, (refl, tt)))),
  rows_pairs line_in_nest (
      record {
        sheet = inr ((refl, refl), refl);
        row = inr ((refl, refl), inr ((refl, refl), tt));
        cell = inl (lit< tt);
      }
      ),
  line_refused,
)

-- ---- nests that aren't closed

pub row_region : (i : ℕ) → (InRegion rows 1 i → i ≡ 2) × (i ≡ 2 → InRegion rows 1 i)
row_region i = ((λ r. only_slot r.0 i r.1), (λ e. subst (InRegion rows 1) (sym e) slot))

only_line : (way : List ℕ) (i : ℕ) → Leads rows_in_rows 1 way i → i ≡ 1
only_line [] i h = sym h.2
only_line (class ∷ way) i h = sym h.1.2

line : InRegion rows_in_rows 1 1
line = ([], (0, lit< tt, refl))

pub rows_in_rows_region : (i : ℕ) → (InRegion rows_in_rows 1 i → i ≡ 1) × (i ≡ 1 → InRegion rows_in_rows 1 i)
rows_in_rows_region i = ((λ r. only_line r.0 i r.1), (λ e. subst (InRegion rows_in_rows 1) (sym e) line))

pub host_inside : IsClosed rows_in_rows 1 → ⊥
host_inside closed = closed.host_outside line

slot_at_root : InRegion cell_at_root 1 2
slot_at_root = ([], (0, lit< tt, refl))

only_slot_at_root : (way : List ℕ) (i : ℕ) → Leads cell_at_root 1 way i → i ≡ 2
only_slot_at_root [] i h = sym h.2
only_slot_at_root (class ∷ way) i h =
    let e : class ≡ 2 = only_slot_at_root way class h.2 in
    let none : h.1.0 < 0 = subst (λ k. h.1.0 < (if k == 2 then 0 else 1)) e h.1.1 in
    absurd (let z : ⊥ = omega (arith, none) in z)

pub cell_at_root_region : (i : ℕ) → (InRegion cell_at_root 1 i → i ≡ 2) × (i ≡ 2 → InRegion cell_at_root 1 i)
cell_at_root_region i =
    ((λ r. only_slot_at_root r.0 i r.1), (λ e. subst (InRegion cell_at_root 1) (sym e) slot_at_root))

pub root_inside : IsClosed cell_at_root 1 → ⊥
root_inside closed = closed.root_outside slot_at_root

only_cells : (way : List ℕ) (i : ℕ) → Leads cells_in_sheets 1 way i → i ≡ 2
only_cells [] i h = sym h.2
only_cells (class ∷ way) i h = sym h.1.2

cells : InRegion cells_in_sheets 1 2
cells = ([], (0, lit< tt, refl))

pub cells_in_sheets_region : (i : ℕ) → (InRegion cells_in_sheets 1 i → i ≡ 2) × (i ≡ 2 → InRegion cells_in_sheets 1 i)
cells_in_sheets_region i = ((λ r. only_cells r.0 i r.1), (λ e. subst (InRegion cells_in_sheets 1) (sym e) cells))

pub other_parent : IsClosed cells_in_sheets 1 → ⊥
other_parent closed =
    ⊎_elim (λ e. let z : ⊥ = omega (arith, e) in z)
    (λ r. let e = only_cells r.0 0 r.1 in let z : ⊥ = omega (arith, e) in z)
    (closed.no_other_parent 0 2 (lit< tt) (0, lit< tt, refl) cells)
