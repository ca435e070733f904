-- The regions of written rows of cells.
use Rattle.std.proofs.Common.{◌≡◌, ◌⊎◌, ℕ, zero, suc, ◌<◌, refl, sym, ◌∙◌, subst, inl, inr, ⊎_elim, lit<, arith}
use Rattle.std.proofs.Common.{List, [], ◌∷◌, Contains}
use Rattle.ftl_model.proofs.lists.Elements.{each_in}
use Rattle.ftl_model.specs.layout.AttributeGrammar.{AttributeGrammar}
use Rattle.ftl_nests.specs.Region.{HasChildOf, InRegion, IsClosed, IsOwner, Leads, OfRegion}
use Rattle.ftl_regions.specs.hosts.Worked.{HasOne, HasTwo, HasTwoAttributes, cell_at_root, cells_in_sheets, numbered_of}
use Rattle.ftl_regions.specs.hosts.Worked.{rows, rows_in_rows}

-- a grammar of sheets, rows and cells, by the interfaces of a sheet's child and of a row's
record HasThree (g : AttributeGrammar) (p q : ℕ) : Type 0 where
  count : g.class_count ≡ 3
  same : (g.interface 0 ≡ 0) × (g.interface 1 ≡ 1) × (g.interface 2 ≡ 2)
  sheet : (g.child_count 0 ≡ 1) × (g.child_interface 0 0 ≡ p)
  row : (g.child_count 1 ≡ 1) × (g.child_interface 1 0 ≡ q)
  cell : g.child_count 2 ≡ 0

-- what is below each class
abbrev IsBelow : (p q class i : ℕ) → Type 0
IsBelow p q zero i = i ≡ p
IsBelow p q (suc zero) i = i ≡ q
IsBelow p q (suc (suc class)) i = ⊥

-- the one child of a class
one_child : (of : ℕ → ℕ) (p i : ℕ) → of 0 ≡ p → (c : ℕ) → c < 1 → of c ≡ i → i ≡ p
one_child of p i first zero below is = sym is ∙ first
one_child of p i first (suc c) below is = absurd (let z : ⊥ = omega (arith, below) in z)

module _ (g : AttributeGrammar) (p q : ℕ) (has : HasThree g p q) where
  below : (class i : ℕ) → class < g.class_count → HasChildOf g class i → IsBelow p q class i
  below zero i known h =
      one_child (g.child_interface 0) p i has.sheet.1 h.0 (subst (λ n. h.0 < n) has.sheet.0 h.1) h.2
  below (suc zero) i known h =
      one_child (g.child_interface 1) q i has.row.1 h.0 (subst (λ n. h.0 < n) has.row.0 h.1) h.2
  below (suc (suc zero)) i known h = let less = subst (λ n. h.0 < n) has.cell h.1 in omega (arith, less)
  below (suc (suc (suc class))) i known h = let n = has.count in omega (arith, known, n)

  sheet_child : HasChildOf g 0 p
  sheet_child = (0, subst (λ n. 0 < n) (sym has.sheet.0) (lit< tt), has.sheet.1)

  row_child : HasChildOf g 1 q
  row_child = (0, subst (λ n. 0 < n) (sym has.row.0) (lit< tt), has.row.1)

  first_known : 0 < g.class_count
  first_known = subst (λ n. 0 < n) (sym has.count) (lit< tt)

  second_known : 1 < g.class_count
  second_known = subst (λ n. 1 < n) (sym has.count) (lit< tt)

  third_known : 2 < g.class_count
  third_known = subst (λ n. 2 < n) (sym has.count) (lit< tt)

  -- the class of an interface
  class_is : (class i : ℕ) → class < g.class_count → g.interface class ≡ i → class ≡ i
  class_is zero i known e = sym has.same.0 ∙ e
  class_is (suc zero) i known e = sym has.same.1 ∙ e
  class_is (suc (suc zero)) i known e = sym has.same.2 ∙ e
  class_is (suc (suc (suc class))) i known e = absurd (let n = has.count in let z : ⊥ = omega (arith, known, n) in z)

  -- a row's region, where what is below it leads to nothing else
  only_row : ((i : ℕ) → IsBelow p q q i → i ≡ q) → (way : List ℕ) (i : ℕ) → Leads g 1 way i → i ≡ q
  only_row stays [] i h = below 1 i second_known h
  only_row stays (class ∷ way) i h =
      let e = class_is class q h.0 (only_row stays way (g.interface class) h.2) in
      stays i (subst (λ k. IsBelow p q k i) e (below class i h.0 h.1))

  row_has : ((i : ℕ) → IsBelow p q q i → i ≡ q)
      → (i : ℕ) → (InRegion g 1 i → i ≡ q) × (i ≡ q → InRegion g 1 i)
  row_has stays i = ((λ r. only_row stays r.0 i r.1), (λ e. subst (InRegion g 1) (sym e) ([], row_child)))

  -- a cell's region has nothing
  none_in_cell : (way : List ℕ) (i : ℕ) → Leads g 2 way i → ⊥
  none_in_cell [] i h = below 2 i third_known h
  none_in_cell (class ∷ way) i h = none_in_cell way (g.interface class) h.2

-- ---- rows of cells

rows_three : HasThree (numbered_of rows) 1 2
rows_three = record { count = refl; same = (refl, refl, refl); sheet = (refl, refl); row = (refl, refl); cell = refl }

pub row_region : HasOne rows 1 2
row_region = row_has (numbered_of rows) 1 2 rows_three (λ i h. absurd h)

in_sheet : (way : List ℕ) (i : ℕ) → Leads (numbered_of rows) 0 way i → (i ≡ 1) ⊎ (i ≡ 2)
in_sheet [] i h = inl (below (numbered_of rows) 1 2 rows_three 0 i (lit< tt) h)
in_sheet (class ∷ way) i h =
    let from = below (numbered_of rows) 1 2 rows_three class i h.0 h.1 in
    ⊎_elim
    (λ e.
    inr (subst (λ k. IsBelow 1 2 k i) (class_is (numbered_of rows) 1 2 rows_three class 1 h.0 e) from))
    (λ e.
    absurd (subst (λ k. IsBelow 1 2 k i) (class_is (numbered_of rows) 1 2 rows_three class 2 h.0 e) from))
    (in_sheet way ((numbered_of rows).interface class) h.2)

line : InRegion (numbered_of rows) 0 1
line = ([], sheet_child (numbered_of rows) 1 2 rows_three)

slot : InRegion (numbered_of rows) 0 2
slot = (1 ∷ [], (lit< tt, row_child (numbered_of rows) 1 2 rows_three, sheet_child (numbered_of rows) 1 2 rows_three))

pub sheet_region : HasTwo rows 0 1 2
sheet_region i = (
  (λ r. in_sheet r.0 i r.1),
  (λ h. ⊎_elim (λ e. subst (InRegion (numbered_of rows) 0) (sym e) line)
      (λ e. subst (InRegion (numbered_of rows) 0) (sym e) slot) h),
)

-- the class above a cell is the row
above_cell : (class i : ℕ) → IsBelow 1 2 class i → i ≡ 2 → class ≡ 1
above_cell zero i h e = absurd (let z : ⊥ = omega (arith, h, e) in z)
above_cell (suc zero) i h e = refl
above_cell (suc (suc class)) i h e = absurd h

pub row_closed : IsClosed (numbered_of rows) 1
row_closed = record {
  known = lit< tt;
  host_outside = λ r. let e = (row_region 1).0 r in let z : ⊥ = omega (arith, e) in z;
  root_outside = λ r. let e = (row_region 0).0 r in let z : ⊥ = omega (arith, e) in z;
  no_other_parent = λ class i known child r.
      inl (above_cell class i (below (numbered_of rows) 1 2 rows_three class i known child) ((row_region i).0 r));
}

-- no class is above a sheet's region but the sheet and the row
above_sheet : (class i : ℕ) → IsBelow 1 2 class i
    → (class ≡ 0) ⊎ InRegion (numbered_of rows) 0 ((numbered_of rows).interface class)
above_sheet zero i h = inl refl
above_sheet (suc zero) i h = inr line
above_sheet (suc (suc class)) i h = absurd h

no_page : InRegion (numbered_of rows) 0 0 → ⊥
no_page r =
    ⊎_elim (λ e. let z : ⊥ = omega (arith, e) in z) (λ e. let z : ⊥ = omega (arith, e) in z) ((sheet_region 0).0 r)

pub sheet_closed : IsClosed (numbered_of rows) 0
sheet_closed = record {
  known = lit< tt;
  host_outside = no_page;
  root_outside = no_page;
  no_other_parent = λ class i known child r.
      above_sheet class i (below (numbered_of rows) 1 2 rows_three class i known child);
}

pub cell_closed : IsClosed (numbered_of rows) 2
cell_closed = record {
  known = lit< tt;
  host_outside = λ r. none_in_cell (numbered_of rows) 1 2 rows_three r.0 2 r.1;
  root_outside = λ r. none_in_cell (numbered_of rows) 1 2 rows_three r.0 0 r.1;
  no_other_parent = λ class i known child r. absurd (none_in_cell (numbered_of rows) 1 2 rows_three r.0 i r.1);
}

-- the attributes of cells
owned : (a : ℕ) → IsOwner (numbered_of rows) 2 a → (a ≡ 1) ⊎ (a ≡ 3)
owned a (inl h) = inl (each_in (λ b. b ≡ 1) (1 ∷ []) (refl, tt) a h.1)
owned a (inr h) =
    let e = class_is (numbered_of rows) 1 2 rows_three h.0 2 h.2.0 h.1 in
    let there = subst (λ k. Contains ((numbered_of rows).private k) a) e h.2.1 in
    inr (each_in (λ b. b ≡ 3) (3 ∷ []) (refl, tt) a there)

shared : OfRegion (numbered_of rows) 1 1
shared = (2, (row_region 2).1 refl, inl (lit< tt, (0, lit< tt, refl)))

added : OfRegion (numbered_of rows) 1 3
added = (2, (row_region 2).1 refl, inr (2, refl, (lit< tt, (0, lit< tt, refl))))

pub row_attributes : HasTwoAttributes rows 1 1 3
row_attributes a = (
  (λ of. owned a (subst (λ i. IsOwner (numbered_of rows) i a) ((row_region of.0).0 of.1) of.2)),
  (λ h. ⊎_elim (λ e. subst (OfRegion (numbered_of rows) 1) (sym e) shared)
      (λ e. subst (OfRegion (numbered_of rows) 1) (sym e) added) h),
)

-- ---- nests that aren't closed

pub rows_in_rows_region : HasOne rows_in_rows 1 1
rows_in_rows_region =
    row_has (numbered_of rows_in_rows) 1 1
    (record { count = refl; same = (refl, refl, refl); sheet = (refl, refl); row = (refl, refl); cell = refl })
    (λ i h. h)

pub cell_at_root_region : HasOne cell_at_root 1 2
cell_at_root_region =
    row_has (numbered_of cell_at_root) 1 2
    (record { count = refl; same = (refl, refl, refl); sheet = (refl, refl); row = (refl, refl); cell = refl })
    (λ i h. absurd h)

cells_three : HasThree (numbered_of cells_in_sheets) 2 2
cells_three = record { count = refl; same = (refl, refl, refl); sheet = (refl, refl); row = (refl, refl); cell = refl }

pub cells_in_sheets_region : HasOne cells_in_sheets 1 2
cells_in_sheets_region = row_has (numbered_of cells_in_sheets) 2 2 cells_three (λ i h. absurd h)

pub other_parent : IsClosed (numbered_of cells_in_sheets) 1 → ⊥
other_parent closed =
    ⊎_elim (λ e. let z : ⊥ = omega (arith, e) in z)
    (λ r. let e = (cells_in_sheets_region 0).0 r in let z : ⊥ = omega (arith, e) in z)
    (closed.no_other_parent 0 2 (lit< tt) (sheet_child (numbered_of cells_in_sheets) 2 2 cells_three)
    ((cells_in_sheets_region 2).1 refl))
