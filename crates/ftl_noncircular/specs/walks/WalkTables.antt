-- A matrix with numbers at which walks start.
use Rattle.std.specs.Prelude.{◌≡◌, ◌⊎◌, ℕ, ◌<◌, true, List, length, slice_index, slice_index_or}
use Rattle.std.specs.Prelude.{refl}
use Rattle.std.specs.Coded.{Coded, code_by, coded×, coded_ℕ, coded_list}
use Rattle.std.specs.Ordering.{nat_cmp}
use Rattle.std.specs.FinSet as set
use Rattle.lane_rows.specs.Matrix.{entry, Leads}
use Rattle.ftl_noncircular.specs.walks.Spreads.{IsWithinSize, LeadsOn}

pub record WalkTable : Type 0 where
  pub edges : List (set.FinSet nat_cmp)
  pub starts : List ℕ

-- each entry leads to the number of a row
abbrev pub EndWithin : List (set.FinSet nat_cmp) → Type 0
EndWithin edges = (a b : ℕ) → entry edges a b ≡ true → b < length edges

-- the start itself, or what a walk leads to
abbrev pub IsFrom : List (set.FinSet nat_cmp) → (start : ℕ) → ℕ → Type 0
IsFrom edges start b = (b ≡ start) ⊎ Leads edges start b

-- the row has just these
pub record IsExact (edges : List (set.FinSet nat_cmp)) (start : ℕ) (row : set.FinSet nat_cmp) : Type 0 where
  pub here : set.contains row start ≡ true
  pub closed : LeadsOn edges row row
  pub led : (b : ℕ) → set.contains row b ≡ true → IsFrom edges start b
  pub known : start < length edges

pub record AreWalks (edges : List (set.FinSet nat_cmp)) (starts : List ℕ) (rows : List (set.FinSet nat_cmp)) : Type 0
  where
    pub ends : EndWithin edges
    pub count : length rows ≡ length starts
    pub each : (k : ℕ) → k < length rows → IsExact edges (slice_index starts k) (slice_index_or rows k set.empty)

-- the start is in the row, and the rest is led to from it
pub record IsLedFrom (edges : List (set.FinSet nat_cmp)) (start : ℕ) (row : set.FinSet nat_cmp) : Type 0 where
  pub here : set.contains row start ≡ true
  pub led : (b : ℕ) → set.contains row b ≡ true → IsFrom edges start b

-- the row has what its numbers' entries lead to, but maybe not by the one that is told
abbrev pub IsClosedBut : List (set.FinSet nat_cmp) → set.FinSet nat_cmp → (from to : ℕ) → Type 0
IsClosedBut edges row from to =
    (a b : ℕ) → set.contains row a ≡ true → entry edges a b ≡ true
    → ((a ≡ from) × (b ≡ to)) ⊎ (set.contains row b ≡ true)

pub record IsNearly (edges : List (set.FinSet nat_cmp)) (from to : ℕ) (row : set.FinSet nat_cmp) : Type 0 where
  pub known : IsWithinSize edges row
  pub closed : IsClosedBut edges row from to

-- each row is
abbrev pub AreNearly : List (set.FinSet nat_cmp) → (from to : ℕ) → List (set.FinSet nat_cmp) → Type 0
AreNearly edges from to rows = (k : ℕ) → k < length rows → IsNearly edges from to (slice_index_or rows k set.empty)

-- each row that was led to from a start is now exact
abbrev pub AreLed : List (set.FinSet nat_cmp) → (before now : List (set.FinSet nat_cmp)) → Type 0
AreLed edges before now =
    (k start : ℕ) → k < length before → start < length edges → IsLedFrom edges start (slice_index_or before k set.empty)
    → IsExact edges start (slice_index_or now k set.empty)

-- the rows have stayed
abbrev pub AreSameRows : (before now : List (set.FinSet nat_cmp)) → Type 0
AreSameRows before now =
    (k : ℕ) → k < length before → slice_index_or now k set.empty ≡ slice_index_or before k set.empty

-- walks lead from each start to no more than before
abbrev pub LeadNoFurther : (before now : WalkTable) → Type 0
LeadNoFurther before now =
    (k b : ℕ) → k < length before.starts → IsFrom now.edges (slice_index now.starts k) b
    → IsFrom before.edges (slice_index before.starts k) b

-- the code of these tables
abbrev pub table_code : Coded WalkTable
table_code =
    code_by (List (set.FinSet nat_cmp) × List ℕ) (coded× (coded_list (set.code coded_ℕ)) (coded_list coded_ℕ))
    (λ t. (t.edges, t.starts)) (λ p. record { edges = p.0; starts = p.1 }) (λ _. refl)
