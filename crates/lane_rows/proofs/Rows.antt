-- The rows of a matrix, one changed at a time.
use Rattle.std.proofs.Common.{◌≡◌, ℕ, zero, suc, ◌+◌, ◌<◌, ◌≤◌, Bool, true, false, ◌||◌, ◌&&◌, List, [], ◌∷◌, ◌++◌, length, get_or, ◌==◌, if◌then◌else◌, inl, inr, refl, sym, ap, ap₂, ◌∙◌, arith}
use Rattle.std.specs.Ordering.{nat_cmp}
use Rattle.std.specs.FinSet as set
use Rattle.std.specs.Cmp.{nat_cmp_total}
use Rattle.std.proofs.lemmas.Bool.{eq-eqb, ne_eqb, cases_eq, cases_lt, both_ways}
use Rattle.std.proofs.lemmas.List.{get_or-set_same, get_or-set_other, length-set, length-append}
use lib.ListN.{set as set_at}
use Rattle.lane_rows.specs.Matrix.{entry}
use Rattle.lane_rows.proofs.Bits.{contains-insert_nat}

abbrev pub Rows : Type 0
Rows = List (set.FinSet nat_cmp)

-- within the list the default plays no part
pub get_or-any : {A : Type 0} (xs : List A) (i : ℕ) (d e : A) → i < length xs → get_or xs i d ≡ get_or xs i e
get_or-any [] i d e h = absurd (omega arith)
get_or-any (x ∷ xs) zero d e h = refl
get_or-any (x ∷ xs) (suc i) d e h = get_or-any xs i d e (omega arith)

-- past the list there is the default
get_or-past : {A : Type 0} (xs : List A) (i : ℕ) (d : A) → length xs ≤ i → get_or xs i d ≡ d
get_or-past [] i d h = refl
get_or-past (x ∷ xs) zero d h = absurd (omega arith)
get_or-past (x ∷ xs) (suc i) d h = get_or-past xs i d (omega arith)

-- an entry starts at a row
pub starts_within : (rows : Rows) (a b : ℕ) → entry rows a b ≡ true → a < length rows
starts_within rows a b h =
    elim (cases_lt a (length rows)) [
      | inl below ↦ below
      | inr past ↦ absurd (both_ways (entry rows a b) (ap (λ r. set.contains r b) (get_or-past rows a set.empty past)
          ∙ set.contains-empty nat_cmp b) h)
    ]

-- so many rows, all of them empty
pub record IsBare (rows : Rows) (count : ℕ) : Type 0 where
  pub size : length rows ≡ count
  pub none : (a b : ℕ) → entry rows a b ≡ false

bare_push : (rows : Rows) → ((a b : ℕ) → entry rows a b ≡ false) → (a b : ℕ)
    → entry (rows ++ set.empty ∷ []) a b ≡ false
bare_push [] none zero b = set.contains-empty nat_cmp b
bare_push [] none (suc a) b = set.contains-empty nat_cmp b
bare_push (row ∷ rows) none zero b = none 0 b
bare_push (row ∷ rows) none (suc a) b = bare_push rows (λ c. none (suc c)) a b

pub bare_none : (rows : Rows) → rows ≡ [] → IsBare rows 0
bare_none rows is = record {
  size = ap length is;
  none = λ a b. ap (λ r. entry r a b) is ∙ set.contains-empty nat_cmp b;
}

pub bare_more : (rows new : Rows) (count : ℕ) (row : set.FinSet nat_cmp) → IsBare rows count → row ≡ set.empty
    → new ≡ rows ++ row ∷ []
    → IsBare new (count + 1)
bare_more rows new count row h bare is = record {
  size = ap length is ∙ omega (arith, length-append rows (row ∷ []), h.size);
  none = λ a b. ap (λ r. entry r a b) (is ∙ ap (λ r. rows ++ r ∷ []) bare) ∙ bare_push rows h.none a b;
}

-- one number more in one row is one entry more
pub entry-put : (rows : Rows) (start end : ℕ) (row : set.FinSet nat_cmp) → start < length rows
    → row ≡ set.insert (get_or rows start set.empty) end
    → (a b : ℕ) → entry (set_at rows start row) a b ≡ (((a == start) && (b == end)) || entry rows a b)
entry-put rows start end row within is a b =
    elim (cases_eq a start) [
      | inl same ↦
          ap (λ k. entry (set_at rows start row) k b) same
          ∙ ap (λ r. set.contains r b) (get_or-set_same rows start row set.empty within ∙ is)
          ∙ contains-insert_nat (get_or rows start set.empty) end b
          ∙ ap₂ (λ t k. (t && (b == end)) || entry rows k b) (sym (eq-eqb a start same)) (sym same)
      | inr other ↦
          ap (λ r. set.contains r b) (get_or-set_other rows start a row set.empty other)
          ∙ ap (λ t. (t && (b == end)) || entry rows a b) (sym (ne_eqb a start other))
    ]

-- a row with the other's numbers, where it has the number told
abbrev pub joined_where : set.FinSet nat_cmp → ℕ → set.FinSet nat_cmp → set.FinSet nat_cmp
joined_where row number other = if set.contains row number then set.union row other else row

-- the rows before one are joined with a row where they have the pivot, and the others are as they were
pub record AreJoinedBelow (rows : Rows) (pivot : ℕ) (through : set.FinSet nat_cmp) (now : Rows) (row : ℕ) : Type 0 where
  pub size : length now ≡ length rows
  pub done : (k : ℕ) → k < row → get_or now k set.empty ≡ joined_where (get_or rows k set.empty) pivot through
  pub rest : (k : ℕ) → row ≤ k → get_or now k set.empty ≡ get_or rows k set.empty

pub joined_none : (rows : Rows) (pivot : ℕ) (through : set.FinSet nat_cmp) → AreJoinedBelow rows pivot through rows 0
joined_none rows pivot through = record { size = refl; done = λ k h. absurd (omega arith); rest = λ k h. refl }

pub joined_more : (rows : Rows) (pivot : ℕ) (through : set.FinSet nat_cmp) (now : Rows) (row : ℕ)
    (new : set.FinSet nat_cmp)
    → AreJoinedBelow rows pivot through now row → row < length now
    → new ≡ joined_where (get_or now row set.empty) pivot through
    → AreJoinedBelow rows pivot through (set_at now row new) (row + 1)
joined_more rows pivot through now row new h within is = record {
  size = length-set now row new ∙ h.size;
  done = λ k below. elim (cases_eq k row) [
    | inl same ↦
        ap (λ j. get_or (set_at now row new) j set.empty) same
        ∙ get_or-set_same now row new set.empty within
        ∙ is
        ∙ ap (λ r. joined_where r pivot through) (h.rest row (omega arith)
        ∙ ap (λ j. get_or rows j set.empty) (sym same))
    | inr other ↦ get_or-set_other now row k new set.empty other ∙ h.done k (omega arith)
  ];
  rest = λ k from. get_or-set_other now row k new set.empty (λ e. omega arith) ∙ h.rest k (omega arith);
}

contains-joined_where : (row : set.FinSet nat_cmp) (pivot : ℕ) (through : set.FinSet nat_cmp) (b : ℕ)
    → set.contains (joined_where row pivot through) b
    ≡ (set.contains row b || (set.contains row pivot && set.contains through b))
contains-joined_where row pivot through b =
    elim (set.contains row pivot) as (λ t. set.contains (if t then set.union row through else row) b
    ≡ (set.contains row b || (t && set.contains through b))) [
      | true ↦ set.contains-union nat_cmp_total row through b
      | false ↦ or_none (set.contains row b)
    ]
  where
    or_none : (t : Bool) → t ≡ (t || false)
    or_none true = refl
    or_none false = refl

-- once all rows are joined with the pivot's, the entries are those of before and those over the pivot
pub entry-joined : (rows : Rows) (pivot : ℕ) (through : set.FinSet nat_cmp) (now : Rows) (row : ℕ) → length rows ≤ row
    → through ≡ set.union set.empty (get_or rows pivot set.empty) → AreJoinedBelow rows pivot through now row
    → (a b : ℕ) → entry now a b ≡ (entry rows a b || (entry rows a pivot && entry rows pivot b))
entry-joined rows pivot through now row all is h a b =
    let over : set.contains through b ≡ entry rows pivot b =
    ap (λ s. set.contains s b) is
    ∙ set.contains-union nat_cmp_total set.empty (get_or rows pivot set.empty) b
    ∙ ap (λ t. t || entry rows pivot b) (set.contains-empty nat_cmp b) in
    elim (cases_lt a (length rows)) [
      | inl below ↦
          ap (λ r. set.contains r b) (h.done a (omega arith))
          ∙ contains-joined_where (get_or rows a set.empty) pivot through b
          ∙ ap (λ t. entry rows a b || (entry rows a pivot && t)) over
      | inr past ↦
          let now_empty : get_or now a set.empty ≡ set.empty = get_or-past now a set.empty (omega (arith, h.size)) in
          let was_empty : get_or rows a set.empty ≡ set.empty = get_or-past rows a set.empty past in
          let none : (q : ℕ) → entry rows a q ≡ false =
          λ q. ap (λ r. set.contains r q) was_empty ∙ set.contains-empty nat_cmp q in
          ap (λ r. set.contains r b) now_empty
          ∙ set.contains-empty nat_cmp b
          ∙ ap₂ (λ x y. x || (y && entry rows pivot b)) (sym (none b)) (sym (none pivot))
    ]
