-- The count of waiting items that the holds of a pool share, and its steps.
use Rattle.std.specs.Prelude.{◌≡◌, ℕ, suc, ◌+◌, ◌<◌, ◌≤◌, List, [], ◌∷◌, ◌++◌, length, slice_set, Option, Some, None}
use Rattle.std.specs.List.{sum_by}
use mathlib.Core.Option.{some}
use lib.ListN.{get_elem?}
use Rattle.atomic_table.specs.Seated.{TableId}

-- what a hold did at the count: the pool's number of items, how many holds may still be made of this one, its puts, its
-- takes, its loads, and what its last load held
pub record Counted : Type 0 where
  pub items : ℕ
  pub spare : ℕ
  pub puts : ℕ
  pub takes : ℕ
  pub loads : ℕ
  pub last : Option ℕ

-- there are at most so many holds
abbrev pub most_holds : ℕ
most_holds = 64

-- a hold that has done nothing, of which so many may be made
abbrev pub new_hold : ℕ → ℕ → Counted
new_hold items spare = record { items = items; spare = spare; puts = 0; takes = 0; loads = 0; last = None }

-- the first hold
abbrev pub first_hold : ℕ → Counted
first_hold items = new_hold items 63

-- a hold after it loaded the count, which held this number
abbrev pub after_load : Counted → ℕ → Counted
after_load v n = record {
  items = v.items;
  spare = v.spare;
  puts = v.puts;
  takes = v.takes;
  loads = v.loads + 1;
  last = Some n;
}

-- a hold after it added an item to the count
abbrev pub after_put : Counted → Counted
after_put v = record {
  items = v.items;
  spare = v.spare;
  puts = v.puts + 1;
  takes = v.takes;
  loads = v.loads;
  last = v.last;
}

-- a hold after it took an item from the count
abbrev pub after_take : Counted → Counted
after_take v = record {
  items = v.items;
  spare = v.spare;
  puts = v.puts;
  takes = v.takes + 1;
  loads = v.loads;
  last = v.last;
}

-- a hold after another was made of it
abbrev pub after_split : Counted → ℕ → Counted
after_split v spare = record {
  items = v.items;
  spare = spare;
  puts = v.puts;
  takes = v.takes;
  loads = v.loads;
  last = v.last;
}

-- one step of one hold on the count: the number and the holds before, the number and the holds after
pub data CountStep (items n : ℕ) (holds : List Counted) : ℕ → List Counted → Type 0 where
  loads : (h : ℕ) (v : Counted) → get_elem? holds h ≡ some v
      → CountStep items n holds n (slice_set holds h (after_load v n))
  puts : (h : ℕ) (v : Counted) → get_elem? holds h ≡ some v → v.puts < items
      → CountStep items n holds (n + 1) (slice_set holds h (after_put v))
  takes : (h left : ℕ) (v : Counted) → get_elem? holds h ≡ some v → n ≡ suc left
      → CountStep items n holds left (slice_set holds h (after_take v))
  splits : (h spare : ℕ) (v : Counted) → get_elem? holds h ≡ some v → v.spare ≡ suc spare
      → CountStep items n holds n (slice_set holds h (after_split v spare) ++ new_hold items 0 ∷ [])

-- the numbers and holds that steps lead to from a pool with one hold and no item
pub data IsReached (items : ℕ) : ℕ → List Counted → Type 0 where
  begins : IsReached items 0 (first_hold items ∷ [])
  goes_on : {n k : ℕ} {holds more : List Counted} → IsReached items n holds → CountStep items n holds k more
      → IsReached items k more

-- the word of the count and its holds are in a state that steps lead to
abbrev pub IsCount : ℕ → List ℕ → List Counted → Type 0
IsCount items words holds = (n : ℕ) × (words ≡ n ∷ []) × IsReached items n holds

-- the count is the number of puts less that of takes over all holds, none has put more often than there are items, and
-- there are not too many
pub record IsBalanced (items n : ℕ) (holds : List Counted) : Type 0 where
  pub balance : sum_by (λ h. h.puts) holds ≡ sum_by (λ h. h.takes) holds + n
  pub each : (id : ℕ) (h : Counted) → get_elem? holds id ≡ some h → (h.items ≡ items) × (h.puts ≤ items)
  pub few : length holds + sum_by (λ h. h.spare) holds ≤ most_holds

-- the steps of some pool of as many items as this hold's lead to a state in which the count is this number and one of
-- the holds is this one
pub record IsMoment (n : ℕ) (v : Counted) : Type 0 where
  pub holds : List Counted
  pub reached : IsReached v.items n holds
  pub id : ℕ
  pub there : get_elem? holds id ≡ some v

-- a pool as contracts see it: the table of its count, and its number of items
pub record PoolModel : Type 0 where
  pub table : TableId
  pub items : ℕ

-- a hold's seat at the count
pub record TallyModel : Type 0 where
  pub table : TableId
  pub state : Counted

-- the seat is one of this count
abbrev pub IsTallyOf : PoolModel → TallyModel → Type 0
IsTallyOf pool tally = (tally.table ≡ pool.table) × (tally.state.items ≡ pool.items)

-- nothing was taken: the last load held 0, in a state that steps lead to
pub record TakesNone (v w : Counted) : Type 0 where
  pub puts : w.puts ≡ v.puts
  pub takes : w.takes ≡ v.takes
  pub loads : v.loads < w.loads
  pub before : Counted
  pub moment : IsMoment 0 before
  pub is : w ≡ after_load before 0

-- an item was taken: the last load held a number that is not 0, in a state that steps lead to, and the take followed
pub record TakesOne (v w : Counted) : Type 0 where
  pub puts : w.puts ≡ v.puts
  pub takes : w.takes ≡ v.takes + 1
  pub loads : v.loads < w.loads
  pub left : ℕ
  pub before : Counted
  pub moment : IsMoment (suc left) before
  pub is : w ≡ after_take (after_load before (suc left))

-- what a take does to the count, by its answer
abbrev pub Takes : Counted → Option ℕ → Counted → Type 0
Takes v None w = TakesNone v w
Takes v (Some item) w = TakesOne v w
