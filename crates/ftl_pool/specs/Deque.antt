-- What passes of a deque put and took, and the rule that each deque keeps.
use Rattle.std.specs.Prelude.{◌≡◌, ℕ, ◌+◌, ◌<◌, ◌≤◌, List, [], ◌∷◌, ◌++◌, length, cond, eqb, slice_index_or, slice_set}
use Rattle.std.specs.Prelude.{Option, Some, None}
use Rattle.std.specs.List.{sum_by, All}

-- a pass of a deque: the items that it put, and those that it took
pub record PassModel : Type 0 where
  pub put : List ℕ
  pub taken : List ℕ

-- which deque it is, as its handles tell
abbrev pub DequeName : Type 0
DequeName = ℕ × ℕ

-- a pass that did nothing
abbrev pub new_pass : PassModel
new_pass = record { put = []; taken = [] }

-- what was put is what was taken and what the deque holds, however the items are weighed
abbrev pub IsFair : List ℕ → List PassModel → Type 0
IsFair items passes = (weight : ℕ → ℕ) → sum_by (λ p. sum_by weight p.put) passes
    ≡ sum_by (λ p. sum_by weight p.taken) passes + sum_by weight items

-- how often the item stands in a list
abbrev pub times : ℕ → List ℕ → ℕ
times item xs = sum_by (λ x. cond (eqb x item) 1 0) xs

-- a pass after it put items
abbrev pub puts_effect : PassModel → List ℕ → PassModel → Type 0
puts_effect v items w = w ≡ record { put = v.put ++ items; taken = v.taken }

-- a pass after it took items
abbrev pub takes_effect : PassModel → List ℕ → PassModel → Type 0
takes_effect v items w = w ≡ record { put = v.put; taken = v.taken ++ items }

-- the owner's end of a deque: which deque, its pass, and for how many items there is room
pub record OwnModel : Type 0 where
  pub deque : DequeName
  pub put : List ℕ
  pub taken : List ℕ
  pub room : ℕ

-- a thief: which deque it takes from, and its pass
pub record ThiefModel : Type 0 where
  pub deque : DequeName
  pub pass : PassModel

-- a thief of a deque that has taken nothing
abbrev pub new_thief : DequeName → ThiefModel
new_thief deque = record { deque = deque; pass = new_pass }

-- an item joined what was taken, or nothing was taken
abbrev pub TakesItem : List ℕ → Option ℕ → List ℕ → Type 0
TakesItem taken None next = next ≡ taken
TakesItem taken (Some item) next = next ≡ taken ++ item ∷ []

-- a thief takes an item from its deque, or nothing
abbrev pub ThiefTakes : ThiefModel → Option ℕ → ThiefModel → Type 0
ThiefTakes thief None next = next ≡ thief
ThiefTakes thief (Some item) next = (next.deque ≡ thief.deque) × takes_effect thief.pass (item ∷ []) next.pass

-- one of these thieves takes an item, or none does
abbrev pub OneThiefTakes : List ThiefModel → Option ℕ → List ThiefModel → Type 0
OneThiefTakes thieves None next = next ≡ thieves
OneThiefTakes thieves (Some item) next = (at : ℕ) × (thief : ThiefModel) × (at < length thieves)
    × ThiefTakes (slice_index_or thieves at thief) (Some item) thief × (next ≡ slice_set thieves at thief)

-- an item was taken from one of these deques, or nothing from any
abbrev pub TakesFromOne : List (List ℕ) → Option ℕ → List (List ℕ) → Type 0
TakesFromOne taken None next = next ≡ taken
TakesFromOne taken (Some item) next = (deque : ℕ) × (deque < length taken)
    × (next ≡ slice_set taken deque (slice_index_or taken deque [] ++ item ∷ []))

-- what was taken from a deque grew by items alone that are none of the pool's
pub record TakesOutside (items : ℕ) (taken next : List ℕ) : Type 0 where
  pub more : List ℕ
  pub is : next ≡ taken ++ more
  pub over : All (λ x. items ≤ x) more

-- the same for each of these deques
pub record AllTakeOutside (items : ℕ) (taken next : List (List ℕ)) : Type 0 where
  pub count : length next ≡ length taken
  pub each : (deque : ℕ) → TakesOutside items (slice_index_or taken deque []) (slice_index_or next deque [])

-- the item joined what was taken from one of these deques, and beside it nothing was taken that is an item of the pool
pub record Joins (items : ℕ) (taken : List (List ℕ)) (item : ℕ) (next : List (List ℕ)) : Type 0 where
  pub before : List (List ℕ)
  pub outside : AllTakeOutside items taken before
  pub joins : TakesFromOne before (Some item) next
