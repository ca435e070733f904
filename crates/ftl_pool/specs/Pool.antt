-- The holds of a pool as contracts see them, and what they put.
use Rattle.std.specs.Prelude.{◌≡◌, ◌≢◌, ℕ, ◌+◌, ◌<◌, List, [], ◌++◌, length, map, take, drop, eqb, None}
use Rattle.std.specs.Prelude.{slice_index_or}
use Rattle.std.specs.List.{All, IsDistinct}
use Rattle.atomic_table.specs.Seated.{TableId}
use Rattle.ftl_pool.specs.Count.{Counted, PoolModel}
use Rattle.ftl_pool.specs.Deque.{DequeName}

-- a hold: which pool it is of, what it did at the count, and the items that were put through it
pub record HoldModel : Type 0 where
  pub table : TableId
  pub state : Counted
  pub puts : List ℕ

-- the hold is one that this pool made
abbrev pub IsHoldOf : PoolModel → HoldModel → Type 0
IsHoldOf pool hold = (hold.table ≡ pool.table) × (hold.state.items ≡ pool.items)

-- the item is none of these
abbrev pub IsNew : ℕ → List ℕ → Type 0
IsNew item puts = All (λ x. x ≢ item) puts

-- the hold is one that this pool made, and nothing was put or taken through it
pub record IsFreshHoldOf (pool : PoolModel) (hold : HoldModel) : Type 0 where
  pub made : IsHoldOf pool hold
  pub puts : hold.puts ≡ []
  pub put : hold.state.puts ≡ 0
  pub takes : hold.state.takes ≡ 0
  pub loads : hold.state.loads ≡ 0
  pub last : hold.state.last ≡ None

-- these items were put through a hold, each once
pub record ArePut (state : Counted) (puts : List ℕ) : Type 0 where
  pub once : IsDistinct eqb puts
  pub below : All (λ x. x < state.items) puts
  pub count : state.puts ≡ length puts

-- a hold of deques: beside the rest, which deque is its own, which ones it steals from, and what it took from each, its
-- own first
pub record StealHoldModel : Type 0 where
  pub hold : HoldModel
  pub own : DequeName
  pub others : List DequeName
  pub taken : List (List ℕ)

-- the hold is one that this pool made, and nothing was put or taken through it
pub record IsFreshStealHoldOf (pool : PoolModel) (steal : StealHoldModel) : Type 0 where
  pub hold : IsFreshHoldOf pool steal.hold
  pub each : length steal.taken ≡ length steal.others + 1
  pub taken : All (λ items. items ≡ []) steal.taken

-- it has so many deques to take from, of which the first is its own
abbrev pub HasDeques : ℕ → StealHoldModel → Type 0
HasDeques count steal = length steal.taken ≡ count

-- the own deque of each of these holds
abbrev pub own_deques : List StealHoldModel → List DequeName
own_deques holds = map (λ (h : StealHoldModel). h.own) holds

-- the deques that each of these holds steals from
abbrev pub stolen_deques : List StealHoldModel → List (List DequeName)
stolen_deques holds = map (λ (h : StealHoldModel). h.others) holds

-- the hold steals from no other deque
abbrev pub StealsFromNone : StealHoldModel → Type 0
StealsFromNone steal = steal.others ≡ []

-- the deques that the hold puts into and steals from stay the same
abbrev pub KeepsDeques : StealHoldModel → StealHoldModel → Type 0
KeepsDeques steal next = (next.own ≡ steal.own) × (next.others ≡ steal.others)

-- all deques but the one at this place, each once: those after it, and then those before it
abbrev pub others_of : List DequeName → ℕ → List DequeName
others_of deques at = drop (at + 1) deques ++ take at deques

-- each of these holds steals from the deques of the others, each once
abbrev pub StealFromOthers : List StealHoldModel → Type 0
StealFromOthers holds = (k : ℕ) → k < length holds
    → slice_index_or (stolen_deques holds) k [] ≡ others_of (own_deques holds) k
