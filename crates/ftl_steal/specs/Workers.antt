-- What each worker of a stage has, before, while and after it works.
use Rattle.std.specs.Prelude.{◌≡◌, ℕ, ◌+◌, ◌<◌, ◌≤◌, List, ◌++◌, length, map, slice_index_or}
use Rattle.std.specs.List.{All, sum_by}
use Rattle.std.specs.Vec.{vec_capacity}
use Rattle.atomic_table.specs.Seated.{TableId}
use Rattle.ftl_cells.specs.shared.Work.{Meaning, pred_total}
use Rattle.ftl_cells.specs.shared.State.{live, HandState}
use Rattle.ftl_cells.specs.shared.Calls.{IsMadeBy}
use Rattle.ftl_cells.specs.declared.shared.place.HandPlace.TheVariants.{Idle, Ended}
use Rattle.ftl_pool.specs.Count.{PoolModel}
use Rattle.ftl_pool.specs.Pool.{StealHoldModel, IsHoldOf}
use Rattle.ftl_steal.specs.declared.member.Member.{Member}
use Rattle.crossbeam_utils.specs.Padded.{padded_value}
use Rattle.crossbeam_utils.specs.declared.cache_padded.CachePadded.{CachePadded}

-- the items that a worker put: those that were dealt to it, which wait for none, and those that its hand released
pub record ArePutBy (m : Meaning) (puts released : List ℕ) : Type 0 where
  pub dealt : List ℕ
  pub are : puts ≡ dealt ++ released
  pub free : All (λ item. pred_total m item ≡ 0) dealt

-- a worker of a stage: a hand of the cells, a hold of the pool, and buffers with room
pub record IsMember (m : Meaning) (table : TableId) (pool : PoolModel) (worker : Member) : Type 0 where
  pub hand : IsMadeBy m table worker.hand
  pub hold : IsHoldOf pool worker.hold.hold
  pub puts : ArePutBy m worker.hold.hold.puts worker.hand.state.released
  pub reads : m.max_reads ≤ vec_capacity worker.reads
  pub stack : m.max_stack ≤ worker.stack.room

-- how many steps a hand made, with those of the hands that it took in
abbrev pub steps_made : HandState → ℕ
steps_made hand = hand.count + hand.taken

-- how many steps the hands of these workers made
abbrev pub step_total : List (CachePadded Member) → ℕ
step_total workers = sum_by (λ (w : CachePadded Member). steps_made (padded_value w).hand.state) workers

-- it is at no item
pub record IsIdleMember (m : Meaning) (table : TableId) (pool : PoolModel) (worker : CachePadded Member) : Type 0 where
  pub is : IsMember m table pool (padded_value worker)
  pub idle : (padded_value worker).hand.state.place ≡ live Idle

-- the holds of these workers
abbrev pub holds_of : List (CachePadded Member) → List StealHoldModel
holds_of workers = map (λ (w : CachePadded Member). (padded_value w).hold) workers

-- each has its place as number
abbrev pub AreNumbered : List (CachePadded Member) → Type 0
AreNumbered workers = (k : ℕ) (w : CachePadded Member) → k < length workers
    → (padded_value (slice_index_or workers k w)).number ≡ k

-- its hand is one of these cells, made a step at least, and found the end
pub record IsEndedMember (m : Meaning) (table : TableId) (worker : CachePadded Member) : Type 0 where
  pub made : IsMadeBy m table (padded_value worker).hand
  pub ended : (padded_value worker).hand.state.place ≡ live Ended
  pub stepped : 0 < (padded_value worker).hand.state.count
