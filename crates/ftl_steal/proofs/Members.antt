-- Workers that are made one by one, each with the next hold.
use Rattle.std.proofs.Common.{◌≡◌, ℕ, ◌<◌, ◌≤◌, List, [], ◌∷◌, ◌++◌, length, get_or, subst, sym, ap, ◌∙◌, vec_capacity, arith}
use Rattle.std.proofs.Math.Seq.{get_or-append_seam}
use Rattle.std.proofs.lemmas.List.{append_assoc, length-append, map-append, get_or_push, get_or_append_left}
use Rattle.std.specs.List.{All}
use mathlib.Core.Logic.{dite}
use native.Mathlib.Decide.{ℕ_discrete}
use Rattle.atomic_table.specs.Seated.{TableId}
use Rattle.crossbeam_utils.specs.Padded.{padded_value}
use Rattle.crossbeam_utils.specs.declared.cache_padded.CachePadded.{CachePadded}
use Rattle.ftl_cells.specs.shared.Work.{Meaning}
use Rattle.ftl_cells.specs.shared.State.{live}
use Rattle.ftl_cells.specs.shared.Calls.{IsMadeBy}
use Rattle.ftl_cells.specs.declared.shared.place.HandPlace.TheVariants.{Idle}
use Rattle.ftl_pool.specs.Count.{PoolModel}
use Rattle.ftl_pool.specs.Pool.{StealHoldModel}
use Rattle.ftl_steal.specs.declared.member.Member.{Member}
use Rattle.ftl_steal.specs.Dealing.{HasFreeBelow}
use Rattle.ftl_steal.specs.Workers.{IsMember, IsIdleMember, AreNumbered, holds_of}
use Rattle.ftl_steal.proofs.Rounds.{puts_dealt}

-- a worker with a new hand, whose hold has put what was dealt to it
pub is_idle : (m : Meaning) (table : TableId) (pool : PoolModel) (item : ℕ) (worker : CachePadded Member) (w : Member)
    → padded_value worker ≡ w → IsMadeBy m table w.hand → w.hand.state.place ≡ live Idle
    → w.hand.state.released ≡ [] → HasFreeBelow m pool item w.hold → m.max_reads ≤ vec_capacity w.reads
    → m.max_stack ≤ w.stack.room → IsIdleMember m table pool worker
is_idle m table pool item worker w e made idle none free reads stack = record {
  is = subst (IsMember m table pool) (sym e) (record {
    hand = made;
    hold = free.made;
    puts = puts_dealt m w.hold.hold.puts w.hand.state.released free.free none;
    reads = reads;
    stack = stack;
  });
  idle = ap (λ (x : Member). x.hand.state.place) e ∙ idle;
}

-- what holds of all holds holds of the next one
pub next_has : (P : StealHoldModel → Type 0) (xs rest all : List StealHoldModel) (hold : StealHoldModel)
    → xs ++ hold ∷ rest ≡ all → All P all → P hold
next_has P xs rest all hold e each =
    let known : length xs < length all =
    omega (arith, ap length e, length-append xs (hold ∷ rest)) in
    subst P (ap (λ (ys : List StealHoldModel). get_or ys (length xs) hold) (sym e) ∙ get_or-append_seam xs hold rest hold)
    (each (length xs) hold known)

-- one more worker with its place as number
pub numbers_push : (ws : List (CachePadded Member)) (w : CachePadded Member) → AreNumbered ws
    → (padded_value w).number ≡ length ws → AreNumbered (ws ++ w ∷ [])
numbers_push ws w all is k d l = dite (ℕ_discrete (length ws) k)
    (λ same. ap (λ (x : CachePadded Member). (padded_value x).number) (get_or_push ws w d k same) ∙ is ∙ same)
    (λ ne. let here : k < length ws = omega (arith, l, ne, length-append ws (w ∷ [])) in
    ap (λ (x : CachePadded Member). (padded_value x).number) (get_or_append_left ws (w ∷ []) d k here) ∙ all k d here)

-- the next hold goes to the next worker
pub holds_push : (ws : List (CachePadded Member)) (w : CachePadded Member) (hold : StealHoldModel)
    (rest all : List StealHoldModel) → (padded_value w).hold ≡ hold → holds_of ws ++ hold ∷ rest ≡ all
    → holds_of (ws ++ w ∷ []) ++ rest ≡ all
holds_push ws w hold rest all is e =
    let f : CachePadded Member → StealHoldModel = λ x. (padded_value x).hold in
    ap (λ (x : List StealHoldModel). x ++ rest) (map-append f ws (w ∷ []))
    ∙ append_assoc (holds_of ws) (f w ∷ []) rest
    ∙ ap (λ (x : StealHoldModel). holds_of ws ++ x ∷ rest) is ∙ e
