-- A hand with all steps of its item filled has made no reads of a further step.
use Rattle.std.proofs.Common.{◌≡◌, ℕ, ◌≤◌, subst, sym, ap, ◌∙◌, arith, length}
use Rattle.atomic_table.specs.declared.shared.Seat.{Seat}
use Rattle.ftl_cells.specs.shared.Work.{Meaning, no_step, item_at, step_total, reads_of_step, read_total}
use Rattle.ftl_cells.specs.shared.State.{live, HandState}
use Rattle.ftl_cells.specs.shared.Kept.{IsInRange}
use Rattle.ftl_cells.specs.shared.Table.{IsSeatedAt}
use Rattle.ftl_cells.specs.shared.Calls.{HandModel, CanMark}
use Rattle.ftl_cells.specs.declared.shared.place.HandPlace.{HandPlace}
use Rattle.ftl_cells.specs.declared.shared.place.HandPlace.TheVariants.{Working}
use Rattle.ftl_cells.proofs.shared.KeptSteps.{past_end}

pub read_total-end : (m : Meaning) (i : ℕ) → read_total m i (step_total m i) ≡ 0
unfolding reads_of_step step_total
read_total-end m i = ap (λ s. length s.reads)
    (past_end (item_at m i).steps no_step (length (item_at m i).steps) (omega arith))

pub mark_ready : (m : Meaning) (h : HandModel) (place : HandPlace) (seat : Seat ℕ HandState) (i j r : ℕ)
    → seat.me.0.place ≡ h.state.place → CanMark m h.state.place → seat.me.0.of ≡ m → IsSeatedAt place seat
    → place ≡ Working i j r
    → seat.me.0.place ≡ live (Working i (step_total m i) 0)
mark_ready m h place seat i j r view can of seated e =
    let p : seat.me.0.place ≡ live (Working i j r) = seated.is ∙ ap live e in
    let done : j ≡ step_total m i = subst (CanMark m) (sym view ∙ p) can in
    let range : IsInRange m (live (Working i j r)) = subst (λ x. IsInRange m (live x)) e
    (subst (λ x. IsInRange x (live place)) of seated.in_range) in
    let few : r ≤ read_total m i j = range.2 in
    let none : read_total m i j ≡ 0 = ap (read_total m i) done ∙ read_total-end m i in
    let z : r ≡ 0 = omega arith in
    p ∙ ap (λ x. live (Working i x r)) done ∙ ap (λ x. live (Working i (step_total m i) x)) z
