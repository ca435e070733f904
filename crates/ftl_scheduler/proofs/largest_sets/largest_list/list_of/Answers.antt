use Rattle.std.proofs.Common.{◌≡◌, ℕ, sym, ◌∙◌, ap, subst, arith, filter, not, Contains}
use Rattle.std.specs.FinSet as set
use Rattle.ftl_scheduler.specs.largest_sets.LargestList.{IsLargestList}
use Rattle.ftl_scheduler.specs.largest_sets.Rows.{Row}
use Rattle.ftl_scheduler.specs.largest_sets.Staying.{is_first}
use Rattle.ftl_scheduler.specs.largest_sets.Turns.{Turns, after}
use Rattle.ftl_scheduler.proofs.largest_sets.Leaving.{is_largest_list}
use Rattle.ftl_scheduler.proofs.largest_sets.Turns.{turns_within}
use Rattle.ftl_scheduler.proofs.largest_sets.largest_list.list_of.Goals as goal

-- the entries of the order are attributes
pub without-requires : goal.without-requires
without-requires c = record {
  few = λ a h.
      let within =
      c.requires.sized.known a
      (turns_within c.args.constraints.now.earlier c.args.all.now c.copy_of-placed.result c.in_ok-turns.turns.items
      c.in_ok-turns.ensures.turns a (subst (λ xs. Contains xs a) c.as_slice.ensures.value h)) in
      let few = c.requires.sized.few in
      omega (arith, within, few);
}

-- what is kept of the order
pub returns : goal.returns
returns c =
    let n = c.args.constraints.now in
    let all = c.args.all.now in
    let done = c.args.done.now in
    let xs = c.in_ok-turns.turns.items in
    let turns : Turns n.earlier all done xs =
    subst (λ (r : Row). Turns n.earlier all r xs) c.copy_of-placed.ensures.same c.in_ok-turns.ensures.turns in
    let first : (b : ℕ) → set.contains c.first_leaving-first.result b ≡ is_first n.late all done (after done xs) b =
    λ b.
    c.first_leaving-first.ensures.first b
    ∙ ap (λ (r : Row). is_first n.late all done r b)
    (c.in_ok-turns.ensures.placed ∙ ap (λ (r : Row). after r xs) c.copy_of-placed.ensures.same) in
    record {
      largest =
          subst (IsLargestList n all done)
          (sym (c.from_vec.ensures ∙ c.in_ok-without.ensures.left
          ∙ ap (filter (λ a. not (set.contains c.taken_away-taken.result a))) c.as_slice.ensures.value))
          (is_largest_list n all done c.first_leaving-first.result c.taken_away-taken.result xs c.requires.whole turns first
          c.taken_away-taken.ensures.closure);
    }
