-- What the steps on a table ask, for a seat of that table.
use Rattle.std.proofs.Common.{◌≡◌, ℕ, ◌+◌, ◌-◌, ◌%◌, ◌^◌, ◌<◌, subst, sym, ap, ◌∙◌, arith, eqb}
use Rattle.std.specs.Prelude.{None}
use mathlib.Core.Option.{none}
use prog.Atomic.{either}
use Rattle.atomic_table.specs.Seated.{TableId}
use Rattle.atomic_table.specs.Table.{step, Allows, Splits, Joins}
use Rattle.ftl_cells.specs.shared.Work.{Meaning, cell_total, item_total, next_total, next_at, step_total, target_of, read_total, read_of, solved_word, IsStepOfItem, IsLawfulWork}
use Rattle.ftl_cells.specs.shared.State.{live, HandState, newcomer, next_name, given_up, after, after_join, split, Sends, IsFree, end_word}
use Rattle.ftl_cells.specs.shared.Table.{IsTableOf}
use Rattle.ftl_cells.specs.shared.Effects.{Known, look_effect, claim_effect, read_effect, fill_effect, mark_effect, send_effect, finish_effect, left_effect}
use Rattle.ftl_cells.specs.declared.shared.place.HandPlace.TheVariants.{Idle, Looked, Working}
use Rattle.ftl_cells.proofs.shared.Plays.{Holds, look_plays, claim_plays, read_plays, fill_plays, mark_plays, send_plays, finish_plays, left_plays, split_plays, join_plays}

-- the hand's work is what the cells say, what the table was told, and what its layout is for
module _ (said told laid : Meaning) (table : TableId) (states counters id : ℕ) (me : Known) (of : me.0.of ≡ said)
    (key : told ≡ laid) (work : laid ≡ said) (t : IsTableOf laid table states counters) where
  here : IsTableOf me.0.of table states counters
  here = subst (λ x. IsTableOf x table states counters) (work ∙ sym of) t

  law : IsLawfulWork me.0.of
  law = let h = here in h.lawful

  same : me.0.of ≡ told
  same = of ∙ sym work ∙ sym key

  back : (P : Meaning → Type 0) → P said → P me.0.of
  back P p = subst P (sym of) p

  pub look_asks : (i : ℕ) → i < item_total said → me.0.place ≡ live Idle
      → (counters + i < table.words) × Allows (Holds told) table.slots id me (counters + i) (λ y. y)
      (look_effect (step table.slots (counters + i) 0 0 none) me)
  look_asks i l idle = let h = here in let b : i < item_total me.0.of = back (λ x. i < item_total x) l in (
    omega (arith, h.words, h.counters_at),
    subst (λ x. Allows (Holds x) table.slots id me (counters + i) (λ y. y)
        (look_effect (step table.slots (counters + i) 0 0 none) me)) same
        (look_plays table.slots id me law (counters + i) i (omega (arith, h.counters_at)) b idle),
  )

  pub claim_asks : (i : ℕ) → i < item_total said → me.0.place ≡ live (Looked i)
      → (states + i < table.words) × Allows (Holds told) table.slots id me (states + i) (λ y. either (eqb y 0) 1 y)
      (claim_effect (step table.slots (states + i) 0 1 none) me)
  claim_asks i l looked = let h = here in let b : i < item_total me.0.of = back (λ x. i < item_total x) l in (
    omega (arith, h.words, h.states_at),
    subst (λ x. Allows (Holds x) table.slots id me (states + i) (λ y. either (eqb y 0) 1 y)
        (claim_effect (step table.slots (states + i) 0 1 none) me)) same
        (claim_plays table.slots id me law (states + i) i (omega (arith, h.states_at)) looked),
  )

  pub read_asks : (i j r c : ℕ) → IsStepOfItem said i j → r < read_total said i j → c ≡ read_of said i j r
      → me.0.place ≡ live (Working i j r)
      → (1 + c < table.words) × Allows (Holds told) table.slots id me (1 + c) (λ y. y)
      (read_effect (step table.slots (1 + c) 0 0 none) me)
  read_asks i j r c st l is working = let h = here in
      let st' : IsStepOfItem me.0.of i j = back (λ x. IsStepOfItem x i j) st in
      let b : r < read_total me.0.of i j = back (λ x. r < read_total x i j) l in
      let e : c ≡ read_of me.0.of i j r = back (λ x. c ≡ read_of x i j r) is in
      let in_range : read_of me.0.of i j r < cell_total me.0.of = let w = law in w.read_in_range i j r st' b in (
        omega (arith, h.words),
        subst (λ x. Allows (Holds x) table.slots id me (1 + c) (λ y. y)
            (read_effect (step table.slots (1 + c) 0 0 none) me)) same
            (read_plays table.slots id me law (1 + c) i j r (ap (λ y. 1 + y) e) st'.step b working),
      )

  pub fill_asks : (i j new c : ℕ) → IsStepOfItem said i j → new ≡ solved_word said (target_of said i j)
      → c ≡ target_of said i j → me.0.place ≡ live (Working i j (read_total said i j))
      → (1 + c < table.words) × Allows (Holds told) table.slots id me (1 + c) (λ y. new)
      (λ y. fill_effect (step table.slots (1 + c) new 0 none) me new)
  fill_asks i j new c st word is working = let h = here in
      let st' : IsStepOfItem me.0.of i j = back (λ x. IsStepOfItem x i j) st in
      let e : c ≡ target_of me.0.of i j = back (λ x. c ≡ target_of x i j) is in
      let in_range : target_of me.0.of i j < cell_total me.0.of = let w = law in w.target_in_range i j st' in (
        omega (arith, h.words),
        subst (λ x. Allows (Holds x) table.slots id me (1 + c) (λ y. new)
            (λ y. fill_effect (step table.slots (1 + c) new 0 none) me new)) same
            (fill_plays table.slots id me law (1 + c) new i j (read_total said i j) (ap (λ y. 1 + y) e)
            (back (λ x. new ≡ solved_word x (target_of x i j)) word) st'.step
            (ap (λ x. read_total x i j) (sym of)) working),
      )

  pub mark_asks : (i : ℕ) → i < item_total said → me.0.place ≡ live (Working i (step_total said i) 0)
      → (states + i < table.words) × Allows (Holds told) table.slots id me (states + i) (λ y. 2)
      (λ y. mark_effect (step table.slots (states + i) 2 0 none) me 2)
  mark_asks i l working = let h = here in let b : i < item_total me.0.of = back (λ x. i < item_total x) l in (
    omega (arith, h.words, h.states_at),
    subst (λ x. Allows (Holds x) table.slots id me (states + i) (λ y. 2)
        (λ y. mark_effect (step table.slots (states + i) 2 0 none) me 2)) same
        (mark_plays table.slots id me law (states + i) i (step_total said i) 0 (omega (arith, h.states_at))
        (ap (λ x. step_total x i) (sym of)) working),
  )

  pub send_asks : (i n next : ℕ) → i < item_total said → n < next_total said i → next ≡ next_at said i n
      → Sends me.0.place i n
      → (counters + next < table.words) × Allows (Holds told) table.slots id me (counters + next)
      (λ y. (y + (2 ^ 64 - 1)) % 2 ^ 64) (send_effect (step table.slots (counters + next) 1 0 none) me)
  send_asks i n next known l is sent = let h = here in
      let b : n < next_total me.0.of i = back (λ x. n < next_total x i) l in
      let e : next ≡ next_at me.0.of i n = back (λ x. next ≡ next_at x i n) is in
      let in_range : next_at me.0.of i n < item_total me.0.of = let w = law in w.next_in_range i n
      (back (λ x. i < item_total x) known) b in (
        omega (arith, h.words, h.counters_at),
        subst (λ x. Allows (Holds x) table.slots id me (counters + next) (λ y. (y + (2 ^ 64 - 1)) % 2 ^ 64)
            (send_effect (step table.slots (counters + next) 1 0 none) me)) same
            (send_plays table.slots id me law (counters + next) i n (omega (arith, h.counters_at)) b sent),
      )

  pub finish_asks : (i n : ℕ) → n ≡ next_total said i → Sends me.0.place i n
      → (0 < table.words) × Allows (Holds told) table.slots id me 0 (λ y. (y + (2 ^ 64 - 1)) % 2 ^ 64)
      (finish_effect (step table.slots 0 1 0 none) me)
  finish_asks i n done sent = let h = here in (
    omega (arith, h.words),
    subst (λ x. Allows (Holds x) table.slots id me 0 (λ y. (y + (2 ^ 64 - 1)) % 2 ^ 64)
        (finish_effect (step table.slots 0 1 0 none) me)) same
        (finish_plays table.slots id me law i n (back (λ x. n ≡ next_total x i) done) sent),
  )

  pub left_asks : me.0.place ≡ live Idle
      → (0 < table.words) × Allows (Holds told) table.slots id me 0 (λ y. y)
      (left_effect (step table.slots 0 0 0 none) me)
  left_asks idle = let h = here in (
    omega (arith, h.words),
    subst (λ x. Allows (Holds x) table.slots id me 0 (λ y. y) (left_effect (step table.slots 0 0 0 none) me)) same
        (left_plays table.slots id me law idle),
  )

  pub split_asks : me.0.place ≡ live Idle
      → (0 < table.words) × Splits (Holds told) id me.0 (after me.0 me.0.place split end_word None)
      (newcomer me.0.of (next_name me.0))
  split_asks idle = let h = here in (
    omega (arith, h.words),
    subst
        (λ x. Splits (Holds x) id me.0 (after me.0 me.0.place split end_word None)
        (newcomer me.0.of (next_name me.0))) same
        (split_plays id me.0 idle),
  )

  pub join_asks : (other : ℕ) (w : HandState) → IsFree me.0.place → IsFree w.place
      → (0 < table.words) × Joins (Holds told) id me.0 other w (after_join me.0 w) given_up
  join_asks other w f g = let h = here in (
    omega (arith, h.words),
    subst
        (λ x. Joins (Holds x) id me.0 other w (after_join me.0 w) given_up) same
        (join_plays id other me.0 w f g),
  )
