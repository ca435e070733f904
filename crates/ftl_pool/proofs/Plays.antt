-- Each kind of step, made on the table, is a step of the count.
use Rattle.std.proofs.Common.{◌≡◌, ℕ, ◌+◌, ◌-◌, ◌%◌, ◌^◌, ◌<◌, List, get_or, set, eqb, subst, refl, sym, ap, ◌∙◌, arith}
use mathlib.Core.Option.{some, none}
use lib.ListN.{get_elem?}
use prog.Atomic.{either}
use Rattle.atomic_table.specs.Seated.{TableId}
use Rattle.atomic_table.specs.Table.{State, step, keeps, Allows, Splits}
use Rattle.atomic_table.proofs.Lists.{exchanged, set_again}
use Rattle.ftl_pool.specs.Count.{Counted, new_hold, after_load, after_put, after_take, after_split, loads, puts, takes, splits, IsReached, goes_on, IsCount}
use Rattle.ftl_pool.specs.Effects.{Known, load_effect, put_effect, take_effect}
use Rattle.ftl_pool.proofs.Balances.{few_wait}

abbrev pub Holds : ℕ → State ℕ Counted → Type 0
Holds items s = IsCount items s.words s.views

-- a play that makes a step of the count
plays : (items slots id : ℕ) (me : Known) (f : ℕ → ℕ) (effect : ℕ → Known → Type 0)
    → ((n : ℕ) (holds : List Counted) → IsReached items n holds → get_elem? holds id ≡ some me.0
    → (w : Counted) × IsReached items (f n) (set holds id w) × effect n (w, me.1))
    → Allows (Holds items) slots id me 0 f effect
plays items slots id me f effect each s r homes at bound =
    let n : ℕ = get_or s.words 0 0 in
    let is : r.0 ≡ n = sym (ap (λ (ws : List ℕ). get_or ws 0 0) r.1) in
    let e = each r.0 s.views r.2 at in (
      e.0,
      keeps,
      tt,
      (f n, ap (λ (ws : List ℕ). set ws 0 (f n)) r.1, subst (λ x. IsReached items (f x) (set s.views id e.0)) is e.1),
      subst (λ x. effect x (e.0, me.1)) is e.2,
    )

module _ (slots id : ℕ) (me : Known) where
  load_plays : Allows (Holds me.0.items) slots id me 0 (λ n. n) (load_effect (step slots 0 0 0 none) me)
  load_plays = plays me.0.items slots id me (λ n. n) (load_effect (step slots 0 0 0 none) me) (λ n holds r at. (
    after_load me.0 n,
    goes_on r (loads id me.0 at),
    (record { holds = holds; reached = r; id = id; there = at }, refl),
  ))

  put_plays : me.0.items < 2 ^ 32 → me.0.puts < me.0.items
      → Allows (Holds me.0.items) slots id me 0 (λ n. (n + 1) % 2 ^ 64) (put_effect (step slots 0 1 0 none) me)
  put_plays small room = plays me.0.items slots id me (λ n. (n + 1) % 2 ^ 64) (put_effect (step slots 0 1 0 none) me)
      (λ n holds r at.
      let fits : n + 1 < 2 ^ 64 = few_wait me.0.items n holds small r in
      let same : n + 1 ≡ (n + 1) % 2 ^ 64 = omega arith in (
        after_put me.0,
        subst (λ x. IsReached me.0.items x (set holds id (after_put me.0))) same (goes_on r (puts id me.0 at room)),
        refl,
      ))

  take_plays : (old : ℕ) → 0 < old
      → Allows (Holds me.0.items) slots id me 0 (λ n. either (eqb n old) (old - 1) n)
      (take_effect (step slots 0 old (old - 1) none) me)
  take_plays old some_left = plays me.0.items slots id me (λ n. either (eqb n old) (old - 1) n)
      (take_effect (step slots 0 old (old - 1) none) me) (λ n holds r at.
      exchanged n old (old - 1)
      (λ x. (w : Counted) × IsReached me.0.items x (set holds id w) × take_effect (step slots 0 old (old - 1) none) me n
      (w, me.1))
      (λ e. (
        after_take me.0,
        goes_on r (takes id (old - 1) me.0 at (omega arith)),
        ((λ _. refl), λ ne. absurd (ne e)),
      ))
      (λ ne. (
        me.0,
        subst (IsReached me.0.items n) (sym (set_again holds id me.0 at)) r,
        ((λ e. absurd (ne e)), λ _. refl),
      )))

  split_plays : 0 < me.0.spare
      → Splits (Holds me.0.items) id me.0 (after_split me.0 (me.0.spare - 1)) (new_hold me.0.items 0)
  split_plays some_left s r at = (r.0, r.1, goes_on r.2 (splits id (me.0.spare - 1) me.0 at (omega arith)))

-- what the steps on a table ask, for a seat of that table
module _ (said key : ℕ) (table : TableId) (id : ℕ) (me : Known) (of : me.0.items ≡ said) (is : key ≡ said)
    (words : table.words ≡ 1) (small : key < 2 ^ 32) where
  same : me.0.items ≡ key
  same = of ∙ sym is

  pub load_asks : (0 < table.words) × Allows (Holds key) table.slots id me 0 (λ n. n)
      (load_effect (step table.slots 0 0 0 none) me)
  load_asks = (
    omega (arith, words),
    subst (λ x. Allows (Holds x) table.slots id me 0 (λ n. n) (load_effect (step table.slots 0 0 0 none) me)) same
        (load_plays table.slots id me),
  )

  pub put_asks : me.0.puts < said
      → (0 < table.words) × Allows (Holds key) table.slots id me 0 (λ n. (n + 1) % 2 ^ 64)
      (put_effect (step table.slots 0 1 0 none) me)
  put_asks room = (
    omega (arith, words),
    subst (λ x. Allows (Holds x) table.slots id me 0 (λ n. (n + 1) % 2 ^ 64)
        (put_effect (step table.slots 0 1 0 none) me)) same
        (put_plays table.slots id me (omega (arith, same, small)) (omega (arith, of, room))),
  )

  pub take_asks : (old : ℕ) → 0 < old
      → (0 < table.words) × Allows (Holds key) table.slots id me 0 (λ n. either (eqb n old) (old - 1) n)
      (take_effect (step table.slots 0 old (old - 1) none) me)
  take_asks old some_left = (
    omega (arith, words),
    subst (λ x. Allows (Holds x) table.slots id me 0 (λ n. either (eqb n old) (old - 1) n)
        (take_effect (step table.slots 0 old (old - 1) none) me)) same (take_plays table.slots id me old some_left),
  )

  pub split_asks : 0 < me.0.spare
      → (0 < table.words) × Splits (Holds key) id me.0 (after_split me.0 (me.0.spare - 1)) (new_hold me.0.items 0)
  split_asks some_left = (
    omega (arith, words),
    subst (λ x. Splits (Holds x) id me.0 (after_split me.0 (me.0.spare - 1)) (new_hold me.0.items 0)) same
        (split_plays table.slots id me some_left),
  )
