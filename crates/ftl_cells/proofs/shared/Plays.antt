-- Each kind of step, made on the table with the right word, is a step of the state.
use Rattle.std.proofs.Common.{◌≡◌, ℕ, suc, ◌+◌, ◌-◌, ◌%◌, ◌^◌, ◌<◌, ◌≤◌, subst, refl, sym, ap, ◌∙◌, arith, List, get_or, set, eqb}
use Rattle.std.specs.Prelude.{Some, None}
use Rattle.std.proofs.lemmas.List.{set-get_or}
use mathlib.Core.Logic.{dite}
use mathlib.Core.Option.{some, none}
use native.Mathlib.Decide.{ℕ_discrete}
use lib.ListN.{get_elem?}
use prog.Atomic.{either}
use Rattle.atomic_table.specs.Table.{State, step, keeps, Allows, Splits, Joins}
use Rattle.atomic_table.proofs.Lists.{set_here, set_else, exchanged}
use Rattle.ftl_cells.specs.shared.Work.{Meaning, item_total, next_total, next_at, step_total, target_of, read_total, read_of, solved_word, IsStepOfItem, IsLawfulWork}
use Rattle.ftl_cells.specs.shared.State.{Place, live, HandState, newcomer, next_name, given_up, after, after_join, after_delivery, load_counter, claim, load_cell, store_cell, mark, delivery, split, Sends, IsFree, Steps, finds_ready, finds_waiting, claims, misses, reads, fills, marks, sends, finishes, ends, finds_left, Makes, steps, splits, joins, Reached, goes_on, end_word, cell_word, state_word, count_word}
use Rattle.ftl_cells.specs.shared.Kept.{stage_now, IsWorkingAt, IsInRange, IsHalfFilled, IsKeptBy}
use Rattle.ftl_cells.specs.shared.Effects.{Known, LookEffect, LookEffectAt, look_effect, ClaimEffect, ClaimEffectAt, claim_effect, ReadEffectAt, read_effect, FillEffectAt, fill_effect, MarkEffectAt, mark_effect, SendEffect, SendEffectAt, send_effect, FinishEffect, finish_effect, LeftEffect, left_effect}
use Rattle.ftl_cells.specs.shared.Interleavings.{IsNextState}
use Rattle.ftl_cells.specs.declared.shared.place.HandPlace.TheVariants.{Idle, Looked, Working, Filled, Ended}
use Rattle.ftl_cells.proofs.shared.Moves.{sends_has, has_one, sends_one}
use Rattle.ftl_cells.proofs.shared.Deliveries.{next_counter, end_counter}
use Rattle.ftl_cells.proofs.shared.KeptSteps.{elem_below, kept, hand_is, range_of}
use Rattle.ftl_cells.proofs.shared.Found.{read_is}

abbrev pub Holds : Meaning → State ℕ HandState → Type 0
Holds m s = Reached m s.words s.views

-- a play that makes a step of the state
plays : (n id : ℕ) (me : Known) (a : ℕ) (f : ℕ → ℕ) (effect : ℕ → Known → Type 0) → IsLawfulWork me.0.of
    → ((words : List ℕ) (hands : List HandState) → IsKeptBy me.0.of words hands → get_elem? hands id ≡ some me.0
    → get_or words a 0 < 18446744073709551616
    → (w : HandState) × Steps me.0.of words me.0 (set words a (f (get_or words a 0))) w × effect (get_or words a 0)
    (w, me.1))
    → Allows (Holds me.0.of) n id me a f (λ y new. IsNextState me.0 new.0 × effect y new)
plays n id me a f effect law each s r homes at bound =
    let e = each s.words s.views (kept me.0.of law s.words s.views r) at bound in
    let made : Makes me.0.of s.words s.views (set s.words a (f (get_or s.words a 0))) (set s.views id e.0) =
    steps id me.0
    e.0 (set s.words a (f (get_or s.words a 0))) at e.1 in
    let step : IsNextState me.0 e.0 = record {
      words = s.words;
      hands = s.views;
      next = set s.words a (f (get_or s.words a 0));
      more = set s.views id e.0;
      hand = id;
      reached = r;
      before = at;
      made = made;
      after = set_here s.views id e.0 (elem_below s.views id me.0 at);
    } in
    (e.0, keeps, tt, goes_on r made, (step, e.2))

-- one less, as the machine takes it
pub one_less : (l : ℕ) → suc l < 18446744073709551616 → (suc l + (2 ^ 64 - 1)) % 2 ^ 64 ≡ l
one_less l h = omega arith

module _ (n id : ℕ) (me : Known) (law : IsLawfulWork me.0.of) where
  m : Meaning
  m = me.0.of

  -- a load leaves the words
  loaded : (words next : List ℕ) (a : ℕ) (w : HandState) → next ≡ set words a (get_or words a 0)
      → Steps me.0.of words me.0 words w → Steps me.0.of words me.0 (set words a (get_or words a 0)) w
  loaded words next a w e = subst (λ ws. Steps me.0.of words me.0 ws w) (sym (set-get_or words a 0))

  pub look_plays : (a i : ℕ) → a ≡ count_word me.0.of i → i < item_total me.0.of → me.0.place ≡ live Idle
      → Allows (Holds me.0.of) n id me a (λ y. y) (look_effect (step n a 0 0 none) me)
  look_plays a i is l idle = subst (λ b. Allows (Holds me.0.of) n id me b (λ y. y) (look_effect (step n b 0 0 none) me))
      (sym is)
      (plays n id me (count_word me.0.of i) (λ y. y)
      (LookEffectAt (step n (count_word me.0.of i) 0 0 none) me) law (λ words hands k at bound.
      let tell : (w : HandState) → LookEffect me i (get_or words (count_word me.0.of i) 0) (w, me.1) → LookEffectAt
      (step n (count_word me.0.of i) 0 0 none) me (get_or words (count_word me.0.of i) 0) (w, me.1) =
      λ w t item e. let q : i ≡ item = omega arith in subst
      (λ y. LookEffect me y (get_or words (count_word me.0.of i) 0) (w, me.1)) q t in
      dite (ℕ_discrete (get_or words (count_word me.0.of i) 0) 0)
      (λ z. let w : HandState = after me.0 (live (Looked i)) load_counter (count_word me.0.of i) (Some 0) in (
        w,
        loaded words words (count_word me.0.of i) w (sym (set-get_or words (count_word me.0.of i) 0))
            (finds_ready i idle l z),
        tell w (record { ready = λ y. refl; waiting = λ ne. absurd (ne z) }),
      ))
      (λ ne. let w : HandState = after me.0 (live Idle) load_counter (count_word me.0.of i)
      (Some (get_or words (count_word me.0.of i) 0)) in (
        w,
        loaded words words (count_word me.0.of i) w (sym (set-get_or words (count_word me.0.of i) 0))
            (finds_waiting i idle l ne),
        tell w (record { ready = λ y. absurd (ne y); waiting = λ y. refl }),
      ))))

  pub claim_plays : (a i : ℕ) → a ≡ state_word me.0.of i → me.0.place ≡ live (Looked i)
      → Allows (Holds me.0.of) n id me a (λ y. either (eqb y 0) 1 y) (claim_effect (step n a 0 1 none) me)
  claim_plays a i is looked = subst
      (λ b. Allows (Holds me.0.of) n id me b (λ y. either (eqb y 0) 1 y) (claim_effect (step n b 0 1 none) me)) (sym is)
      (plays n id me (state_word me.0.of i) (λ y. either (eqb y 0) 1 y)
      (ClaimEffectAt me me.0.place) law (λ words hands k at bound.
      let held : ℕ = get_or words (state_word me.0.of i) 0 in
      let rule = k.rule in
      let known : i < item_total me.0.of = subst (IsInRange me.0.of) looked
      (range_of me.0.of law words hands k id me.0 at) in
      let top : get_or words (state_word me.0.of i) 0 ≤ 2 = rule.states i known in
      let tell : (w : HandState) → ClaimEffect me i (get_or words (state_word me.0.of i) 0)
      (w, me.1) → ClaimEffectAt me me.0.place (get_or words (state_word me.0.of i) 0) (w, me.1) =
      λ w t. subst (λ p. ClaimEffectAt me p (get_or words (state_word me.0.of i) 0) (w, me.1)) (sym looked) t in
      exchanged (get_or words (state_word me.0.of i) 0) 0 1
      (λ x. (w : HandState) × Steps me.0.of words me.0 (set words (state_word me.0.of i) x) w × ClaimEffectAt me
      me.0.place (get_or words (state_word me.0.of i) 0) (w, me.1))
      (λ z. let w : HandState = after me.0 (live (Working i 0 0)) claim (state_word me.0.of i) (Some 0) in
      (w, claims i looked z, tell w (record { bound = top; mine = λ y. refl; taken = λ ne. absurd (ne z) })))
      (λ ne. let w : HandState = after me.0 (live Idle) claim (state_word me.0.of i)
      (Some (get_or words (state_word me.0.of i) 0)) in (
        w,
        loaded words words (state_word me.0.of i) w (sym (set-get_or words (state_word me.0.of i) 0))
            (misses i looked ne),
        tell w (record { bound = top; mine = λ y. absurd (ne y); taken = λ y. refl }),
      ))))

  -- the hand's place in the stage
  stands : (words : List ℕ) (hands : List HandState) → IsKeptBy me.0.of words hands → get_elem? hands id ≡ some me.0
      → (P : Place → Type 0) → P me.0.place → P ((stage_now me.0.of words hands).place id)
  stands words hands k at P p = subst (λ v. P v.place) (sym (hand_is me.0.of law words hands k id me.0 at)) p

  pub read_plays : (a i j r : ℕ) → a ≡ cell_word (read_of me.0.of i j r) → j < step_total me.0.of i
      → r < read_total me.0.of i j → me.0.place ≡ live (Working i j r)
      → Allows (Holds me.0.of) n id me a (λ y. y) (read_effect (step n a 0 0 none) me)
  read_plays a i j r is b c working = subst
      (λ b. Allows (Holds me.0.of) n id me b (λ y. y) (read_effect (step n b 0 0 none) me)) (sym is)
      (plays n id me (cell_word (read_of me.0.of i j r)) (λ y. y)
      (ReadEffectAt me me.0.place) law (λ words hands k at bound.
      let range : IsInRange me.0.of (live (Working i j r)) = subst (IsInRange me.0.of) working
      (range_of me.0.of law words hands k id me.0 at) in
      let works : IsWorkingAt ((stage_now me.0.of words hands).place id) i j = stands words hands k at (λ p. IsWorkingAt p i j)
      (subst (λ p. IsWorkingAt p i j) (sym working) (refl, refl)) in
      let st : IsStepOfItem me.0.of i j = record { item = range.0; step = b } in
      let w : HandState = after me.0 (live (Working i j (r + 1))) load_cell (cell_word (read_of me.0.of i j r))
      (Some (get_or words (cell_word (read_of me.0.of i j r)) 0)) in (
        w,
        loaded words words (cell_word (read_of me.0.of i j r)) w
            (sym (set-get_or words (cell_word (read_of me.0.of i j r)) 0)) (reads i j r working b c),
        subst (λ p. ReadEffectAt me p (get_or words (cell_word (read_of me.0.of i j r)) 0) (w, me.1)) (sym working)
            (record {
              word = read_is me.0.of law (stage_now me.0.of words hands) k.rule id i j r works b c;
              value = law.values (read_of me.0.of i j r) (law.read_in_range i j r st c);
              now = refl;
            }),
      )))

  pub fill_plays : (a new i j r : ℕ) → a ≡ cell_word (target_of me.0.of i j)
      → new ≡ solved_word me.0.of (target_of me.0.of i j) → j < step_total me.0.of i → r ≡ read_total me.0.of i j
      → me.0.place ≡ live (Working i j r)
      → Allows (Holds me.0.of) n id me a (λ y. new) (λ y. fill_effect (step n a new 0 none) me new)
  fill_plays a new i j r is word b c working = subst
      (λ b. Allows (Holds me.0.of) n id me b (λ y. new) (λ y. fill_effect (step n b new 0 none) me new)) (sym is)
      (plays n id me (cell_word (target_of me.0.of i j)) (λ y. new)
      (λ y. FillEffectAt me me.0.place) law (λ words hands k at bound.
      let rule = k.rule in
      let works : IsWorkingAt ((stage_now me.0.of words hands).place id) i j = stands words hands k at (λ p. IsWorkingAt p i j)
      (subst (λ p. IsWorkingAt p i j) (sym working) (refl, refl)) in
      let half : IsHalfFilled me.0.of (stage_now me.0.of words hands) i j = rule.working id i j works in
      let empty : get_or words (cell_word (target_of me.0.of i j)) 0 ≡ 0 = half.rest j (omega arith) b in
      let w : HandState = after me.0 (live (Working i (j + 1) 0)) store_cell (cell_word (target_of me.0.of i j))
      (Some (get_or words (cell_word (target_of me.0.of i j)) 0)) in (
        w,
        subst (λ x. Steps me.0.of words me.0 (set words (cell_word (target_of me.0.of i j)) x) w) (sym word)
            (fills i j r working b c),
        subst (λ p. FillEffectAt me p (w, me.1)) (sym working)
            (ap (λ x. (
              after me.0 (live (Working i (j + 1) 0)) store_cell (cell_word (target_of me.0.of i j))
                  (Some x),
              me.1,
            )) empty),
      )))

  pub mark_plays : (a i j r : ℕ) → a ≡ state_word me.0.of i → j ≡ step_total me.0.of i
      → me.0.place ≡ live (Working i j r)
      → Allows (Holds me.0.of) n id me a (λ y. 2) (λ y. mark_effect (step n a 2 0 none) me 2)
  mark_plays a i j r is done working = subst
      (λ b. Allows (Holds me.0.of) n id me b (λ y. 2) (λ y. mark_effect (step n b 2 0 none) me 2)) (sym is)
      (plays n id me (state_word me.0.of i) (λ y. 2)
      (λ y. MarkEffectAt me me.0.place) law (λ words hands k at bound.
      let rule = k.rule in
      let works : IsWorkingAt ((stage_now me.0.of words hands).place id) i j = stands words hands k at (λ p. IsWorkingAt p i j)
      (subst (λ p. IsWorkingAt p i j) (sym working) (refl, refl)) in
      let half : IsHalfFilled me.0.of (stage_now me.0.of words hands) i j = rule.working id i j works in
      let one : get_or words (state_word me.0.of i) 0 ≡ 1 = half.state in
      let w : HandState = after me.0 (live (Filled i)) mark (state_word me.0.of i)
      (Some (get_or words (state_word me.0.of i) 0)) in (
        w,
        marks i j r working done,
        subst (λ p. MarkEffectAt me p (w, me.1)) (sym working)
            (ap (λ x. (after me.0 (live (Filled i)) mark (state_word me.0.of i) (Some x), me.1)) one),
      )))

  pub send_plays : (a i c : ℕ) → a ≡ count_word me.0.of (next_at me.0.of i c) → c < next_total me.0.of i
      → Sends me.0.place i c
      → Allows (Holds me.0.of) n id me a (λ y. (y + (2 ^ 64 - 1)) % 2 ^ 64) (send_effect (step n a 1 0 none) me)
  send_plays a i c is b sent = subst
      (λ b. Allows (Holds me.0.of) n id me b (λ y. (y + (2 ^ 64 - 1)) % 2 ^ 64) (send_effect (step n b 1 0 none) me))
      (sym is)
      (plays n id me (count_word me.0.of (next_at me.0.of i c)) (λ y. (y + (2 ^ 64 - 1)) % 2 ^ 64)
      (SendEffectAt me) law (λ words hands k at bound.
      let here : Sends ((stage_now me.0.of words hands).place id) i c = stands words hands k at
      (λ p. Sends p i c) sent in
      let count = next_counter me.0.of law (stage_now me.0.of words hands) id i c here k.rule b in
      let is : get_or words (count_word me.0.of (next_at me.0.of i c)) 0 ≡ suc count.0 = count.1 in
      let less : (get_or words (count_word me.0.of (next_at me.0.of i c)) 0 + (2 ^ 64 - 1)) % 2 ^ 64 ≡ count.0 =
      ap (λ y. (y + (2 ^ 64 - 1)) % 2 ^ 64) is ∙ one_less count.0 (subst (λ y. y < 18446744073709551616) is bound) in
      let w : HandState = after_delivery me.0 i c (next_at me.0.of i c)
      (count_word me.0.of (next_at me.0.of i c)) count.0 in (
        w,
        subst (λ x. Steps me.0.of words me.0 (set words (count_word me.0.of (next_at me.0.of i c)) x) w) (sym less)
            (sends i c count.0 sent b is),
        (λ item d other.
            let e : i ≡ item = has_one me.0.place i item (sends_has me.0.place i c sent)
            (sends_has me.0.place item d other) in
            let f : c ≡ d = sends_one me.0.place i item c d sent other in
            let effect : SendEffect me i c (get_or words (count_word me.0.of (next_at me.0.of i c)) 0) (w, me.1) = record
            { left = count.0; found = is; now = refl } in
            subst (λ y. SendEffect me y d (get_or words (count_word me.0.of (next_at me.0.of i c)) 0) (w, me.1)) e
            (subst (λ y. SendEffect me i y (get_or words (count_word me.0.of (next_at me.0.of i c)) 0) (w, me.1)) f
            effect)),
      )))

  pub finish_plays : (i c : ℕ) → c ≡ next_total me.0.of i → Sends me.0.place i c
      → Allows (Holds me.0.of) n id me 0 (λ y. (y + (2 ^ 64 - 1)) % 2 ^ 64) (finish_effect (step n 0 1 0 none) me)
  finish_plays i c done sent =
      plays n id me 0 (λ y. (y + (2 ^ 64 - 1)) % 2 ^ 64) (FinishEffect me) law
      (λ words hands k at bound.
      let here : Sends ((stage_now me.0.of words hands).place id) i c = stands words hands k at
      (λ p. Sends p i c) sent in
      let count = end_counter me.0.of law (stage_now me.0.of words hands) id i c here k.rule in
      let is : get_or words 0 0 ≡ suc count.0 = count.1 in
      let less : (get_or words 0 0 + (2 ^ 64 - 1)) % 2 ^ 64 ≡ count.0 =
      ap (λ y. (y + (2 ^ 64 - 1)) % 2 ^ 64) is ∙ one_less count.0 (subst (λ y. y < 18446744073709551616) is bound) in
      let w : HandState = after me.0 (live Idle) delivery end_word (Some (suc count.0)) in (
        w,
        subst (λ x. Steps me.0.of words me.0 (set words 0 x) w) (sym less) (finishes i c count.0 sent done is),
        record { left = count.0; found = is; now = refl },
      ))

  pub left_plays : me.0.place ≡ live Idle
      → Allows (Holds me.0.of) n id me 0 (λ y. y) (left_effect (step n 0 0 0 none) me)
  left_plays idle =
      plays n id me 0 (λ y. y) (LeftEffect me) law (λ words hands k at bound.
      dite (ℕ_discrete (get_or words 0 0) 0)
      (λ z. let w : HandState = after me.0 (live Ended) load_counter end_word (Some 0) in (
        w,
        loaded words words 0 w (sym (set-get_or words 0 0)) (ends idle z),
        record
            { done = λ y. refl; more = λ ne. absurd (ne z) },
      ))
      (λ ne. let w : HandState = after me.0 (live Idle) load_counter end_word (Some (get_or words 0 0)) in (
        w,
        loaded words words 0 w (sym (set-get_or words 0 0)) (finds_left idle ne),
        record
            { done = λ y. absurd (ne y); more = λ y. refl },
      )))

pub split_plays : (id : ℕ) (v : HandState) → v.place ≡ live Idle
    → Splits (Holds v.of) id v (after v v.place split end_word None) (newcomer v.of (next_name v))
split_plays id v idle s r at = goes_on r (splits id v at idle)

pub join_plays : (id other : ℕ) (v w : HandState) → IsFree v.place → IsFree w.place
    → Joins (Holds v.of) id v other w (after_join v w) given_up
join_plays id other v w f g s r at ne there = goes_on r
    (joins id other v w ne at (sym (set_else s.views id other (after_join v w) ne) ∙ there) f g)
