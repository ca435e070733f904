-- What holds however many steps follow.
use Rattle.std.proofs.Common.{◌≡◌, ◌≢◌, ℕ, ◌+◌, ◌<◌, subst, refl, sym, ap, ◌∙◌, arith, List, [], ◌∷◌, ◌++◌, length, get_or, set, length-append}
use Rattle.std.proofs.lemmas.List.{get_or-set_same, get_or-set_other, length-set, get_or_append_left}
use Rattle.std.specs.Prelude.{Some, None, true}
use mathlib.Core.Logic.{dite}
use mathlib.Core.Option.{some}
use native.Mathlib.Decide.{ℕ_discrete}
use lib.ListN.{get_elem?}
use Rattle.ftl_cells.specs.shared.Work.{Meaning, cell_total, kind_at, item_total, solved_word, IsLawfulWork}
use Rattle.ftl_cells.specs.shared.State.{Place, live, spent, HandState, newcomer, next_name, given_up, after, after_join, released_after, split, IsFree, Steps, finds_ready, finds_waiting, claims, misses, reads, fills, marks, sends, finishes, ends, finds_left, Makes, steps, splits, joins, goes_on, end_word, cell_word, state_word, claim, last_word_of}
use Rattle.ftl_cells.specs.shared.Kept.{hand_at, Looks, IsWorkingAt, HasEnded, IsInRange, IsKeptBy}
use Rattle.ftl_cells.specs.shared.Calls.{ClaimSteps, SendsOn}
use Rattle.ftl_cells.specs.shared.Interleavings.{LeadsTo, stays, goes_further, IsNextState, AreReleasedOnce, WinsClaim}
use Rattle.ftl_cells.specs.declared.shared.answer.Claim.TheVariants.{Mine}
use Rattle.ftl_cells.specs.declared.shared.place.HandPlace.TheVariants.{Idle, Looked, Working, Filled, Sending, Ended}
use Rattle.ftl_cells.proofs.shared.KeptSteps.{elem_is, elem_below, snoc_here, snoc_other, range_of, released_of, kept, kept_after}
use Rattle.ftl_cells.proofs.shared.Consequences.{claim_stays, end_tells, end_holds, ended_tells}

-- any number of steps keeps the rule
pub kept_later : (m : Meaning) → IsLawfulWork m → (words : List ℕ) (hands : List HandState) (next : List ℕ)
    (more : List HandState) → IsKeptBy m words hands → LeadsTo m words hands next more
    → IsKeptBy m next more
kept_later m law words hands next more k stays = k
kept_later m law words hands next more k (goes_further {next = last} {more = few} run step) = kept_after m law last next
    few more (kept_later m law words hands last few k run) step

-- an item that is not free stays so
pub claimed_later : (m : Meaning) → IsLawfulWork m → (words : List ℕ) (hands : List HandState) (next : List ℕ)
    (more : List HandState) → IsKeptBy m words hands → LeadsTo m words hands next more → (i : ℕ) → i < item_total m
    → get_or words (state_word m i) 0 ≢ 0
    → get_or next (state_word m i) 0 ≢ 0
claimed_later m law words hands next more k stays i l ne = ne
claimed_later m law words hands next more k (goes_further {next = last} {more = few} run step) i l ne = claim_stays m
    law last few (kept_later m law words hands last few k run) i l
    (claimed_later m law words hands last few k run i l ne) next more step

-- a hand that looked at an item is not at another place
looks_on : (p q : Place) (i : ℕ) → p ≡ live (Looked i) → p ≡ q → Looks q i
looks_on p q i e f = subst (λ y. Looks y i) (sym e ∙ f) refl

-- a won claim finds the item free, and leaves it claimed
pub record Won (m : Meaning) (words next : List ℕ) (i : ℕ) : Type 0 where
  pub free : get_or words (state_word m i) 0 ≡ 0
  pub claimed : get_or next (state_word m i) 0 ≢ 0
  pub known : i < item_total m

module _ (m : Meaning) (law : IsLawfulWork m) (words : List ℕ) (hands : List HandState) (k : IsKeptBy m words hands)
    (i : ℕ) where
  -- by a step of the hand itself
  own_step : (g : ℕ) (v w : HandState) (next : List ℕ) → get_elem? hands g ≡ some v → Steps m words v next w
      → v.place ≡ live (Looked i) → IsWorkingAt w.place i 0 → Won m words next i
  own_step g v w next at (finds_ready n e b z) looked works = absurd works
  own_step g v w next at (finds_waiting n e b z) looked works = absurd works
  own_step g v w next at (claims n e z) looked works =
      let same : n ≡ i = looks_on v.place (live (Looked n)) i looked e in
      let known : i < item_total m = subst (IsInRange m) looked (range_of m law words hands k g v at) in
      record {
        free = subst (λ x. get_or words (state_word m x) 0 ≡ 0) same z;
        claimed = λ y. let one : get_or (set words (state_word m n) 1) (state_word m n) 0 ≡ 1 = get_or-set_same words
            (state_word m n) 1 0 (omega (arith, k.count)) in
            let none : get_or (set words (state_word m n) 1) (state_word m n) 0 ≡ 0 = subst
            (λ x. get_or (set words (state_word m n) 1) (state_word m x) 0 ≡ 0) (sym same) y in
            omega arith;
        known = known;
      }
  own_step g v w next at (misses n e z) looked works = absurd works
  own_step g v w next at (reads n j r e b c) looked works = absurd (looks_on v.place (live (Working n j r)) i looked e)
  own_step g v w next at (fills n j r e b c) looked works = absurd (looks_on v.place (live (Working n j r)) i looked e)
  own_step g v w next at (marks n j r e b) looked works = absurd works
  own_step g v w next at (sends n c left e b z) looked works = absurd works
  own_step g v w next at (finishes n c left e b z) looked works = absurd works
  own_step g v w next at (ends e z) looked works = absurd works
  own_step g v w next at (finds_left e z) looked works = absurd works

  module _ (h : ℕ) (looked : (hand_at hands h).place ≡ live (Looked i)) where
    -- another hand's step leaves the place
    rests : IsWorkingAt (hand_at hands h).place i 0 → ⊥
    rests w = subst (λ p. IsWorkingAt p i 0) looked w

    -- where one hand has this state now, and is not Working
    one_other : (g : ℕ) (v w : HandState) → get_elem? hands g ≡ some v → (IsWorkingAt w.place i 0 → ⊥)
        → IsWorkingAt (hand_at (set hands g w) h).place i 0 → ⊥
    one_other g v w at never works = dite (ℕ_discrete h g)
        (λ e. never (subst (λ y. IsWorkingAt y.place i 0)
        (ap (hand_at (set hands g w)) e ∙ get_or-set_same hands g w given_up (elem_below hands g v at)) works))
        (λ ne. rests (subst (λ y. IsWorkingAt y.place i 0) (get_or-set_other hands g h w given_up ne) works))

    free_works : (p : Place) → IsFree p → IsWorkingAt p i 0 → ⊥
    free_works (live Idle) f w = w
    free_works (live Ended) f w = w
    free_works (live (Looked item)) f w = w
    free_works (live (Working item j r)) f w = f
    free_works (live (Filled item)) f w = w
    free_works (live (Sending item n)) f w = w
    free_works spent f w = w

    -- by any step
    pub won : (next : List ℕ) (more : List HandState) → Makes m words hands next more
        → IsWorkingAt (hand_at more h).place i 0 → Won m words next i
    won next more (steps g v w after at step) works = dite (ℕ_discrete h g)
        (λ e. own_step g v w next at step
        (ap (λ y. y.place) (sym (elem_is hands g v given_up at) ∙ ap (hand_at hands) (sym e)) ∙ looked)
        (subst (λ y. IsWorkingAt y.place i 0)
        (ap (hand_at (set hands g w)) e ∙ get_or-set_same hands g w given_up (elem_below hands g v at)) works))
        (λ ne. absurd (rests (subst (λ y. IsWorkingAt y.place i 0) (get_or-set_other hands g h w given_up ne) works)))
    won next more (splits g v at e) works =
        let one : HandState = after v v.place split end_word None in
        let few : List HandState = set hands g (after v v.place split end_word None) in
        absurd (dite (ℕ_discrete h (length few))
        (λ q. subst (λ y. IsWorkingAt y.place i 0)
        (ap (hand_at (few ++ newcomer m (next_name v) ∷ [])) q ∙ snoc_here few (newcomer m (next_name v)) given_up)
        works)
        (λ ne. one_other g v one at (λ w. free_works v.place (subst IsFree (sym e) tt) w)
        (subst (λ y. IsWorkingAt y.place i 0) (snoc_other few (newcomer m (next_name v)) given_up h ne) works)))
    won next more (joins g other v w apart at there f b) works =
        let one : HandState = after_join v w in
        let few : List HandState = set hands g (after_join v w) in
        let l : other < length few = omega (arith, length-set hands g one, elem_below hands other w there) in
        absurd (dite (ℕ_discrete h other)
        (λ q. subst (λ y. IsWorkingAt y.place i 0)
        (ap (hand_at (set few other given_up)) q ∙ get_or-set_same few other given_up given_up l) works)
        (λ ne. one_other g v one at (λ w. free_works v.place f w)
        (subst (λ y. IsWorkingAt y.place i 0) (get_or-set_other few other h given_up given_up ne) works)))

-- a won claim of an item is the last
pub won_once : (m : Meaning) → IsLawfulWork m → (first next later last : List ℕ) (all more many most : List HandState)
    (h g i : ℕ) → IsKeptBy m first all → WinsClaim m first all h i next more → LeadsTo m next more later many
    → WinsClaim m later many g i last most
    → ⊥
won_once m law first next later last all more many most h g i k one run other =
    let works : (p : Place) → p ≡ live (Working i 0 0) → IsWorkingAt p i 0 = λ p e. subst (λ y. IsWorkingAt y i 0) (sym e)
    (refl, refl) in
    let a : Won m first next i = won m law first all k i h one.looked next more one.made
    (works (hand_at more h).place one.mine) in
    let k' : IsKeptBy m next more = kept_after m law first next all more k one.made in
    let k'' : IsKeptBy m later many = kept_later m law next more later many k' run in
    let b : Won m later last i = won m law later many k'' i g other.looked last most other.made
    (works (hand_at most g).place other.mine) in
    claimed_later m law next more later many k' run i a.known a.claimed b.free

-- what a step leaves in the list of released items
pub released_once : (v w : HandState) → IsLawfulWork v.of → IsNextState v w → AreReleasedOnce v.of w.released
released_once v w law step =
    let k = kept v.of law step.next step.more (goes_on step.reached step.made) in
    let r = released_of v.of law step.next step.more k step.hand w step.after in
    record { known = r.known; preceded = r.preceded; once = r.once }

released_new : (v w : HandState) (item k : ℕ) → IsLawfulWork v.of → IsNextState v w → w.released ≡ v.released ++ item ∷ []
    → k < length v.released → get_or v.released k 0 ≢ item
released_new v w item k law step e b z =
    let r = released_once v w law step in
    let n : length w.released ≡ length v.released + 1 = ap length e ∙ length-append v.released (item ∷ []) in
    let here : get_or w.released (length v.released) 0 ≡ item = ap (λ xs. get_or xs (length v.released) 0) e ∙ snoc_here
    v.released item 0 in
    let there : get_or w.released k 0 ≡ get_or v.released k 0 = ap (λ xs. get_or xs k 0) e
    ∙ get_or_append_left v.released
    (item ∷ []) 0 k b in
    let same : k ≡ length v.released = r.once k (length v.released) (omega arith) (omega arith)
    (there ∙ z ∙ sym here) in
    omega arith

pub released_last : (v w : HandState) (item sent next k : ℕ) → IsLawfulWork v.of → IsNextState v w
    → SendsOn v item sent next true w → k < length v.released
    → get_or v.released k 0 ≢ next
released_last v w item sent next k law step done b =
    let none : done.left ≡ 0 = done.is_last.0 refl in
    let e : w.released ≡ v.released ++ next ∷ [] = ap (λ y. y.released) done.step ∙ ap (released_after v.released next)
    none in
    released_new v w next k law step e b

-- a claim that answers Mine wins
pub mine_wins : (v w : HandState) (item : ℕ) (step : IsNextState v w) → v.place ≡ live (Looked item)
    → ClaimSteps v v.place Mine w
    → WinsClaim v.of step.words step.hands step.hand item step.next step.more
mine_wins v w item step looked mine =
    let is : w ≡ after v (live (Working item 0 0)) claim (state_word v.of item) (Some 0) = subst
    (λ p. ClaimSteps v p Mine w) looked mine in
    record {
      made = step.made;
      looked = ap (λ y. y.place) (elem_is step.hands step.hand v given_up step.before) ∙ looked;
      mine = ap (λ y. y.place) (elem_is step.more step.hand w given_up step.after) ∙ ap (λ y. y.place) is;
    }

-- what a hand that is Ended saw
module _ (v w : HandState) (step : IsNextState v w) (law : IsLawfulWork v.of) (ended : HasEnded w.place) where
  after_it : IsKeptBy v.of step.next step.more
  after_it = kept v.of law step.next step.more (goes_on step.reached step.made)

  none_left : get_or step.next end_word 0 ≡ 0
  none_left = ended_tells v.of step.next step.more step.hand after_it
      (subst (λ y. HasEnded y.place) (sym (elem_is step.more step.hand w given_up step.after)) ended)

  pub saw_all : (i : ℕ) → i < item_total v.of → get_or step.next (state_word v.of i) 0 ≡ 2
  saw_all = end_tells v.of step.next step.more law after_it none_left

  pub saw_solution : (c : ℕ) → c < cell_total v.of
      → get_or step.next (cell_word c) 0 ≡ last_word_of (kind_at v.of c) (solved_word v.of c)
  saw_solution = end_holds v.of step.next step.more law after_it none_left
