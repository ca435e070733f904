-- Each step keeps the rule, so it holds in each state that steps lead to.
use Rattle.std.proofs.Common.{◌≡◌, ◌≢◌, ℕ, zero, suc, ◌+◌, ◌<◌, ◌≤◌, inl, subst, refl, sym, ap, ◌∙◌, arith, List, [], ◌∷◌, ◌++◌, length, get_or, set}
use Rattle.std.proofs.lemmas.List.{get_or-set_same, get_or-set_other, length-set}
use Rattle.std.specs.Prelude.{None}
use mathlib.Core.Logic.{dite}
use mathlib.Core.Option.{some, some-injective, some-ne-none}
use native.Mathlib.Decide.{ℕ_discrete}
use lib.ListN.{get_elem?}
use Rattle.atomic_table.proofs.Lists.{set_else}
use Rattle.ftl_cells.specs.shared.Count.{Counts}
use Rattle.ftl_cells.specs.shared.Work.{Meaning, cell_total, kind_at, item_total, next_at, target_of, solved_word, IsStepOfItem, IsNext, IsLawfulWork}
use Rattle.ftl_cells.specs.shared.State.{split, Place, live, spent, HandState, newcomer, first_name, next_name, given_up, after, after_join, released_after, Sends, IsFree, Steps, finds_ready, finds_waiting, claims, misses, reads, fills, marks, sends, finishes, ends, finds_left, Makes, steps, splits, joins, IsOpening, first_word_of, Reached, begins, goes_on, end_word, cell_word, state_word, count_word, word_total}
use Rattle.ftl_cells.specs.shared.Kept.{Stage, hand_at, stage_now, Looks, IsWorkingAt, HasEnded, HasItem, IsInRange, CellHolds, Owes, IsUndone, AreReleased, IsKeptBy}
use Rattle.ftl_cells.specs.declared.shared.kind.CellKind.{CellKind}
use Rattle.ftl_cells.specs.declared.shared.kind.CellKind.TheVariants.{Given, Target, Later}
use Rattle.ftl_cells.specs.declared.shared.place.HandPlace.TheVariants.{Idle, Looked, Working, Filled, Sending, Ended}
use Rattle.ftl_cells.proofs.shared.Counting.{same_count, all_of}
use Rattle.ftl_cells.proofs.shared.Moves.{Turns, sends_has, works_has, has_in_range}
use Rattle.ftl_cells.proofs.shared.Loads.{Alike, alike_self, loads_keep}
use Rattle.ftl_cells.proofs.shared.Claims.{claims_keep}
use Rattle.ftl_cells.proofs.shared.Fills.{fills_keep}
use Rattle.ftl_cells.proofs.shared.Marks.{marks_keep}
use Rattle.ftl_cells.proofs.shared.Deliveries.{sends_keep, finishes_keep}

-- reads of a list
module _ {A : Type 0} where
  pub elem_is : (l : List A) (i : ℕ) (a d : A) → get_elem? l i ≡ some a → get_or l i d ≡ a
  elem_is [] i a d e = absurd (some-ne-none a (sym e))
  elem_is (x ∷ xs) zero a d e = some-injective x a e
  elem_is (x ∷ xs) (suc i) a d e = elem_is xs i a d e

  pub elem_below : (l : List A) (i : ℕ) (a : A) → get_elem? l i ≡ some a → i < length l
  elem_below [] i a e = absurd (some-ne-none a (sym e))
  elem_below (x ∷ xs) zero a e = omega arith
  elem_below (x ∷ xs) (suc i) a e = let r = elem_below xs i a e in omega arith

  pub snoc_other : (l : List A) (a d : A) (i : ℕ) → i ≢ length l → get_or (l ++ a ∷ []) i d ≡ get_or l i d
  snoc_other [] a d zero ne = absurd (ne refl)
  snoc_other [] a d (suc i) ne = refl
  snoc_other (x ∷ xs) a d zero ne = refl
  snoc_other (x ∷ xs) a d (suc i) ne = snoc_other xs a d i (λ e. ne (ap suc e))

  pub snoc_here : (l : List A) (a d : A) → get_or (l ++ a ∷ []) (length l) d ≡ a
  snoc_here [] a d = refl
  snoc_here (x ∷ xs) a d = snoc_here xs a d

  pub past_end : (l : List A) (d : A) (i : ℕ) → length l ≤ i → get_or l i d ≡ d
  past_end [] d i h = refl
  past_end (x ∷ xs) d zero h = absurd (omega arith)
  past_end (x ∷ xs) d (suc i) h = past_end xs d i (omega arith)

-- places without an item
abbrev pub HasNone : Place → Type 0
HasNone p = (i : ℕ) → HasItem p i → ⊥

pub free_has_none : (p : Place) → IsFree p → HasNone p
free_has_none (live Idle) f i w = w
free_has_none (live Ended) f i w = w
free_has_none (live (Looked item)) f i w = w
free_has_none (live (Working item j r)) f i w = f
free_has_none (live (Filled item)) f i w = f
free_has_none (live (Sending item n)) f i w = f
free_has_none spent f i w = w

pub alike_none : (p q : Place) → HasNone p → HasNone q → Alike p q
alike_none p q a b = record {
  works = λ i j w. absurd (b i (works_has q i j w));
  works_back = λ i j w. absurd (a i (works_has p i j w));
  sends = λ i j w. absurd (b i (sends_has q i j w));
  sends_back = λ i j w. absurd (a i (sends_has p i j w));
  has = λ i w. absurd (b i w);
}

pub none_released : (m : Meaning) (s : Stage) → AreReleased m s []
none_released m s = record {
  known = λ k l. absurd (omega arith);
  zero = λ k l. absurd (omega arith);
  preceded = λ k l. absurd (omega arith);
  once = λ k l a b e. absurd (omega arith);
}

module _ (m : Meaning) (law : IsLawfulWork m) (words : List ℕ) (hands : List HandState)
    (k : IsKeptBy m words hands) where
  -- one hand changes, and no word
  pub load_one : (h : ℕ) (v w : HandState) → get_elem? hands h ≡ some v → Alike v.place w.place → IsInRange m w.place
      → ((i : ℕ) → Looks w.place i → get_or words (count_word m i) 0 ≡ 0)
      → (HasEnded w.place → get_or words end_word 0 ≡ 0)
      → AreReleased m (stage_now m words hands) w.released → IsKeptBy m words (set hands h w)
  load_one h v w at alike range looked ended released =
      let below = elem_below hands h v at in
      let was : hand_at hands h ≡ v = elem_is hands h v given_up at in
      let is : hand_at (set hands h w) h ≡ w = get_or-set_same hands h w given_up below in
      let other : (g : ℕ) → g ≢ h → hand_at (set hands h w) g ≡ hand_at hands g =
      λ g ne. get_or-set_other hands h g w given_up ne in
      let rule = k.rule in
      let each : (P : HandState → Type 0) → P w → (g : ℕ) → (g ≢ h → P (hand_at hands g)) → P
      (hand_at (set hands h w) g) = λ P here g there. dite (ℕ_discrete g h)
      (λ e. subst (λ y. P (hand_at (set hands h w) y)) (sym e) (subst P (sym is) here))
      (λ ne. subst P (sym (other g ne)) (there ne)) in
      record {
        count = k.count;
        rule = loads_keep m (stage_now m words hands) (λ g. (hand_at (set hands h w) g).place)
            (λ g. (hand_at (set hands h w) g).released) rule
            (λ g. dite (ℕ_discrete g h)
            (λ e. subst (λ y. Alike (hand_at hands y).place (hand_at (set hands h w) y).place) (sym e)
            (subst (λ y. Alike y.place (hand_at (set hands h w) h).place) (sym was)
            (subst (λ y. Alike v.place y.place) (sym is) alike)))
            (λ ne. alike_self (hand_at hands g).place (hand_at (set hands h w) g).place
            (ap (λ y. y.place) (other g ne))))
            (λ g. each (λ y. IsInRange m y.place) range g (λ ne. rule.in_range g))
            (λ g. each (λ y. (i : ℕ) → Looks y.place i → get_or words (count_word m i) 0 ≡ 0) looked g
            (λ ne. rule.looked g))
            (λ g. each (λ y. HasEnded y.place → get_or words end_word 0 ≡ 0) ended g (λ ne. rule.ended g))
            (λ g. each (λ y. AreReleased m (stage_now m words hands) y.released) released g (λ ne. rule.released g));
      }

  -- a hand comes
  pub hand_comes : (name : List ℕ) → IsKeptBy m words (hands ++ newcomer m name ∷ [])
  hand_comes name =
      let rule = k.rule in
      let all : List HandState = hands ++ newcomer m name ∷ [] in
      let is : hand_at (hands ++ newcomer m name ∷ []) (length hands) ≡ newcomer m name = snoc_here hands
      (newcomer m name) given_up in
      let was : hand_at hands (length hands) ≡ given_up = past_end hands given_up (length hands) (omega arith) in
      let other : (g : ℕ) → g ≢ length hands → hand_at (hands ++ newcomer m name ∷ []) g ≡ hand_at hands g =
      λ g ne. snoc_other hands (newcomer m name) given_up g ne in
      let each : (P : HandState → Type 0) → P (newcomer m name) → (g : ℕ) → (g ≢ length hands → P (hand_at hands g)) → P
      (hand_at (hands ++ newcomer m name ∷ []) g) = λ P here g there. dite (ℕ_discrete g (length hands))
      (λ e. subst (λ y. P (hand_at (hands ++ newcomer m name ∷ []) y)) (sym e) (subst P (sym is) here))
      (λ ne. subst P (sym (other g ne)) (there ne)) in
      record {
        count = k.count;
        rule = loads_keep m (stage_now m words hands) (λ g. (hand_at (hands ++ newcomer m name ∷ []) g).place)
            (λ g. (hand_at (hands ++ newcomer m name ∷ []) g).released) rule
            (λ g. dite (ℕ_discrete g (length hands))
            (λ e. subst (λ y. Alike (hand_at hands y).place (hand_at (hands ++ newcomer m name ∷ []) y).place) (sym e)
            (subst (λ y. Alike y.place (hand_at (hands ++ newcomer m name ∷ []) (length hands)).place) (sym was)
            (subst (λ y. Alike spent y.place) (sym is) (alike_none spent (live Idle) (λ i w. w) (λ i w. w)))))
            (λ ne. alike_self (hand_at hands g).place (hand_at (hands ++ newcomer m name ∷ []) g).place
            (ap (λ y. y.place) (other g ne))))
            (λ g. each (λ y. IsInRange m y.place) tt g (λ ne. rule.in_range g))
            (λ g. each (λ y. (i : ℕ) → Looks y.place i → get_or words (count_word m i) 0 ≡ 0) (λ i w. absurd w) g
            (λ ne. rule.looked g))
            (λ g. each (λ y. HasEnded y.place → get_or words end_word 0 ≡ 0) (λ w. absurd w) g (λ ne. rule.ended g))
            (λ g. each (λ y. AreReleased m (stage_now m words hands) y.released)
            (none_released m (stage_now m words hands)) g (λ ne. rule.released g));
      }

  -- what a hand and its step say of the stage
  module _ (h : ℕ) (v : HandState) (at : get_elem? hands h ≡ some v) where
    pub hand_is : hand_at hands h ≡ v
    hand_is = elem_is hands h v given_up at

    pub range_of : IsInRange m v.place
    range_of = let rule = k.rule in subst (λ y. IsInRange m y.place) hand_is (rule.in_range h)

    pub released_of : AreReleased m (stage_now m words hands) v.released
    released_of = let rule = k.rule in subst (λ y. AreReleased m (stage_now m words hands) y.released) hand_is
        (rule.released h)

    pub turns : (next : List ℕ) (w : HandState) (p : Place) → v.place ≡ p
        → Turns (stage_now m words hands) (stage_now m next (set hands h w)) h p w.place
    turns next w p e = record {
      was = ap (λ y. y.place) hand_is ∙ e;
      is = ap (λ y. y.place) (get_or-set_same hands h w given_up (elem_below hands h v at));
      others = λ g ne. ap (λ y. y.place) (get_or-set_other hands h g w given_up ne);
    }

    pub released_stays : (w : HandState) → w.released ≡ v.released → (g : ℕ)
        → (hand_at (set hands h w) g).released ≡ (hand_at hands g).released
    released_stays w e g = dite (ℕ_discrete g h)
        (λ q. ap (λ y. (hand_at (set hands h w) y).released) q ∙ ap (λ y. y.released)
        (get_or-set_same hands h w given_up (elem_below hands h v at)) ∙ e ∙ sym (ap (λ y. y.released) hand_is)
        ∙ sym (ap (λ y. (hand_at hands y).released) q))
        (λ ne. ap (λ y. y.released) (get_or-set_other hands h g w given_up ne))

    sized : length words ≡ word_total m
    sized = k.count

    -- a word changes
    put_here : (a x : ℕ) → a < word_total m → get_or (set words a x) a 0 ≡ x
    put_here a x b = get_or-set_same words a x 0 (omega (arith, sized))

    put_there : (a x b : ℕ) → b ≢ a → get_or (set words a x) b 0 ≡ get_or words b 0
    put_there a x b ne = get_or-set_other words a b x 0 ne

    put_count : (a x : ℕ) → length (set words a x) ≡ word_total m
    put_count a x = length-set words a x ∙ sized

    pub kept_step : (next : List ℕ) (w : HandState) → Steps m words v next w → IsKeptBy m next (set hands h w)
    kept_step next w (finds_ready i e l z) = load_one h v w at
        (subst (λ p. Alike p (live (Looked i))) (sym e)
        (alike_none (live Idle) (live (Looked i)) (λ i w. w) (λ i w. w)))
        l (λ x q. subst (λ y. get_or words (count_word m y) 0 ≡ 0) q z) (λ q. absurd q) released_of
    kept_step next w (finds_waiting i e l z) = load_one h v w at
        (subst (λ p. Alike p (live Idle)) (sym e) (alike_none (live Idle) (live Idle) (λ i w. w) (λ i w. w)))
        tt (λ x q. absurd q) (λ q. absurd q) released_of
    kept_step next w (claims i e z) =
        let rule = k.rule in
        let l : i < item_total m = subst (IsInRange m) e range_of in
        record {
          count = put_count (state_word m i) 1;
          rule = claims_keep m law (stage_now m words hands)
              (stage_now m (set words (state_word m i) 1) (set hands h w)) h i
              (turns (set words (state_word m i) 1) w (live (Looked i)) e) rule z
              (λ c b. put_there (state_word m i) 1 (cell_word c) (λ q. omega arith))
              (record {
                here = put_here (state_word m i) 1 (omega arith);
                there = λ x b ne. put_there
                    (state_word m i) 1 (state_word m x) (λ q. ne (omega arith));
              })
              (λ x b. put_there (state_word m i) 1 (count_word m x) (λ q. omega arith))
              (put_there (state_word m i) 1 end_word (λ q. omega arith))
              (released_stays w refl);
        }
    kept_step next w (misses i e z) = load_one h v w at
        (subst (λ p. Alike p (live Idle)) (sym e) (alike_none (live (Looked i)) (live Idle) (λ i w. w) (λ i w. w)))
        tt (λ x q. absurd q) (λ q. absurd q) released_of
    kept_step next w (reads i j r e b c) =
        let range : IsInRange m (live (Working i j r)) = subst (IsInRange m) e range_of in
        load_one h v w at
        (subst (λ p. Alike p (live (Working i j (r + 1)))) (sym e)
        (record {
          works = λ i j w. w;
          works_back = λ i j w. w;
          sends = λ i j w. w;
          sends_back = λ i j w. w;
          has =
              λ i w. w;
        }))
        (range.0, range.1, omega arith) (λ x q. absurd q) (λ q. absurd q) released_of
    kept_step next w (fills i j r e b c) =
        let rule = k.rule in
        let range : IsInRange m (live (Working i j r)) = subst (IsInRange m) e range_of in
        let st : IsStepOfItem m i j = record { item = range.0; step = b } in
        let l : target_of m i j < cell_total m = law.target_in_range i j st in
        record {
          count = put_count (cell_word (target_of m i j)) (solved_word m (target_of m i j));
          rule = fills_keep m law (stage_now m words hands)
              (stage_now m (set words (cell_word (target_of m i j)) (solved_word m (target_of m i j))) (set hands h w))
              h i j r (turns (set words (cell_word (target_of m i j)) (solved_word m (target_of m i j))) w
              (live (Working i j r)) e) rule b
              (record {
                here = put_here (cell_word (target_of m i j)) (solved_word m (target_of m i j))
                    (omega arith);
                there = λ x b ne. put_there (cell_word (target_of m i j))
                    (solved_word m (target_of m i j)) (cell_word x) (λ q. ne (omega arith));
              })
              (λ x b. put_there (cell_word (target_of m i j)) (solved_word m (target_of m i j)) (state_word m x)
              (λ q. omega arith))
              (λ x b. put_there (cell_word (target_of m i j)) (solved_word m (target_of m i j)) (count_word m x)
              (λ q. omega arith))
              (put_there (cell_word (target_of m i j)) (solved_word m (target_of m i j)) end_word (λ q. omega arith))
              (released_stays w refl);
        }
    kept_step next w (marks i j r e b) =
        let rule = k.rule in
        let range : IsInRange m (live (Working i j r)) = subst (IsInRange m) e range_of in
        let l : i < item_total m = range.0 in
        record {
          count = put_count (state_word m i) 2;
          rule = marks_keep m law (stage_now m words hands) (stage_now m (set words (state_word m i) 2) (set hands h w))
              h i j r (turns (set words (state_word m i) 2) w (live (Working i j r)) e) rule b
              (λ c b. put_there (state_word m i) 2 (cell_word c) (λ q. omega arith))
              (record {
                here = put_here (state_word m i) 2 (omega arith);
                there = λ x b ne. put_there
                    (state_word m i) 2 (state_word m x) (λ q. ne (omega arith));
              })
              (λ x b. put_there (state_word m i) 2 (count_word m x) (λ q. omega arith))
              (put_there (state_word m i) 2 end_word (λ q. omega arith))
              (released_stays w refl);
        }
    kept_step next w (sends i n left e b z) =
        let rule = k.rule in
        let known : i < item_total m = has_in_range m v.place i (sends_has v.place i n e) range_of in
        let l : next_at m i n < item_total m = law.next_in_range i n known b in
        let a : ℕ = count_word m (next_at m i n) in
        record {
          count = put_count (count_word m (next_at m i n)) left;
          rule = sends_keep m law (stage_now m words hands)
              (stage_now m (set words (count_word m (next_at m i n)) left) (set hands h w)) h i n left v.place e
              (turns (set words (count_word m (next_at m i n)) left) w v.place refl) rule b z
              (λ c b. put_there (count_word m (next_at m i n)) left (cell_word c) (λ q. omega arith))
              (λ x b. put_there (count_word m (next_at m i n)) left (state_word m x) (λ q. omega arith))
              (record {
                here = put_here (count_word m (next_at m i n)) left (omega arith);
                there = λ x b ne. put_there
                    (count_word m (next_at m i n)) left (count_word m x) (λ q. ne (omega arith));
              })
              (put_there (count_word m (next_at m i n)) left end_word (λ q. omega arith))
              (ap (λ y. y.released) (get_or-set_same hands h w given_up (elem_below hands h v at)) ∙ sym
              (ap (λ y. released_after y.released (next_at m i n) left) hand_is))
              (λ g ne. ap (λ y. y.released) (get_or-set_other hands h g w given_up ne));
        }
    kept_step next w (finishes i n left e b z) =
        let rule = k.rule in
        record {
          count = put_count end_word left;
          rule = finishes_keep m law (stage_now m words hands)
              (stage_now m (set words end_word left) (set hands h w)) h i n left v.place e
              (turns (set words end_word left) w v.place refl) rule b z
              (λ c b. put_there end_word left (cell_word c) (λ q. omega arith))
              (λ x b. put_there end_word left (state_word m x) (λ q. omega arith))
              (λ x b. put_there end_word left (count_word m x) (λ q. omega arith))
              (put_here end_word left (omega arith))
              (released_stays w refl);
        }
    kept_step next w (ends e z) = load_one h v w at
        (subst (λ p. Alike p (live Ended)) (sym e) (alike_none (live Idle) (live Ended) (λ i w. w) (λ i w. w)))
        tt (λ x q. absurd q) (λ q. z) released_of
    kept_step next w (finds_left e z) = load_one h v w at
        (subst (λ p. Alike p (live Idle)) (sym e) (alike_none (live Idle) (live Idle) (λ i w. w) (λ i w. w)))
        tt (λ x q. absurd q) (λ q. absurd q) released_of

    -- the hand stays where it is
    pub stays : (w : HandState) → w.place ≡ v.place → w.released ≡ v.released → IsKeptBy m words (set hands h w)
    stays w e f = let rule = k.rule in load_one h v w at (alike_self v.place w.place e)
        (subst (IsInRange m) (sym e) range_of)
        (λ i q. rule.looked h i (subst (λ y. Looks y.place i) (sym hand_is) (subst (λ y. Looks y i) e q)))
        (λ q. rule.ended h (subst (λ y. HasEnded y.place) (sym hand_is) (subst HasEnded e q)))
        (subst (AreReleased m (stage_now m words hands)) (sym f) released_of)

    pub goes : IsFree v.place → IsKeptBy m words (set hands h given_up)
    goes f = load_one h v given_up at (alike_none v.place spent (free_has_none v.place f) (λ i w. w)) tt
        (λ i q. absurd q) (λ q. absurd q) (none_released m (stage_now m words hands))

pub kept_after : (m : Meaning) → IsLawfulWork m → (words next : List ℕ) (hands more : List HandState)
    → IsKeptBy m words hands → Makes m words hands next more → IsKeptBy m next more
kept_after m law words next hands more k (steps h v w after at step) = kept_step m law words hands k h v at next
    w step
kept_after m law words next hands more k (splits h v at e) =
    hand_comes m law words (set hands h (after v v.place split end_word None))
    (stays m law words hands k h v at (after v v.place split end_word None) refl refl) (next_name v)
kept_after m law words next hands more k (joins h other v w ne at there f g) =
    goes m law words (set hands h (after_join v w))
    (stays m law words hands k h v at (after_join v w) refl refl) other w
    (set_else hands h other (after_join v w) ne ∙ there) g

-- what a cell holds at the opening
opening_holds : (q : CellKind) (n word : ℕ) → n ≡ first_word_of q word → CellHolds q n word
opening_holds Given n word e = e
opening_holds Target n word e = inl e
opening_holds Later n word e = e

opening_empty : (q : CellKind) (n word : ℕ) → q ≡ Target → n ≡ first_word_of q word → n ≡ 0
opening_empty q n word e f = f ∙ ap (λ y. first_word_of y word) e

-- at the opening one hand is Idle and no other is there
one_hand : (m : Meaning) (P : Place → Type 0) → P (live Idle) → P spent → (g : ℕ)
    → P (hand_at (newcomer m first_name ∷ []) g).place
one_hand m P a b zero = a
one_hand m P a b (suc g) = b

pub kept_opening : (m : Meaning) → IsLawfulWork m → (words : List ℕ) → IsOpening m words
    → IsKeptBy m words (newcomer m first_name ∷ [])
kept_opening m law words o =
    let none : (P : Place → Type 0) → (P (live Idle) → ⊥) → (P spent → ⊥) → (g : ℕ) → P
    (hand_at (newcomer m first_name ∷ []) g).place → ⊥ = λ P a b g. one_hand m (λ p. P p → ⊥) a b g in
    record {
      count = o.count;
      rule = record {
        in_range = one_hand m (IsInRange m) tt tt;
        cells = λ c l. opening_holds (kind_at m c) (get_or words (cell_word c) 0) (solved_word m c) (o.cells c l);
        states = λ i l. let z : get_or words (state_word m i) 0 ≡ 0 = o.states i l in omega arith;
        free = λ i j st z. opening_empty (kind_at m (target_of m i j)) (get_or words (cell_word (target_of m i j)) 0)
            (solved_word m (target_of m i j)) (law.target_kind i j st)
            (o.cells (target_of m i j) (law.target_in_range i j st));
        full = λ i j st z. let y : get_or words (state_word m i) 0 ≡ 0 = o.states i st.item in absurd (omega arith);
        claimed = λ i l z. let y : get_or words (state_word m i) 0 ≡ 0 = o.states i l in absurd (omega arith);
        working = λ h i j w. absurd (none (λ p. IsWorkingAt p i j) (λ x. x) (λ x. x) h w);
        sending = λ h i n w. absurd (none (λ p. Sends p i n) (λ x. x) (λ x. x) h w);
        alone = λ h g i a b. absurd (none (λ p. HasItem p i) (λ x. x) (λ x. x) h a);
        counters = λ i l. subst (Counts (Owes m (stage_now m words (newcomer m first_name ∷ [])) i) i)
            (sym (o.counters i l))
            (same_count (λ p. IsNext m p i) (Owes m (stage_now m words (newcomer m first_name ∷ [])) i)
            (λ p b next. record {
              next = next;
              waits = λ d. let y : get_or words
                  (state_word m p) 0 ≡ 0 = o.states p next.known in let z : get_or words
                  (state_word m p) 0 ≡ 2 = d.state in omega arith;
            })
            (λ p b owes. owes.next)
            (law.preds i l));
        end = subst (Counts (IsUndone (stage_now m words (newcomer m first_name ∷ []))) (item_total m)) (sym o.end)
            (all_of (IsUndone (stage_now m words (newcomer m first_name ∷ []))) (item_total m)
            (λ p l. inl (λ z. let y : get_or words (state_word m p) 0 ≡ 0 = o.states p l in omega arith)));
        looked = λ h i w. absurd (none (λ p. Looks p i) (λ x. x) (λ x. x) h w);
        started = λ i l ne. absurd (ne (o.states i l));
        ended = λ h w. absurd (none HasEnded (λ x. x) (λ x. x) h w);
        released =
            λ h. elim
            h as (λ y. AreReleased m (stage_now m words (newcomer m first_name ∷ []))
            (hand_at (newcomer m first_name ∷ []) y).released) [
              | zero ↦ none_released m (stage_now m words (newcomer m first_name ∷ []))
              | suc g ↦ none_released m (stage_now m words (newcomer m first_name ∷ []))
            ];
      };
    }

-- the rule holds in each state that steps lead to
pub kept : (m : Meaning) → IsLawfulWork m → (words : List ℕ) (hands : List HandState) → Reached m words hands
    → IsKeptBy m words hands
kept m law words hands (begins w o) = kept_opening m law words o
kept m law words hands (goes_on {words = before} {hands = few} r step) = kept_after m law before words few hands
    (kept m law before few r) step
