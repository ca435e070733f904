-- The names of hands: each is the only one of its name, and one that has made no step has made no hand.
use Rattle.std.proofs.Common.{◌≡◌, ◌≢◌, ℕ, zero, suc, ◌+◌, ◌<◌, ◌≤◌, ◌⊎◌, inl, inr, ⊎_elim, subst, refl, sym, ap, ◌∙◌, arith, List, [], ◌∷◌, ◌++◌, length, set, length-append, append_assoc}
use Rattle.std.specs.Prelude.{None}
use Rattle.std.proofs.lemmas.List.{get_or-set_same, get_or-set_other}
use mathlib.Core.Logic.{dite}
use mathlib.Core.Option.{some}
use native.Mathlib.Decide.{ℕ_discrete}
use lib.ListN.{get_elem?}
use Rattle.ftl_cells.specs.shared.Work.{Meaning}
use Rattle.ftl_cells.specs.shared.State.{Place, live, spent, HandState, newcomer, first_name, next_name, given_up, after, after_join, split, Sends, IsFree, end_word, Steps, finds_ready, finds_waiting, claims, misses, reads, fills, marks, sends, finishes, ends, finds_left, Makes, steps, splits, joins, IsOpening, Reached, begins, goes_on}
use Rattle.ftl_cells.specs.shared.Kept.{hand_at}
use Rattle.ftl_cells.specs.declared.shared.place.HandPlace.TheVariants.{Idle, Looked, Working}
use Rattle.atomic_table.proofs.Lists.{set_else}
use Rattle.ftl_cells.proofs.shared.KeptSteps.{elem_is, elem_below, snoc_here, snoc_other, past_end}

-- the hand was there before, under its name, and has made as many steps
record Stays (v w : HandState) : Type 0 where
  was : v.place ≢ spent
  name : w.name ≡ v.name
  count : v.count ≤ w.count

-- a hand that made a step
record Stepped (v w : HandState) : Type 0 where
  was : v.place ≢ spent
  name : w.name ≡ v.name
  count : w.count ≡ v.count + 1

alive : (v : HandState) (p : Place) → v.place ≡ p → (p ≡ spent → ⊥) → v.place ≢ spent
alive v p e ne z = ne (sym e ∙ z)

sends_alive : (v : HandState) (i k : ℕ) → Sends v.place i k → v.place ≢ spent
sends_alive v i k s z = subst (λ p. Sends p i k) z s

free_alive : (v : HandState) → IsFree v.place → v.place ≢ spent
free_alive v f z = subst IsFree z f

stepped : (m : Meaning) (words next : List ℕ) (v w : HandState) → Steps m words v next w → Stepped v w
stepped m words next v w (finds_ready i e l z) = record
    { was = alive v (live Idle) e (λ q. cc); name = refl; count = refl }
stepped m words next v w (finds_waiting i e l z) = record
    { was = alive v (live Idle) e (λ q. cc); name = refl; count = refl }
stepped m words next v w (claims i e z) = record
    { was = alive v (live (Looked i)) e (λ q. cc); name = refl; count = refl }
stepped m words next v w (misses i e z) = record
    { was = alive v (live (Looked i)) e (λ q. cc); name = refl; count = refl }
stepped m words next v w (reads i j r e b c) = record
    { was = alive v (live (Working i j r)) e (λ q. cc); name = refl; count = refl }
stepped m words next v w (fills i j r e b c) = record
    { was = alive v (live (Working i j r)) e (λ q. cc); name = refl; count = refl }
stepped m words next v w (marks i j r e b) = record
    { was = alive v (live (Working i j r)) e (λ q. cc); name = refl; count = refl }
stepped m words next v w (sends i k left e b z) = record
    { was = sends_alive v i k e; name = refl; count = refl }
stepped m words next v w (finishes i k left e b z) = record
    { was = sends_alive v i k e; name = refl; count = refl }
stepped m words next v w (ends e z) = record
    { was = alive v (live Idle) e (λ q. cc); name = refl; count = refl }
stepped m words next v w (finds_left e z) = record
    { was = alive v (live Idle) e (λ q. cc); name = refl; count = refl }

-- each hand that was not given up is the only one of its name, and what it made was made by a step of it
record Named (hands : List HandState) : Type 0 where
  unique : (h g : ℕ) → (hand_at hands h).place ≢ spent → (hand_at hands g).place ≢ spent
      → (hand_at hands h).name ≡ (hand_at hands g).name → h ≡ g
  later : (h g c : ℕ) (rest : List ℕ) → (hand_at hands h).place ≢ spent → (hand_at hands g).place ≢ spent
      → (hand_at hands g).name ≡ (hand_at hands h).name ++ c ∷ rest → c < (hand_at hands h).count

-- where each hand that is there now was there before
named_still : (hands more : List HandState) → Named hands
    → ((g : ℕ) → (hand_at more g).place ≢ spent → Stays (hand_at hands g) (hand_at more g)) → Named more
named_still hands more k stays = record {
  unique = λ h g a b e. let x = stays h a in let y = stays g b in
      k.unique h g x.was y.was (sym x.name ∙ e ∙ y.name);
  later = λ h g c rest a b e. let x = stays h a in let y = stays g b in
      let old : c < (hand_at hands h).count = k.later h g c rest x.was y.was
      (sym y.name ∙ e ∙ ap (λ n. n ++ c ∷ rest) x.name) in
      let more_now : (hand_at hands h).count ≤ (hand_at more h).count = x.count in omega arith;
}

-- one hand changes
one_changes : (hands : List HandState) (h : ℕ) (v w : HandState) → get_elem? hands h ≡ some v
    → (w.place ≢ spent → Stays v w) → (g : ℕ) → (hand_at (set hands h w) g).place ≢ spent
    → Stays (hand_at hands g) (hand_at (set hands h w) g)
one_changes hands h v w at one g there =
    let was : hand_at hands h ≡ v = elem_is hands h v given_up at in
    let is : hand_at (set hands h w) h ≡ w = get_or-set_same hands h w given_up (elem_below hands h v at) in
    dite (ℕ_discrete g h)
    (λ e. let now : w.place ≢ spent = λ z. there (ap (λ y. (hand_at (set hands h w) y).place) e ∙ ap (λ y. y.place) is
    ∙ z) in
    subst (λ y. Stays (hand_at hands y) (hand_at (set hands h w) y)) (sym e)
    (subst (λ y. Stays y (hand_at (set hands h w) h)) (sym was) (subst (Stays v) (sym is) (one now))))
    (λ ne. let same : hand_at (set hands h w) g ≡ hand_at hands g = get_or-set_other hands h g w given_up ne in
    record {
      was = λ z. there (ap (λ y. y.place) same ∙ z);
      name = ap (λ y. y.name) same;
      count = let e : (hand_at (set hands h w) g).count ≡ (hand_at hands g).count = ap (λ y. y.count) same in
          omega arith;
    })

stepped_stays : (v w : HandState) → Stepped v w → Stays v w
stepped_stays v w s = let e : w.count ≡ v.count + 1 = s.count in
    record { was = s.was; name = s.name; count = omega arith }

-- a name with one more number at its end begins with no longer name
snoc_cut : (a b : List ℕ) (x c : ℕ) (rest : List ℕ) → a ++ x ∷ [] ≡ b ++ c ∷ rest
    → ((a ≡ b) × (x ≡ c)) ⊎ ((r : List ℕ) × (a ≡ b ++ c ∷ r))
snoc_cut [] [] x c rest e = inl (refl, cc)
snoc_cut [] (y ∷ b) x c rest e = absurd (let n = ap length e in omega (arith, n, length-append b (c ∷ rest)))
snoc_cut (y ∷ a) [] x c rest e = let q : y ≡ c = cc in inr (a, ap (λ z. z ∷ a) q)
snoc_cut (y ∷ a) (z ∷ b) x c rest e =
    let q : y ≡ z = cc in
    let t : a ++ x ∷ [] ≡ b ++ c ∷ rest = cc in
    ⊎_elim (λ p. inl (ap (λ n. n ∷ a) q ∙ ap (λ n. z ∷ n) p.0, p.1))
    (λ p. inr (p.0, ap (λ n. n ∷ a) q ∙ ap (λ n. z ∷ n) p.1))
    (snoc_cut a b x c rest t)

-- a hand comes, made by the last step of another
module _ (m : Meaning) (hands : List HandState) (k : Named hands) (h n : ℕ) (name : List ℕ)
    (here : (hand_at hands h).place ≢ spent) (is : (hand_at hands h).name ≡ name)
    (count : (hand_at hands h).count ≡ n + 1)
    (fresh : (g : ℕ) (rest : List ℕ) → (hand_at hands g).place ≢ spent
    → (hand_at hands g).name ≡ name ++ n ∷ rest → ⊥) where
  all : List HandState
  all = hands ++ newcomer m (name ++ n ∷ []) ∷ []

  at_end : hand_at (hands ++ newcomer m (name ++ n ∷ []) ∷ []) (length hands) ≡ newcomer m (name ++ n ∷ [])
  at_end = snoc_here hands (newcomer m (name ++ n ∷ [])) given_up

  before : (g : ℕ) → g ≢ length hands → hand_at (hands ++ newcomer m (name ++ n ∷ []) ∷ []) g ≡ hand_at hands g
  before g ne = snoc_other hands (newcomer m (name ++ n ∷ [])) given_up g ne

  still_there : (g : ℕ) → g ≢ length hands
      → (hand_at (hands ++ newcomer m (name ++ n ∷ []) ∷ []) g).place ≢ spent → (hand_at hands g).place ≢ spent
  still_there g ne there z = there (ap (λ y. y.place) (before g ne) ∙ z)

  old_name : (g : ℕ) → g ≢ length hands
      → (hand_at hands g).name ≡ (hand_at (hands ++ newcomer m (name ++ n ∷ []) ∷ []) g).name
  old_name g ne = sym (ap (λ y. y.name) (before g ne))

  end_name : (g : ℕ) → g ≡ length hands
      → (hand_at (hands ++ newcomer m (name ++ n ∷ []) ∷ []) g).name ≡ name ++ n ∷ []
  end_name g e = ap (λ y. (hand_at (hands ++ newcomer m (name ++ n ∷ []) ∷ []) y).name) e ∙ ap (λ y. y.name) at_end

  -- the hand that comes has a name that begins with that of another
  made_before : (g c : ℕ) (rest : List ℕ) → (hand_at hands g).place ≢ spent
      → name ++ n ∷ [] ≡ (hand_at hands g).name ++ c ∷ rest → c < (hand_at hands g).count
  made_before g c rest there e = ⊎_elim
      (λ p. let same : g ≡ h = k.unique g h there here (sym p.0 ∙ sym is) in
      let now : (hand_at hands g).count ≡ n + 1 = ap (λ y. (hand_at hands y).count) same ∙ count in
      let last : n ≡ c = p.1 in omega arith)
      (λ p. k.later g h c p.0 there here (is ∙ p.1))
      (snoc_cut name (hand_at hands g).name n c rest e)

  hand_comes : Named (hands ++ newcomer m (name ++ n ∷ []) ∷ [])
  hand_comes = record {
    unique = λ a b there over e. dite (ℕ_discrete a (length hands))
        (λ p. dite (ℕ_discrete b (length hands))
        (λ q. p ∙ sym q)
        (λ ne. absurd (fresh b [] (still_there b ne over) (old_name b ne ∙ sym e ∙ end_name a p))))
        (λ apart. dite (ℕ_discrete b (length hands))
        (λ q. absurd (fresh a [] (still_there a apart there) (old_name a apart ∙ e ∙ end_name b q)))
        (λ ne. k.unique a b (still_there a apart there) (still_there b ne over)
        (old_name a apart ∙ e ∙ sym (old_name b ne))));
    later = λ a b c rest there over e. dite (ℕ_discrete a (length hands))
        (λ p. let long : (hand_at (hands ++ newcomer m (name ++ n ∷ []) ∷ []) b).name ≡ name ++ n ∷ c ∷ rest = e
        ∙ ap (λ y. y ++ c ∷ rest) (end_name a p) ∙ append_assoc name (n ∷ []) (c ∷ rest) in
        dite (ℕ_discrete b (length hands))
        (λ q. let same : name ++ n ∷ [] ≡ name ++ n ∷ c ∷ rest = sym (end_name b q) ∙ long in
        absurd (omega (arith, ap length same, length-append name (n ∷ []), length-append name (n ∷ c ∷ rest))))
        (λ ne. absurd (fresh b (c ∷ rest) (still_there b ne over) (old_name b ne ∙ long))))
        (λ apart. let is_old : (hand_at (hands ++ newcomer m (name ++ n ∷ []) ∷ []) a).count ≡ (hand_at hands a).count =
        ap (λ y. y.count) (before a apart) in
        let short : (hand_at (hands ++ newcomer m (name ++ n ∷ []) ∷ []) b).name
        ≡ (hand_at hands a).name ++ c ∷ rest = e
        ∙ ap (λ y. y ++ c ∷ rest) (sym (old_name a apart)) in
        let old : c < (hand_at hands a).count = dite (ℕ_discrete b (length hands))
        (λ q. made_before a c rest (still_there a apart there) (sym (end_name b q) ∙ short))
        (λ ne. k.later a b c rest (still_there a apart there) (still_there b ne over) (old_name b ne ∙ short)) in
        omega arith);
  }

one_alone : (m : Meaning) (h g : ℕ) → (hand_at (newcomer m first_name ∷ []) h).place ≢ spent
    → (hand_at (newcomer m first_name ∷ []) g).place ≢ spent
    → (hand_at (newcomer m first_name ∷ []) h).name ≡ (hand_at (newcomer m first_name ∷ []) g).name → h ≡ g
one_alone m zero zero a b e = refl
one_alone m zero (suc g) a b e = absurd (b refl)
one_alone m (suc h) g a b e = absurd (a refl)

none_later : (m : Meaning) (h g c : ℕ) (rest : List ℕ) → (hand_at (newcomer m first_name ∷ []) h).place ≢ spent
    → (hand_at (newcomer m first_name ∷ []) g).place ≢ spent
    → (hand_at (newcomer m first_name ∷ []) g).name ≡ (hand_at (newcomer m first_name ∷ []) h).name ++ c ∷ rest
    → c < (hand_at (newcomer m first_name ∷ []) h).count
none_later m zero zero c rest a b e = cc
none_later m zero (suc g) c rest a b e = absurd (b refl)
none_later m (suc h) g c rest a b e = absurd (a refl)

-- after a step of any hand
named_after : (m : Meaning) (words next : List ℕ) (hands more : List HandState) → Named hands
    → Makes m words hands next more → Named more
named_after m words next hands more k (steps h v w last at step) = named_still hands (set hands h w) k
    (one_changes hands h v w at (λ there. stepped_stays v w (stepped m words next v w step)))
named_after m words next hands more k (splits h v at e) =
    let one : HandState = after v v.place split end_word None in
    let stays : (g : ℕ) → (hand_at (set hands h one) g).place ≢ spent
    → Stays (hand_at hands g) (hand_at (set hands h one) g) = one_changes hands h v one at (λ there. record {
      was = alive v (live Idle) e (λ q. cc);
      name = refl;
      count = omega arith;
    }) in
    let was : hand_at hands h ≡ v = elem_is hands h v given_up at in
    let is : hand_at (set hands h one) h ≡ one = get_or-set_same hands h one given_up (elem_below hands h v at) in
    hand_comes m (set hands h one) (named_still hands (set hands h one) k stays) h v.count v.name
    (λ z. alive v (live Idle) e (λ q. cc) (sym (ap (λ y. y.place) is) ∙ z))
    (ap (λ y. y.name) is) (ap (λ y. y.count) is)
    (λ g rest there long. let old = stays g there in
    let few : v.count < (hand_at hands h).count = k.later h g v.count rest
    (λ z. alive v (live Idle) e (λ q. cc) (sym (ap (λ y. y.place) was) ∙ z)) old.was
    (sym old.name ∙ long ∙ ap (λ y. y.name ++ v.count ∷ rest) (sym was)) in
    omega (arith, ap (λ y. y.count) was))
named_after m words next hands more k (joins h other v w ne at there f g) =
    let one : HandState = after_join v w in
    let first : Named (set hands h one) = named_still hands (set hands h one) k
    (one_changes hands h v one at (λ now. record { was = free_alive v f; name = refl; count = omega arith })) in
    named_still (set hands h one) (set (set hands h one) other given_up) first
    (one_changes (set hands h one) other w given_up (set_else hands h other one ne ∙ there) (λ now. absurd (now refl)))

named_opening : (m : Meaning) → Named (newcomer m first_name ∷ [])
named_opening m = record { unique = one_alone m; later = none_later m }

named : (m : Meaning) (words : List ℕ) (hands : List HandState) → Reached m words hands → Named hands
named m words hands (begins w o) = named_opening m
named m words hands (goes_on {words = before} {hands = few} r step) = named_after m before words few hands
    (named m before few r) step

-- no hand is the first one, before its first step
Begun : Meaning → List HandState → Type 0
Begun m hands = (h : ℕ) → hand_at hands h ≢ newcomer m first_name

-- one hand makes a step, where it is the first one or that has begun
begun_one : (m : Meaning) (hands : List HandState) (h : ℕ) (v w : HandState) → get_elem? hands h ≡ some v
    → (hands ≡ newcomer m first_name ∷ []) ⊎ Begun m hands → w ≢ newcomer m first_name
    → Begun m (set hands h w)
unfolding Begun
begun_one m hands h v w at old fresh g is = dite (ℕ_discrete g h)
    (λ e. fresh
    (sym (ap (hand_at (set hands h w)) e ∙ get_or-set_same hands h w given_up (elem_below hands h v at)) ∙ is))
    (λ ne. let was : hand_at hands g ≡ newcomer m first_name = sym (get_or-set_other hands h g w given_up ne) ∙ is in
    ⊎_elim
    (λ one. let l : h < length hands = elem_below hands h v at in
    let few : length hands ≡ 1 = ap length one in
    let past : hand_at hands g ≡ given_up = past_end hands given_up g (omega arith) in
    let q : spent ≡ live Idle = ap (λ y. y.place) (sym past ∙ was) in cc)
    (λ begun. begun g was) old)

begun_after : (m : Meaning) (words next : List ℕ) (hands more : List HandState)
    → (hands ≡ newcomer m first_name ∷ []) ⊎ Begun m hands → Makes m words hands next more → Begun m more
unfolding Begun
begun_after m words next hands more old (steps h v w last at step) = begun_one m hands h v w at old
    (λ e. let s = stepped m words next v w step in
    let c : w.count ≡ v.count + 1 = s.count in let z : w.count ≡ 0 = ap (λ y. y.count) e in omega arith)
begun_after m words next hands more old (splits h v at idle) = λ g is.
    let one : HandState = after v v.place split end_word None in
    let few : List HandState = set hands h (after v v.place split end_word None) in
    dite (ℕ_discrete g (length few))
    (λ e. let q : newcomer m (next_name v) ≡ newcomer m first_name = sym
    (ap (hand_at (few ++ newcomer m (next_name v) ∷ [])) e ∙ snoc_here few (newcomer m (next_name v)) given_up) ∙ is in
    let n : length (v.name ++ v.count ∷ []) ≡ 0 = ap (λ y. length y.name) q in
    omega (arith, n, length-append v.name (v.count ∷ [])))
    (λ ne. begun_one m hands h v one at old (λ e. let z : v.count + 1 ≡ 0 = ap (λ y. y.count) e in omega arith) g
    (sym (snoc_other few (newcomer m (next_name v)) given_up g ne) ∙ is))
begun_after m words next hands more old (joins h other v w ne at there f g) =
    let one : HandState = after_join v w in
    begun_one m (set hands h one) other w given_up (set_else hands h other one ne ∙ there)
    (inr (begun_one m hands h v one at old (λ e. let z : v.count + 1 ≡ 0 = ap (λ y. y.count) e in omega arith)))
    (λ e. let q : spent ≡ live Idle = ap (λ y. y.place) e in cc)

begun_or_not : (m : Meaning) (words : List ℕ) (hands : List HandState) → Reached m words hands
    → (IsOpening m words × (hands ≡ newcomer m first_name ∷ [])) ⊎ Begun m hands
begun_or_not m words hands (begins w o) = inl (o, refl)
begun_or_not m words hands (goes_on {words = before} {hands = few} r step) = inr (begun_after m before words few hands
    (⊎_elim (λ p. inl p.1) (λ b. inr b) (begun_or_not m before few r)) step)

-- where the first hand has made no step, none was made
pub none_made : (m : Meaning) (words : List ℕ) (hands : List HandState) (h : ℕ) → Reached m words hands
    → hand_at hands h ≡ newcomer m first_name
    → IsOpening m words × (hands ≡ newcomer m first_name ∷ [])
unfolding Begun
none_made m words hands h r e = ⊎_elim (λ p. p) (λ b. absurd (b h e)) (begun_or_not m words hands r)

pub named_once : (m : Meaning) (words : List ℕ) (hands : List HandState) (h g : ℕ) → Reached m words hands
    → (hand_at hands h).place ≢ spent → (hand_at hands g).place ≢ spent
    → (hand_at hands h).name ≡ (hand_at hands g).name → h ≡ g
named_once m words hands h g r = let k : Named hands = named m words hands r in k.unique h g

pub made_by_steps : (m : Meaning) (words : List ℕ) (hands : List HandState) (h g c : ℕ) (rest : List ℕ)
    → Reached m words hands → (hand_at hands h).place ≢ spent → (hand_at hands g).place ≢ spent
    → (hand_at hands g).name ≡ (hand_at hands h).name ++ c ∷ rest → c < (hand_at hands h).count
made_by_steps m words hands h g c rest r = let k : Named hands = named m words hands r in k.later h g c rest
