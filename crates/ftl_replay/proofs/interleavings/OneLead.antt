-- A list of events leads from one state to one state at most, and not past an event that is no step.
use Rattle.std.proofs.Common.{◌≡◌, ℕ, zero, suc, ◌<◌, ◌≤◌, ◌⊎◌, inl, inr, ⊎_elim, subst, refl, sym, ap, ◌∙◌, arith, List, [], ◌∷◌, ◌++◌, length, take, get_or}
use Rattle.std.proofs.lemmas.List.{ext_get_or, take-append-le}
use Rattle.std.proofs.Math.Seq.{take-append_seam}
use Rattle.std.proofs.lemmas.Bool.{cases_lt}
use mathlib.Core.Option.{some, some-injective}
use lib.ListN.{get_elem?}
use Rattle.ftl_cells.specs.shared.Work.{Meaning}
use Rattle.ftl_cells.specs.shared.State.{HandState, newcomer, first_name, opening_words}
use Rattle.ftl_replay.specs.declared.interleavings.place.ReplayPlace.{ReplayPlace}
use Rattle.ftl_replay.specs.declared.interleavings.place.ReplayPlace.TheVariants.{Live, Spent}
use Rattle.ftl_replay.specs.declared.interleavings.event.Event.{Event}
use Rattle.ftl_replay.specs.interleavings.Events.{place_of, Does}
use Rattle.ftl_replay.specs.interleavings.Replays.{Lead, stays, goes_on, ArePlacesOf, LeadTo, IsFirstNoStep}
use Rattle.ftl_replay.proofs.interleavings.Fits.{step_fits}
use Rattle.ftl_replay.proofs.interleavings.Results.{one_state}

-- lists that end in one more are equal where both parts are
snoc_same : (xs ys : List Event) (x y : Event) → xs ++ x ∷ [] ≡ ys ++ y ∷ [] → (xs ≡ ys) × (x ≡ y)
snoc_same [] [] x y e = (refl, cc)
snoc_same [] (b ∷ []) x y e = absurd cc
snoc_same [] (b ∷ c ∷ ys) x y e = absurd cc
snoc_same (a ∷ []) [] x y e = absurd cc
snoc_same (a ∷ c ∷ xs) [] x y e = absurd cc
snoc_same (a ∷ xs) (b ∷ ys) x y e =
    let rest : xs ++ x ∷ [] ≡ ys ++ y ∷ [] = cc in
    let head : a ≡ b = cc in
    let r = snoc_same xs ys x y rest in
    (ap (λ z. z ∷ xs) head ∙ ap (λ zs. b ∷ zs) r.0, r.1)

snoc_some : (xs : List Event) (x : Event) → [] ≡ xs ++ x ∷ [] → ⊥
snoc_some [] x e = cc
snoc_some (a ∷ xs) x e = cc

-- an entry of a list that ends in one more is one before, or the last
snoc_at : (xs : List Event) (x y : Event) (k : ℕ) → get_elem? (xs ++ x ∷ []) k ≡ some y
    → (get_elem? xs k ≡ some y) ⊎ ((k ≡ length xs) × (x ≡ y))
snoc_at [] x y zero e = inr (refl, some-injective x y e)
snoc_at [] x y (suc k) e = absurd cc
snoc_at (a ∷ xs) x y zero e = inl e
snoc_at (a ∷ xs) x y (suc k) e = ⊎_elim (λ l. inl l) (λ r. inr (ap suc r.0, r.1)) (snoc_at xs x y k e)

stands_below : (xs : List Event) (y : Event) (k : ℕ) → get_elem? xs k ≡ some y → k < length xs
stands_below [] y k e = absurd cc
stands_below (a ∷ xs) y zero e = omega arith
stands_below (a ∷ xs) y (suc k) e = let b = stands_below xs y k e in omega arith

take_of_take : (n k : ℕ) (xs : List Event) → n ≤ k → take n (take k xs) ≡ take n xs
take_of_take zero k xs b = refl
take_of_take (suc n) zero xs b = absurd (omega arith)
take_of_take (suc n) (suc k) [] b = refl
take_of_take (suc n) (suc k) (x ∷ xs) b = ap (λ ys. x ∷ ys) (take_of_take n k xs (omega arith))

elem_of_take : (n k : ℕ) (xs : List Event) → n < k → get_elem? (take k xs) n ≡ get_elem? xs n
elem_of_take n zero xs b = absurd (omega arith)
elem_of_take n (suc k) [] b = refl
elem_of_take zero (suc k) (x ∷ xs) b = refl
elem_of_take (suc n) (suc k) (x ∷ xs) b = elem_of_take n k xs (omega arith)

-- on the way that events lead, the step of one of them
record Passes (m : Meaning) (first : List ℕ) (all : List HandState) (events : List Event) (k : ℕ)
    (event : Event) : Type 0 where
  words : List ℕ
  hands : List HandState
  next : List ℕ
  more : List HandState
  lead : Lead m first all (take k events) words hands
  does : Does m event words hands next more

module _ (m : Meaning) (first : List ℕ) (all : List HandState) where
  one_lead : (events others : List Event) (next last : List ℕ) (more most : List HandState) → events ≡ others
      → Lead m first all events next more → Lead m first all others last most → (next ≡ last) × (more ≡ most)
  one_lead events others next last more most e stays stays = (refl, refl)
  one_lead events others next last more most e stays (goes_on {events = few} event l d) =
      absurd (snoc_some few event e)
  one_lead events others next last more most e (goes_on {events = few} event l d) stays =
      absurd (snoc_some few event (sym e))
  one_lead events others next last more most e
      (goes_on {events = few} {next = n} {more = o} event l d)
      (goes_on {events = gew} {next = k} {more = p} another g c) =
      let same = snoc_same few gew event another e in
      let before = one_lead few gew n k o p same.0 l g in
      one_state m n o next last more most event d
      (subst (λ y. Does m y n o last most) (sym same.1)
      (subst (λ ws. Does m another ws o last most) (sym before.0)
      (subst (λ hs. Does m another k hs last most) (sym before.1) c)))

  -- a list of events leads to one state
  pub one_state_of : (events : List Event) (next last : List ℕ) (more most : List HandState)
      → Lead m first all events next more → Lead m first all events last most → (next ≡ last) × (more ≡ most)
  one_state_of events next last more most l g = one_lead events events next last more most refl l g

  passes : (events : List Event) (next : List ℕ) (more : List HandState) → Lead m first all events next more
      → (k : ℕ) (event : Event) → get_elem? events k ≡ some event → Passes m first all events k event
  passes events next more stays k event is = absurd cc
  passes events next more (goes_on {events = few} {next = n} {more = o} last l d) k event is = ⊎_elim
      (λ a. let p = passes few n o l k event a in record {
        words = p.words;
        hands = p.hands;
        next = p.next;
        more = p.more;
        lead = subst (λ es. Lead m first all es p.words p.hands)
            (sym (take-append-le k few (last ∷ []) (omega (arith, stands_below few event k a)))) p.lead;
        does = p.does;
      })
      (λ b. record {
        words = n;
        hands = o;
        next = next;
        more = more;
        lead = subst (λ es. Lead m first all es n o)
            (sym (ap (λ i. take i (few ++ last ∷ [])) b.0 ∙ take-append_seam few (last ∷ []))) l;
        does = subst (λ y. Does m y n o next more) b.1 d;
      })
      (snoc_at few last event k is)

place_same : (p q : ReplayPlace) → place_of p ≡ place_of q → p ≡ q
place_same (Live p) (Live q) e = cc
place_same (Live p) Spent e = absurd cc
place_same Spent (Live q) e = absurd cc
place_same Spent Spent e = refl

-- hands have one list of places
places_same : (hands : List HandState) (xs ys : List ReplayPlace) → ArePlacesOf hands xs → ArePlacesOf hands ys
    → xs ≡ ys
places_same hands xs ys a b = ext_get_or Spent xs ys (a.count ∙ sym b.count)
    (λ h l. place_same (get_or xs h Spent) (get_or ys h Spent) (a.each h ∙ sym (b.each h)))

module _ (m : Meaning) (cells : List ℕ) where
  pub one_state_from : (events : List Event) (next last : List ℕ) (more most : List ReplayPlace)
      → LeadTo m cells events next more → LeadTo m cells events last most → (next ≡ last) × (more ≡ most)
  one_state_from events next last more most l g =
      let same = one_state_of m (opening_words m cells) (newcomer m first_name ∷ []) events next last l.hands g.hands
      l.lead g.lead in
      (same.0, places_same l.hands more most l.at (subst (λ hs. ArePlacesOf hs most) (sym same.1) g.at))

  -- events that go on past a place have a step there
  not_past : (events some_of : List Event) (at : ℕ) → IsFirstNoStep m cells events at → (words : List ℕ)
      (places : List ReplayPlace) → LeadTo m cells some_of words places
      → take at some_of ≡ take at events → get_elem? some_of at ≡ get_elem? events at → ⊥
  not_past events some_of at f words places l e is =
      let before : LeadTo m cells (take at events) f.words f.places = f.before in
      let p : Passes m (opening_words m cells) (newcomer m first_name ∷ []) some_of at f.event =
      passes m (opening_words m cells) (newcomer m first_name ∷ []) some_of words l.hands l.lead at f.event
      (is ∙ f.there) in
      let same = one_state_of m (opening_words m cells) (newcomer m first_name ∷ []) (take at events) p.words f.words
      p.hands before.hands
      (subst (λ es. Lead m (opening_words m cells) (newcomer m first_name ∷ []) es p.words p.hands) e p.lead)
      before.lead in
      f.no_step (step_fits m p.words p.hands f.places
      (subst (λ hs. ArePlacesOf hs f.places) (sym same.1) before.at) p.next p.more f.event p.does)

  pub nowhere : (events : List Event) (at : ℕ) → IsFirstNoStep m cells events at → (words : List ℕ)
      (places : List ReplayPlace) → LeadTo m cells events words places → ⊥
  nowhere events at f words places l = not_past events events at f words places l refl refl

  -- and only one event is the first that is no step
  none_before : (events : List Event) (at place : ℕ) → at < place → IsFirstNoStep m cells events at
      → IsFirstNoStep m cells events place → ⊥
  none_before events at place b f g = not_past events (take place events) at f g.words g.places g.before
      (take_of_take at place events (omega arith)) (elem_of_take at place events b)

  pub one_place : (events : List Event) (at place : ℕ) → IsFirstNoStep m cells events at
      → IsFirstNoStep m cells events place → at ≡ place
  one_place events at place f g = ⊎_elim (λ b. absurd (none_before events at place b f g))
      (λ b. ⊎_elim (λ d. absurd (none_before events place at d g f)) (λ d. omega arith) (cases_lt place at))
      (cases_lt at place)
