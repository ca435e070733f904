-- One hand goes from one place to another, and one word changes: what stays as it was.
use Rattle.std.proofs.Common.{◌≡◌, ◌≢◌, ℕ, ◌<◌, ◌⊎◌, inl, inr, ⊎_elim, subst, refl, sym, ◌∙◌, arith, List, get_or}
use mathlib.Core.Logic.{dite}
use native.Mathlib.Decide.{ℕ_discrete}
use Rattle.ftl_cells.specs.shared.Work.{Meaning, item_total, step_total, target_of}
use Rattle.ftl_cells.specs.shared.State.{Place, live, spent, Sends}
use Rattle.ftl_cells.specs.shared.Kept.{Stage, Looks, IsWorkingAt, HasItem, IsInRange, IsHalfFilled, HasDelivered, Owes, IsUndone, AreReleased, IsKept}
use Rattle.ftl_cells.specs.declared.shared.place.HandPlace.TheVariants.{Idle, Looked, Working, Filled, Sending, Ended}

-- below the bound, the second function is the first
abbrev pub Same : ℕ → (ℕ → ℕ) → (ℕ → ℕ) → Type 0
Same n f g = (k : ℕ) → k < n → g k ≡ f k

-- below the bound, the second function is the first but for one number
pub record Puts (n : ℕ) (f g : ℕ → ℕ) (i x : ℕ) : Type 0 where
  pub here : g i ≡ x
  pub there : (k : ℕ) → k < n → k ≢ i → g k ≡ f k

-- the hand h goes from p to q, all other hands stay
pub record Turns (s t : Stage) (h : ℕ) (p q : Place) : Type 0 where
  pub was : s.place h ≡ p
  pub is : t.place h ≡ q
  pub others : (g : ℕ) → g ≢ h → t.place g ≡ s.place g

-- places speak of one item at most
pub sends_has : (p : Place) (i k : ℕ) → Sends p i k → HasItem p i
sends_has (live Idle) i k w = w
sends_has (live (Looked item)) i k w = w
sends_has (live (Working item j r)) i k w = absurd w
sends_has (live (Filled item)) i k w = w.0
sends_has (live (Sending item n)) i k w = w.0
sends_has (live Ended) i k w = w
sends_has spent i k w = w

pub works_has : (p : Place) (i j : ℕ) → IsWorkingAt p i j → HasItem p i
works_has (live Idle) i k w = w
works_has (live (Looked item)) i k w = w
works_has (live (Working item j r)) i k w = w.0
works_has (live (Filled item)) i k w = absurd w
works_has (live (Sending item n)) i k w = absurd w
works_has (live Ended) i k w = w
works_has spent i k w = w

pub has_one : (p : Place) (x y : ℕ) → HasItem p x → HasItem p y → x ≡ y
has_one (live Idle) x y a b = absurd a
has_one (live (Looked item)) x y a b = absurd a
has_one (live (Working item j r)) x y a b = omega arith
has_one (live (Filled item)) x y a b = omega arith
has_one (live (Sending item n)) x y a b = omega arith
has_one (live Ended) x y a b = absurd a
has_one spent x y a b = absurd a

pub sends_one : (p : Place) (x y k l : ℕ) → Sends p x k → Sends p y l → k ≡ l
sends_one (live Idle) x y k l a b = absurd a
sends_one (live (Looked item)) x y k l a b = absurd a
sends_one (live (Working item j r)) x y k l a b = absurd a
sends_one (live (Filled item)) x y k l a b = omega arith
sends_one (live (Sending item n)) x y k l a b = omega arith
sends_one (live Ended) x y k l a b = absurd a
sends_one spent x y k l a b = absurd a

pub sends_or_works : (p : Place) (x y k j : ℕ) → Sends p x k → IsWorkingAt p y j → ⊥
sends_or_works (live Idle) x y k j a b = a
sends_or_works (live (Looked item)) x y k j a b = a
sends_or_works (live (Working item n r)) x y k j a b = a
sends_or_works (live (Filled item)) x y k j a b = b
sends_or_works (live (Sending item n)) x y k j a b = b
sends_or_works (live Ended) x y k j a b = a
sends_or_works spent x y k j a b = a

pub has_case : (p : Place) (i : ℕ) → HasItem p i → ((j : ℕ) × IsWorkingAt p i j) ⊎ ((k : ℕ) × Sends p i k)
has_case (live Idle) i w = absurd w
has_case (live (Looked item)) i w = absurd w
has_case (live (Working item j r)) i w = inl (j, (w, refl))
has_case (live (Filled item)) i w = inr (0, (w, refl))
has_case (live (Sending item n)) i w = inr (n, (w, refl))
has_case (live Ended) i w = absurd w
has_case spent i w = absurd w

pub looks_in_range : (m : Meaning) (p : Place) (i : ℕ) → Looks p i → IsInRange m p → i < item_total m
looks_in_range m (live Idle) i w r = absurd w
looks_in_range m (live (Looked item)) i w r = subst (λ x. x < item_total m) w r
looks_in_range m (live (Working item j n)) i w r = absurd w
looks_in_range m (live (Filled item)) i w r = absurd w
looks_in_range m (live (Sending item n)) i w r = absurd w
looks_in_range m (live Ended) i w r = absurd w
looks_in_range m spent i w r = absurd w

pub has_in_range : (m : Meaning) (p : Place) (i : ℕ) → HasItem p i → IsInRange m p → i < item_total m
has_in_range m (live Idle) i w r = absurd w
has_in_range m (live (Looked item)) i w r = absurd w
has_in_range m (live (Working item j n)) i w r = subst (λ x. x < item_total m) w r.0
has_in_range m (live (Filled item)) i w r = subst (λ x. x < item_total m) w r
has_in_range m (live (Sending item n)) i w r = subst (λ x. x < item_total m) w r.0
has_in_range m (live Ended) i w r = absurd w
has_in_range m spent i w r = absurd w

-- what holds of a hand's place after a turn holds of the new place, or of another hand's old one; and the other way
module _ (s t : Stage) (h : ℕ) (p q : Place) (turn : Turns s t h p q) where
  pub after_turn : (P : Place → Type 0) (g : ℕ) → P (t.place g) → ((g ≡ h) × P q) ⊎ ((g ≢ h) × P (s.place g))
  after_turn P g w = dite (ℕ_discrete g h)
      (λ e. inl (e, subst P turn.is (subst (λ x. P (t.place x)) e w)))
      (λ ne. inr (ne, subst P (turn.others g ne) w))

  pub before_turn : (P : Place → Type 0) (g : ℕ) → P (s.place g) → ((g ≡ h) × P p) ⊎ ((g ≢ h) × P (t.place g))
  before_turn P g w = dite (ℕ_discrete g h)
      (λ e. inl (e, subst P turn.was (subst (λ x. P (s.place x)) e w)))
      (λ ne. inr (ne, subst P (sym (turn.others g ne)) w))

  pub old : (P : Place → Type 0) → (P q → ⊥) → (g : ℕ) → P (t.place g) → P (s.place g)
  old P never g w = ⊎_elim (λ a. absurd (never a.1)) (λ b. b.1) (after_turn P g w)

  pub new : (P : Place → Type 0) → (P p → ⊥) → (g : ℕ) → P (s.place g) → P (t.place g)
  new P never g w = ⊎_elim (λ a. absurd (never a.1)) (λ b. b.1) (before_turn P g w)

  pub range_after : (m : Meaning) → IsInRange m q → ((g : ℕ) → IsInRange m (s.place g)) → (g : ℕ)
      → IsInRange m (t.place g)
  range_after m r k g = dite (ℕ_discrete g h)
      (λ e. subst (λ x. IsInRange m (t.place x)) (sym e) (subst (IsInRange m) (sym turn.is) r))
      (λ ne. subst (IsInRange m) (sym (turn.others g ne)) (k g))

  pub alone_after : ((x : ℕ) → HasItem q x → HasItem p x)
      → ((a b x : ℕ) → HasItem (s.place a) x → HasItem (s.place b) x → a ≡ b)
      → (a b x : ℕ) → HasItem (t.place a) x → HasItem (t.place b) x → a ≡ b
  alone_after back k a b x u v =
      let from : (g : ℕ) → HasItem (t.place g) x → HasItem (s.place g) x = λ g w. ⊎_elim
      (λ c. subst (λ y. HasItem (s.place y) x) (sym c.0) (subst (λ z. HasItem z x) (sym turn.was) (back x c.1)))
      (λ c. c.1) (after_turn (λ z. HasItem z x) g w) in
      k a b x (from a u) (from b v)

-- facts of one item stay where what they speak of stays
module _ (m : Meaning) (s t : Stage) where
  pub half_same : (x j : ℕ) → t.state x ≡ s.state x
      → ((n : ℕ) → n < step_total m x → t.cell (target_of m x n) ≡ s.cell (target_of m x n)) → IsHalfFilled m s x j
      → IsHalfFilled m t x j
  half_same x j states cells k = record {
    state = states ∙ k.state;
    before = λ n a b z. k.before n a b (sym (cells n b) ∙ z);
    rest = λ n a b. cells n b ∙ k.rest n a b;
  }

  pub delivered_same : (p i : ℕ) → t.state p ≡ s.state p → ((h k : ℕ) → Sends (t.place h) p k → Sends (s.place h) p k)
      → HasDelivered m s p i → HasDelivered m t p i
  delivered_same p i e f d = record { state = e ∙ d.state; sent = λ h k at w. d.sent h k at (f h k w) }

  pub owes_same : (p i : ℕ) → (HasDelivered m t p i → HasDelivered m s p i) → Owes m s i p → Owes m t i p
  owes_same p i f o = record { next = o.next; waits = λ d. o.waits (f d) }

  pub undone_same : (p : ℕ) → t.state p ≡ s.state p → ((h k : ℕ) → Sends (s.place h) p k → Sends (t.place h) p k)
      → IsUndone s p → IsUndone t p
  undone_same p e f u = ⊎_elim (λ a. inl (λ z. a (sym e ∙ z))) (λ b. inr (b.0, b.1, f b.0 b.1 b.2)) u

  pub released_same : ((y : ℕ) → y < item_total m → s.counter y ≡ 0 → t.counter y ≡ 0) → (xs : List ℕ)
      → AreReleased m s xs → AreReleased m t xs
  released_same f xs r = record {
    known = r.known;
    zero = λ k h. f (get_or xs k 0) (r.known k h) (r.zero k h);
    preceded = r.preceded;
    once = r.once;
  }

-- what the rule says at once
module _ (m : Meaning) (s : Stage) (k : IsKept m s) where
  -- an item that a hand has is not free
  pub held_state : (h i : ℕ) → HasItem (s.place h) i → s.state i ≢ 0
  held_state h i w z = ⊎_elim
      (λ a. let half = k.working h i a.0 a.1 in let e : s.state i ≡ 1 = half.state in omega arith)
      (λ b. let e : s.state i ≡ 2 = k.sending h i b.0 b.1 in omega arith)
      (has_case (s.place h) i w)

  -- where the item is 0 to a step's target, no other item has it
  pub step_of : (h i j : ℕ) → IsWorkingAt (s.place h) i j → s.state i ≡ 1
  step_of h i j w = let half = k.working h i j w in half.state
