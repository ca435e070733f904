-- Entries of lists, and lists without repetition.
use Rattle.std.proofs.Common.{◌≡◌, ◌≢◌, ◌⊎◌, ℕ, zero, suc, ◌+◌, ◌<◌, ◌≤◌, Bool, true, false, cond, refl, sym, ◌∙◌, ap, subst, inl, inr, ⊎_elim, arith, List, [], ◌∷◌, ◌++◌, length, get_or, filter, flat_map, Contains}
use Rattle.std.specs.List.{AllByRecursion, range_with_len}
use Rattle.std.proofs.lemmas.List.Elements.{All-contains, All-from_recursion, Contains-append_cases, Contains-append_left, Contains-append_right}
use Rattle.std.proofs.lemmas.Bool.{cases_lt}
use Rattle.ftl_model.specs.lists.Lists.{AreDistinct}

pub nothing_in : {X : Type 0} (x : X) → Contains [] x → ⊥
nothing_in x h = let b = h.1 in omega (arith, b)

pub here_in : {X : Type 0} (x : X) (xs : List X) → Contains (x ∷ xs) x
here_in x xs = (0, let z : 0 < suc (length xs) = omega arith in z, refl)

pub later_in : {X : Type 0} (y x : X) (xs : List X) → Contains xs x → Contains (y ∷ xs) x
later_in y x xs h = (suc h.0, let b = h.1 in let z : suc h.0 < suc (length xs) = omega (arith, b) in z, h.2)

pub in_cases : {X : Type 0} (y x : X) (xs : List X) → Contains (y ∷ xs) x → (y ≡ x) ⊎ Contains xs x
in_cases y x xs h = go h.0 h.1 h.2
  where
    go : (k : ℕ) → k < length (y ∷ xs) → get_or (y ∷ xs) k x ≡ x → (y ≡ x) ⊎ Contains xs x
    go zero b e = inl e
    go (suc k) b e = inr (k, let z : k < length xs = omega (arith, b) in z, e)

-- where each entry has its place as its number, no entry stands twice
pub distinct_by_number : {X : Type 0} (f : X → ℕ) (xs : List X) (from : ℕ)
    → ((k : ℕ) (d : X) → k < length xs → f (get_or xs k d) ≡ from + k) → AreDistinct xs
distinct_by_number f [] from number = tt
distinct_by_number f (x ∷ xs) from number = (
  (λ h.
      let first = number 0 x (omega arith) in
      let b = h.1 in
      let again = number (suc h.0) x (omega (arith, b)) in
      let same : f (get_or xs h.0 x) ≡ f x = ap f h.2 in
      let z : ⊥ = omega (arith, first, again, same) in z),
  distinct_by_number f xs (suc from)
      (λ k d b. number (suc k) d (omega (arith, b)) ∙ (let z : from + suc k ≡ suc from + k = omega arith in z)),
)

pub in_filter : {X : Type 0} (p : X → Bool) (xs : List X) (z : X) → Contains (filter p xs) z
    → Contains xs z × (p z ≡ true)
in_filter p [] z h = absurd (nothing_in z h)
in_filter p (x ∷ xs) z h =
    elim (p x) as
    (λ b. (p x ≡ b) → Contains (cond b (x ∷ filter p xs) (filter p xs)) z → Contains (x ∷ xs) z × (p z ≡ true)) [
      | true ↦ λ e h.
          ⊎_elim (λ same. (subst (Contains (x ∷ xs)) same (here_in x xs), subst (λ y. p y ≡ true) same e))
          (λ later. let i = in_filter p xs z later in (later_in x z xs i.0, i.1)) (in_cases x z (filter p xs) h)
      | false ↦ λ e h. let i = in_filter p xs z h in (later_in x z xs i.0, i.1)
    ]
    refl h

pub filter_has : {X : Type 0} (p : X → Bool) (xs : List X) (z : X) → Contains xs z → p z ≡ true
    → Contains (filter p xs) z
filter_has p [] z h passes = absurd (nothing_in z h)
filter_has p (x ∷ xs) z h passes =
    elim (p x) as (λ b. (p x ≡ b) → Contains (cond b (x ∷ filter p xs) (filter p xs)) z) [
      | true ↦ λ e.
          ⊎_elim (λ same. subst (Contains (x ∷ filter p xs)) same (here_in x (filter p xs)))
          (λ later. later_in x z (filter p xs) (filter_has p xs z later passes)) (in_cases x z xs h)
      | false ↦ λ e.
          ⊎_elim (λ same. absurd
          (let f : p z ≡ false = subst (λ y. p y ≡ false) same e in let z : ⊥ = grind arith in z))
          (λ later. filter_has p xs z later passes) (in_cases x z xs h)
    ]
    refl

pub distinct-filter : {X : Type 0} (p : X → Bool) (xs : List X) → AreDistinct xs → AreDistinct (filter p xs)
distinct-filter p [] h = tt
distinct-filter p (x ∷ xs) h =
    elim (p x) as (λ b. AreDistinct (cond b (x ∷ filter p xs) (filter p xs)))
    [ true ↦ ((λ again. h.0 (in_filter p xs x again).0), distinct-filter p xs h.1) | false ↦ distinct-filter p xs h.1 ]

-- what holds of each entry of a list holds of what it contains
pub each_in : {X : Type 0} (P : X → Type 0) (xs : List X) → AllByRecursion P xs → (x : X) → Contains xs x → P x
each_in P xs h x in_it = All-contains P xs x (All-from_recursion P xs h) in_it

-- a number that differs from each entry is not among them
pub not_among : (n : ℕ) (ns : List ℕ) → AllByRecursion (λ x. x ≢ n) ns → Contains ns n → ⊥
not_among n ns h in_it = each_in (λ x. x ≢ n) ns h n in_it refl

-- what a list of pieces has, one of the pieces has
pub in_flat_map : {X Y : Type 0} (f : X → List Y) (xs : List X) (y : Y) → Contains (flat_map f xs) y
    → (x : X) × Contains xs x × Contains (f x) y
in_flat_map f [] y h = absurd (nothing_in y h)
in_flat_map f (x ∷ xs) y h =
    ⊎_elim (λ here. (x, here_in x xs, here))
    (λ later. let i = in_flat_map f xs y later in (i.0, later_in x i.0 xs i.1, i.2))
    (Contains-append_cases (f x) (flat_map f xs) y h)

pub flat_map_has : {X Y : Type 0} (f : X → List Y) (xs : List X) (x : X) (y : Y) → Contains xs x → Contains (f x) y
    → Contains (flat_map f xs) y
flat_map_has f [] x y h there = absurd (nothing_in x h)
flat_map_has f (z ∷ xs) x y h there =
    ⊎_elim
    (λ same. Contains-append_left (f z) (flat_map f xs) y (subst (λ w. Contains (f w) y) (sym same) there))
    (λ later. Contains-append_right (f z) (flat_map f xs) y (flat_map_has f xs x y later there))
    (in_cases z x xs h)

-- numbers from one on, each below the end
pub in_range_from : (a n m : ℕ) → Contains (range_with_len a n) m → (a ≤ m) × (m < a + n)
in_range_from a zero m h = absurd (nothing_in m h)
in_range_from a (suc n) m h =
    ⊎_elim (λ same. ((let z : a ≤ m = omega (arith, same) in z), (let z : m < a + suc n = omega (arith, same) in z)))
    (λ later.
    let i = in_range_from (a + 1) n m later in
    let low = i.0 in
    let high = i.1 in
    ((let z : a ≤ m = omega (arith, low) in z), (let z : m < a + suc n = omega (arith, high) in z)))
    (in_cases a m (range_with_len (a + 1) n) h)

pub range_has : (a n m : ℕ) → a ≤ m → m < a + n → Contains (range_with_len a n) m
range_has a zero m low high = absurd (let z : ⊥ = omega (arith, low, high) in z)
range_has a (suc n) m low high =
    ⊎_elim (λ less. later_in a m (range_with_len (a + 1) n) (range_has (a + 1) n m (omega (arith, less)) (omega (arith, high))))
    (λ least.
    let same : a ≡ m = omega (arith, low, least) in
    subst (Contains (a ∷ range_with_len (a + 1) n)) same (here_in a (range_with_len (a + 1) n)))
    (cases_lt a m)

pub distinct-append : {X : Type 0} (xs ys : List X) → AreDistinct xs → AreDistinct ys
    → ((x : X) → Contains xs x → Contains ys x → ⊥) → AreDistinct (xs ++ ys)
distinct-append [] ys dx dy apart = dy
distinct-append (x ∷ xs) ys dx dy apart = (
  (λ h. ⊎_elim dx.0 (λ there. apart x (here_in x xs) there) (Contains-append_cases xs ys x h)),
  distinct-append xs ys dx.1 dy (λ z here there. apart z (later_in x z xs here) there),
)

-- the parts of a list without repetition
pub distinct_left : {X : Type 0} (xs ys : List X) → AreDistinct (xs ++ ys) → AreDistinct xs
distinct_left [] ys h = tt
distinct_left (x ∷ xs) ys h = ((λ here. h.0 (Contains-append_left xs ys x here)), distinct_left xs ys h.1)

pub distinct_right : {X : Type 0} (xs ys : List X) → AreDistinct (xs ++ ys) → AreDistinct ys
distinct_right [] ys h = h
distinct_right (x ∷ xs) ys h = distinct_right xs ys h.1

pub distinct_apart : {X : Type 0} (xs ys : List X) → AreDistinct (xs ++ ys) → (z : X) → Contains xs z → Contains ys z → ⊥
distinct_apart [] ys h z here there = nothing_in z here
distinct_apart (x ∷ xs) ys h z here there =
    ⊎_elim (λ same. h.0 (Contains-append_right xs ys x (subst (Contains ys) (sym same) there)))
    (λ later. distinct_apart xs ys h.1 z later there) (in_cases x z xs here)

pub distinct-range : (a n : ℕ) → AreDistinct (range_with_len a n)
distinct-range a zero = tt
distinct-range a (suc n) = (
  (λ h. let low = (in_range_from (a + 1) n a h).0 in let z : ⊥ = omega (arith, low) in z),
  distinct-range (a + 1) n,
)

-- a piece of pieces that repeat nothing repeats nothing
pub distinct_piece : {X Y : Type 0} (f : X → List Y) (xs : List X) → AreDistinct (flat_map f xs) → (x : X)
    → Contains xs x → AreDistinct (f x)
distinct_piece f [] h x in_it = absurd (nothing_in x in_it)
distinct_piece f (z ∷ xs) h x in_it =
    ⊎_elim (λ same. subst (λ w. AreDistinct (f w)) same (distinct_left (f z) (flat_map f xs) h))
    (λ later. distinct_piece f xs (distinct_right (f z) (flat_map f xs) h) x later) (in_cases z x xs in_it)

-- and an entry stands in one piece
pub one_piece : {X Y : Type 0} (f : X → List Y) (xs : List X) → AreDistinct (flat_map f xs) → (x z : X) (y : Y)
    → Contains xs x → Contains xs z → Contains (f x) y → Contains (f z) y → x ≡ z
one_piece f [] h x z y in_x in_z at_x at_z = absurd (nothing_in x in_x)
one_piece f (w ∷ xs) h x z y in_x in_z at_x at_z =
    ⊎_elim
    (λ same_x. ⊎_elim (λ same_z. sym same_x ∙ same_z)
    (λ later_z. absurd
    (distinct_apart (f w) (flat_map f xs) h y (subst (λ v. Contains (f v) y) (sym same_x) at_x)
    (flat_map_has f xs z y later_z at_z))) (in_cases w z xs in_z))
    (λ later_x. ⊎_elim
    (λ same_z. absurd
    (distinct_apart (f w) (flat_map f xs) h y (subst (λ v. Contains (f v) y) (sym same_z) at_z)
    (flat_map_has f xs x y later_x at_x)))
    (λ later_z. one_piece f xs (distinct_right (f w) (flat_map f xs) h) x z y later_x later_z at_x at_z)
    (in_cases w z xs in_z)) (in_cases w x xs in_x)
