-- Lists in which each entry stands in a relation to all behind it.
use Rattle.std.proofs.Common.{◌≡◌, ℕ, zero, suc, ◌<◌, sym, subst, ⊎_elim, arith, List, [], ◌∷◌, ◌++◌, length, get_or, map, Contains}
use Rattle.std.proofs.lemmas.Bool.{cases_lt}
use Rattle.std.proofs.lemmas.List.{get_or_default}
use Rattle.std.proofs.lemmas.List.Elements.{Contains-append_cases}
use Rattle.ftl_model.specs.lists.Lists.{AreDistinct, Before, NoneFalls}
use Rattle.ftl_model.proofs.lists.Elements.{nothing_in, here_in, later_in, in_cases}

-- each entry stands so to all behind it
abbrev pub Rising : {X : Type 0} → (X → X → Type 0) → List X → Type 0
Rising R [] = Unit {0}
Rising {X} R (x ∷ xs) = ((y : X) → Contains xs y → R x y) × Rising R xs

abbrev pub Across : {X : Type 0} → (X → X → Type 0) → List X → List X → Type 0
Across {X} R xs ys = (x y : X) → Contains xs x → Contains ys y → R x y

pub rising-append : {X : Type 0} (R : X → X → Type 0) (xs ys : List X) → Rising R xs → Rising R ys → Across R xs ys
    → Rising R (xs ++ ys)
rising-append R [] ys rx ry across = ry
rising-append R (x ∷ xs) ys rx ry across = (
  (λ y h. ⊎_elim (λ front. rx.0 y front) (λ back. across x y (here_in x xs) back) (Contains-append_cases xs ys y h)),
  rising-append R xs ys rx.1 ry (λ z y hz hy. across z y (later_in x z xs hz) hy),
)

pub across-append : {X : Type 0} (R : X → X → Type 0) (xs ys zs : List X) → Across R xs ys → Across R xs zs
    → Across R xs (ys ++ zs)
across-append R xs ys zs a b x y hx h =
    ⊎_elim (λ front. a x y hx front) (λ back. b x y hx back) (Contains-append_cases ys zs y h)

-- an entry of the map of a list
pub record Mapped {X Y : Type 0} (h : X → Y) (xs : List X) (y : Y) : Type 0 where
  pub from : X
  pub there : Contains xs from
  pub is : h from ≡ y

pub in_map : {X Y : Type 0} (h : X → Y) (xs : List X) (y : Y) → Contains (map h xs) y → Mapped h xs y
in_map h [] y c = absurd (nothing_in y c)
in_map h (x ∷ xs) y c =
    ⊎_elim (λ same. record { from = x; there = here_in x xs; is = same })
    (λ later.
    let m = in_map h xs y later in
    record { from = m.from; there = later_in x m.from xs m.there; is = m.is })
    (in_cases (h x) y (map h xs) c)

pub rising-map : {X Y : Type 0} (R : Y → Y → Type 0) (h : X → Y) (xs : List X) → Rising (λ a b. R (h a) (h b)) xs
    → Rising R (map h xs)
rising-map R h [] r = tt
rising-map R h (x ∷ xs) r =
    ((λ y c. let m = in_map h xs y c in subst (R (h x)) m.is (r.0 m.from m.there)), rising-map R h xs r.1)

-- numbers that do not fall rise, where those of two entries differ
pub strictly : {X : Type 0} (f : X → ℕ) (xs : List X) → NoneFalls f xs → AreDistinct xs
    → ((a b : X) → Contains xs a → Contains xs b → f a ≡ f b → a ≡ b) → Rising (λ a b. f a < f b) xs
strictly f [] r d own = tt
strictly f (x ∷ xs) r d own = (
  (λ y h.
      let up = r.0 y h in
      ⊎_elim (λ less. less)
      (λ more.
      absurd (d.0 (subst (Contains xs) (sym (own x y (here_in x xs) (later_in x y xs h) (omega (arith, up, more)))) h)))
      (cases_lt (f x) (f y))),
  strictly f xs r.1 d.1 (λ a b ha hb. own a b (later_in x a xs ha) (later_in x b xs hb)),
)

pub rising_more : {X : Type 0} (R Q : X → X → Type 0) (xs : List X)
    → ((a b : X) → Contains xs a → Contains xs b → R a b → Q a b)
    → Rising R xs → Rising Q xs
rising_more R Q [] more r = tt
rising_more R Q (y ∷ ys) more r = (
  (λ z h. more y z (here_in y ys) (later_in y z ys h) (r.0 z h)),
  rising_more R Q ys (λ a b ha hb. more a b (later_in y a ys ha) (later_in y b ys hb)) r.1,
)

-- two lists don't each come before the other
pub before_once : (xs ys : List ℕ) → Before xs ys → Before ys xs → ⊥
before_once [] ys h k = h
before_once (x ∷ xs) [] h k = h
before_once (x ∷ xs) (y ∷ ys) h k =
    ⊎_elim (λ less. ⊎_elim (λ more. omega (arith, less, more)) (λ same. let e = same.0 in omega (arith, less, e)) k)
    (λ same.
    ⊎_elim (λ more. let e = same.0 in omega (arith, more, e)) (λ later. before_once xs ys same.1 later.1) k)
    h

-- what rises stands so by places
pub rising_at : {X : Type 0} (R : X → X → Type 0) (xs : List X) → Rising R xs → (m n : ℕ) (d : X) → m < n
    → n < length xs
    → R (get_or xs m d) (get_or xs n d)
rising_at R [] r m n d less below = absurd (let z : ⊥ = omega (arith, below) in z)
rising_at R (y ∷ ys) r m zero d less below = absurd (let z : ⊥ = omega (arith, less) in z)
rising_at R (y ∷ ys) r zero (suc n) d less below =
    let within : n < length ys = omega (arith, below) in
    r.0 (get_or ys n d) (n, within, get_or_default ys n (get_or ys n d) d within)
rising_at R (y ∷ ys) r (suc m) (suc n) d less below = rising_at R ys r.1 m n d (omega (arith, less))
    (omega (arith, below))

pub map_has : {X Y : Type 0} (h : X → Y) (xs : List X) (a : X) → Contains xs a → Contains (map h xs) (h a)
map_has h [] a c = absurd (let b = c.1 in let z : ⊥ = omega (arith, b) in z)
map_has h (x ∷ xs) a c =
    ⊎_elim (λ same. subst (λ z. Contains (map h (x ∷ xs)) (h z)) same (here_in (h x) (map h xs)))
    (λ later. later_in (h x) (h a) (map h xs) (map_has h xs a later)) (in_cases x a xs c)
