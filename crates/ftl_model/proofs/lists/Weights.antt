-- Lists of numbers below a base, weighed so that an earlier list weighs less.
use Rattle.std.proofs.Common.{◌≡◌, ℕ, zero, suc, ◌+◌, ◌*◌, ◌<◌, ◌≤◌, subst, ap, ⊎_elim, arith, List, [], ◌∷◌, length, get_or, Contains, mul-le-mul_right}
use Rattle.std.specs.List.{AllByRecursion}
use Rattle.ftl_model.specs.lists.Lists.{Before}

abbrev pub power : ℕ → ℕ → ℕ
power base zero = 1
power base (suc n) = base * power base n

-- the first so many numbers as digits
abbrev pub weight : ℕ → ℕ → List ℕ → ℕ
weight base zero xs = 0
weight base (suc n) [] = 0
weight base (suc n) (x ∷ xs) = x * power base n + weight base n xs

abbrev pub AllBelow : ℕ → List ℕ → Type 0
AllBelow base xs = AllByRecursion (λ x. x < base) xs

power_positive : (base n : ℕ) → 0 < base → 0 < power base n
power_positive base zero h = omega arith
power_positive base (suc n) h =
    let i = power_positive base n h in
    let m : 1 * power base n ≤ base * power base n = mul-le-mul_right (power base n) h in
    omega (arith, i, m)

weight_below : (base n : ℕ) (xs : List ℕ) → 0 < base → AllBelow base xs → weight base n xs < power base n
weight_below base zero xs some below = omega arith
weight_below base (suc n) [] some below = power_positive base (suc n) some
weight_below base (suc n) (x ∷ xs) some below =
    let i = weight_below base n xs some below.1 in
    let m : suc x * power base n ≤ base * power base n = mul-le-mul_right (power base n) below.0 in
    omega (arith, i, m)

pub before_weight : (base n : ℕ) (xs ys : List ℕ) → 0 < base → AllBelow base xs → length xs ≤ n → Before xs ys
    → weight base n xs < weight base n ys
before_weight base n [] ys some below long h = absurd h
before_weight base zero (x ∷ xs) ys some below long h = absurd (let z : ⊥ = omega (arith, long) in z)
before_weight base (suc n) (x ∷ xs) [] some below long h = absurd h
before_weight base (suc n) (x ∷ xs) (y ∷ ys) some below long h =
    ⊎_elim
    (λ less.
    let w = weight_below base n xs some below.1 in
    let m : suc x * power base n ≤ y * power base n = mul-le-mul_right (power base n) less in
    omega (arith, w, m))
    (λ later.
    let i = before_weight base n xs ys some below.1 (omega (arith, long)) later.1 in
    subst (λ z. x * power base n + weight base n xs < z * power base n + weight base n ys) later.0 (omega (arith, i)))
    h

-- a bound of a list's entries
abbrev pub sum_of_all : List ℕ → ℕ
sum_of_all [] = 0
sum_of_all (x ∷ xs) = x + sum_of_all xs

pub all_below : (base : ℕ) (xs : List ℕ) → sum_of_all xs < base → AllBelow base xs
all_below base [] h = tt
all_below base (x ∷ xs) h = ((let z : x < base = omega (arith, h) in z), all_below base xs (omega (arith, h)))

-- the sum of a number of each entry
abbrev pub total_by : {X : Type 0} → (X → ℕ) → List X → ℕ
total_by f [] = 0
total_by f (x ∷ xs) = f x + total_by f xs

at_most_total : {X : Type 0} (f : X → ℕ) (xs : List X) (x : X) (k : ℕ) → k < length xs → get_or xs k x ≡ x
    → f x ≤ total_by f xs
at_most_total f [] x k below e = absurd (let z : ⊥ = omega (arith, below) in z)
at_most_total f (y ∷ ys) x zero below e = let z : f y ≡ f x = ap f e in omega (arith, z)
at_most_total f (y ∷ ys) x (suc k) below e =
    let i = at_most_total f ys x k (omega (arith, below)) e in
    omega (arith, i)

pub at_most_total_of : {X : Type 0} (f : X → ℕ) (xs : List X) (x : X) → Contains xs x → f x ≤ total_by f xs
at_most_total_of f xs x h = at_most_total f xs x h.0 h.1 h.2
