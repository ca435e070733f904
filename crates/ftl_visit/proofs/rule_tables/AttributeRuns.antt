-- The attributes of interfaces and classes as runs of numbers.
use Rattle.std.proofs.Common.{◌≡◌, ℕ, zero, suc, ◌+◌, ◌-◌, ◌<◌, ◌≤◌, List, [], ◌∷◌, ◌++◌, append_assoc, flat_map, get_or, length, map, take, refl, sym, ◌∙◌, ap, arith, length-append, add-one}
use Rattle.std.specs.List.{range_with_len}
use Rattle.ftl_meaning.specs.faults.Numbering.{numbered}

-- the numbers of numbered entries are a run
pub numbers_of : {X : Type 0} (n : ℕ) (xs : List X)
    → map (λ (a : ℕ × X). a.0) (numbered n xs) ≡ range_with_len n (length xs)
numbers_of n [] = refl
numbers_of n (x ∷ xs) =
    ap (λ ys. n ∷ ys) (numbers_of (suc n) xs ∙ ap (λ m. range_with_len m (length xs)) (sym (add-one n)))

-- one list more
pub one_run : {X Y : Type 0} (f : X → List Y) (xs : List X) (i : ℕ) (d : X) → i < length xs
    → length (flat_map f (take (i + 1) xs)) ≡ length (flat_map f (take i xs)) + length (f (get_or xs i d))
one_run f [] i d h = absurd (let z : ⊥ = omega (arith, h) in z)
one_run f (x ∷ xs) zero d h = length-append (f x) [] ∙ (let z : length (f x) + 0 ≡ 0 + length (f x) = omega arith in z)
one_run f (x ∷ xs) (suc i) d h =
    let more = one_run f xs i d (omega (arith, h)) in
    let k = length-append (f x) (flat_map f (take i xs)) in
    let e = length-append (f x) (flat_map f (take (i + 1) xs)) in
    let same : suc i + 1 ≡ suc (i + 1) = omega arith in
    ap (λ n. length (flat_map f (take n (x ∷ xs)))) same
    ∙ (let z : length (f x ++ flat_map f (take (i + 1) xs))
    ≡ length (f x ++ flat_map f (take i xs)) + length (f (get_or xs i d)) = omega (arith, more, k, e) in z)

-- a list within
pub run_within : {X Y : Type 0} (f : X → List Y) (xs : List X) (i : ℕ) (d : X) → i < length xs
    → length (flat_map f (take i xs)) + length (f (get_or xs i d)) ≤ length (flat_map f xs)
run_within f [] i d h = absurd (let z : ⊥ = omega (arith, h) in z)
run_within f (x ∷ xs) zero d h = let e = length-append (f x) (flat_map f xs) in omega (arith, e)
run_within f (x ∷ xs) (suc i) d h =
    let more = run_within f xs i d (omega (arith, h)) in
    let e = length-append (f x) (flat_map f xs) in
    let k = length-append (f x) (flat_map f (take i xs)) in
    omega (arith, more, e, k)

range_more : (a n j : ℕ) → a + n ≡ j → range_with_len a (n + 1) ≡ range_with_len a n ++ j ∷ []
range_more a zero j is = ap (λ m. m ∷ []) (let z : a ≡ j = omega (arith, is) in z)
range_more a (suc n) j is =
    ap (λ m. range_with_len a m) (let z : suc n + 1 ≡ suc (n + 1) = omega arith in z)
    ∙ ap (λ ys. a ∷ ys) (range_more (a + 1) n j (omega (arith, is)))

-- one number more of a run
pub run_more : (before old new : List ℕ) (first at : ℕ) → first ≤ at → old ≡ before ++ range_with_len first (at - first)
    → new ≡ old ++ at ∷ [] → new ≡ before ++ range_with_len first (at + 1 - first)
run_more before old new first at low so_far is =
    is
    ∙ ap (λ xs. xs ++ at ∷ []) so_far
    ∙ append_assoc before (range_with_len first (at - first)) (at ∷ [])
    ∙ ap (λ xs. before ++ xs)
    (sym (range_more first (at - first) at (let z : first + (at - first) ≡ at = omega (arith, low) in z))
    ∙ ap (λ n. range_with_len first n) (let z : at - first + 1 ≡ at + 1 - first = omega (arith, low) in z))

-- the attributes of an interface past the end, and of one that is there
pub count_whole : {X Y : Type 0} (f : X → List Y) (xs : List X)
    → length (flat_map f (take (length xs) xs)) ≡ length (flat_map f xs)
count_whole f [] = refl
count_whole f (x ∷ xs) =
    length-append (f x) (flat_map f (take (length xs) xs))
    ∙ ap (λ n. length (f x) + n) (count_whole f xs)
    ∙ sym (length-append (f x) (flat_map f xs))

-- the run of one list
pub ruleset run_steps = (one_run, run_within)
