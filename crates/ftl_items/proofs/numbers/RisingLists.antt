-- Lists of numbers that rise, and where the entries stand that pass a test.
use Rattle.std.proofs.Common.{◌≡◌, ℕ, zero, suc, ◌+◌, ◌<◌, Bool, true, false, cond, refl, sym, ◌∙◌, ap, subst, ⊎_elim, arith, List, [], ◌∷◌, ◌++◌, filter, flat_map, get_or, length, reverse, take, Contains}
use Rattle.std.specs.List.{range_with_len}
use Rattle.ftl_model.proofs.lists.Elements.{here_in, in_cases, in_filter, in_flat_map, later_in, nothing_in}
use Rattle.ftl_model.proofs.lists.Rising.{Across, Rising, rising-append}
use Rattle.ftl_items.proofs.stage_items.Reverses.{in_reverse, reverse-cons}

abbrev pub Rises : List ℕ → Type 0
Rises ns = Rising (λ a b. a < b) ns

pub rising-filter : {X : Type 0} (R : X → X → Type 0) (test : X → Bool) (xs : List X) → Rising R xs
    → Rising R (filter test xs)
rising-filter R test [] r = tt
rising-filter R test (x ∷ xs) r =
    elim (test x) as (λ b. Rising R (cond b (x ∷ filter test xs) (filter test xs))) [
      | true ↦ ((λ y h. r.0 y (in_filter test xs y h).0), rising-filter R test xs r.1)
      | false ↦ rising-filter R test xs r.1
    ]

-- the other way round each stands so to all before it
pub rising-reverse : {X : Type 0} (R : X → X → Type 0) (xs : List X) → Rising R xs → Rising (λ a b. R b a) (reverse xs)
rising-reverse R [] r = tt
rising-reverse R (x ∷ xs) r =
    subst (Rising (λ a b. R b a)) (sym (reverse-cons x xs))
    (rising-append (λ a b. R b a) (reverse xs) (x ∷ []) (rising-reverse R xs r.1)
    ((λ y h. absurd (nothing_in y h)), tt)
    (λ y z hy hz.
    ⊎_elim (λ same. subst (λ w. R w y) same (r.0 y (in_reverse xs y hy))) (λ none. absurd (nothing_in z none))
    (in_cases x z [] hz)))

-- lists one behind another
pub rising-flat_map : {X Y : Type 0} (Q : X → X → Type 0) (R : Y → Y → Type 0) (f : X → List Y) (xs : List X)
    → Rising Q xs → ((x : X) → Contains xs x → Rising R (f x))
    → ((x z : X) → Contains xs x → Contains xs z → Q x z → Across R (f x) (f z)) → Rising R (flat_map f xs)
rising-flat_map Q R f [] q own across = tt
rising-flat_map Q R f (x ∷ xs) q own across =
    rising-append R (f x) (flat_map f xs) (own x (here_in x xs))
    (rising-flat_map Q R f xs q.1 (λ z h. own z (later_in x z xs h))
    (λ y z hy hz. across y z (later_in x y xs hy) (later_in x z xs hz)))
    (λ a b ha hb.
    let piece = in_flat_map f xs b hb in
    across x piece.0 (here_in x xs) (later_in x piece.0 xs piece.1) (q.0 piece.0 piece.1) a b ha piece.2)

-- two lists that rise and have the same entries are one
pub same_rising : (xs ys : List ℕ) → Rises xs → Rises ys → ((n : ℕ) → Contains xs n → Contains ys n)
    → ((n : ℕ) → Contains ys n → Contains xs n) → xs ≡ ys
same_rising [] [] rx ry to from = refl
same_rising [] (y ∷ ys) rx ry to from = absurd (nothing_in y (from y (here_in y ys)))
same_rising (x ∷ xs) [] rx ry to from = absurd (nothing_in x (to x (here_in x xs)))
same_rising (x ∷ xs) (y ∷ ys) rx ry to from =
    let same : x ≡ y =
    ⊎_elim (λ e. sym e)
    (λ later.
    ⊎_elim (λ e. e)
    (λ again.
    absurd (let a = ry.0 x later in let b = rx.0 y again in let z : ⊥ = omega (arith, a, b) in z))
    (in_cases x y xs (from y (here_in y ys))))
    (in_cases y x ys (to x (here_in x xs))) in
    ap (λ n. n ∷ xs) same
    ∙ ap (λ ns. y ∷ ns)
    (same_rising xs ys rx.1 ry.1
    (λ n h.
    ⊎_elim (λ e. absurd (let a = rx.0 n h in let z : ⊥ = omega (arith, a, e, same) in z)) (λ later. later)
    (in_cases y n ys (to n (later_in x n xs h))))
    (λ n h.
    ⊎_elim (λ e. absurd (let a = ry.0 n h in let z : ⊥ = omega (arith, a, e, same) in z)) (λ later. later)
    (in_cases x n xs (from n (later_in y n ys h)))))

pub range-append : (a m n : ℕ) → range_with_len a (m + n) ≡ range_with_len a m ++ range_with_len (a + m) n
range-append a zero n =
    let e : 0 + n ≡ n = omega arith in
    let f : a + 0 ≡ a = omega arith in
    rw (e, f) refl
range-append a (suc m) n =
    let e : suc m + n ≡ suc (m + n) = omega arith in
    let f : a + suc m ≡ (a + 1) + m = omega arith in
    rw (e, f) (ap (λ r. a ∷ r) (range-append (a + 1) m n))

-- ---- entries that pass a test

module _ {X : Type 0} (test : X → Bool) where
  -- how many of the first so many pass
  abbrev pub passing : List X → ℕ → ℕ
  passing xs n = length (filter test (take n xs))

  -- an entry that passes stands among those that do at the count of those before it
  pub passing_within : (xs : List X) (n : ℕ) (d : X) → n < length xs → test (get_or xs n d) ≡ true
      → passing xs n < length (filter test xs)
  passing_within [] n d below e = absurd (let z : ⊥ = omega (arith, below) in z)
  passing_within (x ∷ xs) zero d below e =
      subst (λ b. 0 < length (cond b (x ∷ filter test xs) (filter test xs))) (sym e)
      (let z : 0 < suc (length (filter test xs)) = omega arith in z)
  passing_within (x ∷ xs) (suc n) d below e =
      let later = passing_within xs n d (omega (arith, below)) e in
      elim (test x) as
      (λ b. length (cond b (x ∷ filter test (take n xs)) (filter test (take n xs)))
      < length (cond b (x ∷ filter test xs) (filter test xs)))
      [ true ↦ (let z : suc (passing xs n) < suc (length (filter test xs)) = omega (arith, later) in z) | false ↦ later ]

  pub passing_is : (xs : List X) (n : ℕ) (d : X) → n < length xs → test (get_or xs n d) ≡ true
      → get_or (filter test xs) (passing xs n) d ≡ get_or xs n d
  passing_is [] n d below e = absurd (let z : ⊥ = omega (arith, below) in z)
  passing_is (x ∷ xs) zero d below e =
      ap (λ b. get_or (cond b (x ∷ filter test xs) (filter test xs)) 0 d) e
  passing_is (x ∷ xs) (suc n) d below e =
      let later = passing_is xs n d (omega (arith, below)) e in
      elim (test x) as
      (λ b. get_or (cond b (x ∷ filter test xs) (filter test xs))
      (length (cond b (x ∷ filter test (take n xs)) (filter test (take n xs)))) d ≡ get_or xs n d)
      [ true ↦ later | false ↦ later ]

  -- fewer stand before one that passes than before a later one
  pub passing_less : (xs : List X) (m n : ℕ) (d : X) → m < n → m < length xs → test (get_or xs m d) ≡ true
      → passing xs m < passing xs n
  passing_less [] m n d less below e = absurd (let z : ⊥ = omega (arith, below) in z)
  passing_less (x ∷ xs) m zero d less below e = absurd (let z : ⊥ = omega (arith, less) in z)
  passing_less (x ∷ xs) zero (suc n) d less below e =
      subst (λ b. 0 < length (cond b (x ∷ filter test (take n xs)) (filter test (take n xs)))) (sym e)
      (let z : 0 < suc (passing xs n) = omega arith in z)
  passing_less (x ∷ xs) (suc m) (suc n) d less below e =
      let later = passing_less xs m n d (omega (arith, less)) (omega (arith, below)) e in
      elim (test x) as
      (λ b. length (cond b (x ∷ filter test (take m xs)) (filter test (take m xs)))
      < length (cond b (x ∷ filter test (take n xs)) (filter test (take n xs))))
      [ true ↦ (let z : suc (passing xs m) < suc (passing xs n) = omega (arith, later) in z) | false ↦ later ]
