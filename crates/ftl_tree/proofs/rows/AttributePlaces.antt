-- The places of attributes among those of two runs of numbers.
use Rattle.std.proofs.Common.{◌≡◌, ℕ, zero, suc, ◌+◌, ◌-◌, ◌<◌, ◌≤◌, Bool, true, false, cond, eqb, List, [], ◌∷◌, ◌++◌, length, refl, sym, ap, ◌∙◌, subst, arith, inl, inr, ⊎_elim, length-append, Contains, filter}
use Rattle.std.specs.List.{range_with_len}
use Rattle.std.proofs.lemmas.Bool.{eqb-true, eq-eqb}
use Rattle.std.proofs.lemmas.List.{append-nil}
use Rattle.std.proofs.lemmas.List.Elements.{Contains-append_cases, filter-append}
use Rattle.ftl_tree.specs.rows.ClassRows.{IsOutsideRun}
use Rattle.ftl_model.specs.lists.Lists.{place_in}
use Rattle.ftl_model.proofs.lists.Elements.{in_range_from}

range-append : (a m n : ℕ) → range_with_len a (m + n) ≡ range_with_len a m ++ range_with_len (a + m) n
range-append a zero n = let e : 0 + n ≡ n = omega arith in let f : a + 0 ≡ a = omega arith in rw (e, f) refl
range-append a (suc m) n =
    let e : suc m + n ≡ suc (m + n) = omega arith in let f : a + suc m ≡ (a + 1) + m = omega arith in
    rw (e, f) (ap (λ r. a ∷ r) (range-append (a + 1) m n))

outside_next : (s n a : ℕ) → IsOutsideRun s (suc n) a → IsOutsideRun (s + 1) n a
outside_next s n a (inl h) = inl (omega (arith, h))
outside_next s n a (inr h) = inr (omega (arith, h))

outside_first : (s n a : ℕ) → IsOutsideRun s (suc n) a → a ≡ s → ⊥
outside_first s n a (inl h) e = omega (arith, h, e)
outside_first s n a (inr h) e = omega (arith, h, e)

-- in a run that stands first
pub place_inside : (s n a : ℕ) (ys : List ℕ) → s ≤ a → a < s + n → place_in (range_with_len s n ++ ys) a ≡ a - s
place_inside s zero a ys h k = absurd (omega (arith, h, k))
place_inside s (suc n) a ys h k = go (eqb a s) refl (λ more. place_inside (s + 1) n a ys more (omega (arith, k)))
  where
    go : (b : Bool) → eqb a s ≡ b → (s + 1 ≤ a → place_in (range_with_len (s + 1) n ++ ys) a ≡ a - (s + 1)) → cond b 0 (suc (place_in (range_with_len (s + 1) n ++ ys) a)) ≡ a - s
    go true e later = let same = eqb-true a s e in omega (arith, same)
    go false e later =
        let more : s + 1 ≤ a = omega (arith, h, λ (same : a ≡ s). let z : ⊥ = cc (eq-eqb a s same, e) in z) in
        omega (arith, later more, more)

-- past it
pub place_outside : (s n a : ℕ) (ys : List ℕ) → IsOutsideRun s n a → place_in (range_with_len s n ++ ys) a ≡ n + place_in ys a
place_outside s zero a ys h = omega arith
place_outside s (suc n) a ys h = go (eqb a s) refl (place_outside (s + 1) n a ys (outside_next s n a h))
  where
    go : (b : Bool) → eqb a s ≡ b → place_in (range_with_len (s + 1) n ++ ys) a ≡ n + place_in ys a → cond b 0 (suc (place_in (range_with_len (s + 1) n ++ ys) a)) ≡ suc n + place_in ys a
    go true e later = absurd (outside_first s n a h (eqb-true a s e))
    go false e later = omega (arith, later)

module _ (p : ℕ → Bool) where
  -- among those of a run that pass a test
  pub passed_inside : (s n i a : ℕ) (ys : List ℕ) → a ≡ s + i → i < n → p a ≡ true
      → place_in (filter p (range_with_len s n) ++ ys) a ≡ length (filter p (range_with_len s i))
  passed_inside s zero i a ys e h t = absurd (omega (arith, h))
  passed_inside s (suc n) zero a ys e h t = go (p s) refl
    where
      go : (b : Bool) → p s ≡ b → place_in (cond b (s ∷ filter p (range_with_len (s + 1) n)) (filter p (range_with_len (s + 1) n)) ++ ys) a ≡ 0
      go true q = ap (λ b. cond b 0 (suc (place_in (filter p (range_with_len (s + 1) n) ++ ys) a))) (eq-eqb a s (omega (arith, e)))
      go false q = let same : a ≡ s = omega (arith, e) in absurd (let z : ⊥ = cc (subst (λ (m : ℕ). p m ≡ true) same t, q) in z)
  passed_inside s (suc n) (suc i) a ys e h t = go (p s) (eqb a s) refl (passed_inside (s + 1) n i a ys (omega (arith, e)) (omega (arith, h)) t)
    where
      go : (b d : Bool) → eqb a s ≡ d
          → place_in (filter p (range_with_len (s + 1) n) ++ ys) a ≡ length (filter p (range_with_len (s + 1) i))
          → place_in (cond b (s ∷ filter p (range_with_len (s + 1) n)) (filter p (range_with_len (s + 1) n)) ++ ys) a
          ≡ length (cond b (s ∷ filter p (range_with_len (s + 1) i)) (filter p (range_with_len (s + 1) i)))
      go true true q later = absurd (let same = eqb-true a s q in omega (arith, same, e))
      go true false q later = ap (λ b. cond b 0 (suc (place_in (filter p (range_with_len (s + 1) n) ++ ys) a))) q ∙ ap suc later
      go false d q later = later

  pub passed_outside : (s n a : ℕ) (ys : List ℕ) → IsOutsideRun s n a
      → place_in (filter p (range_with_len s n) ++ ys) a ≡ length (filter p (range_with_len s n)) + place_in ys a
  passed_outside s zero a ys h = omega arith
  passed_outside s (suc n) a ys h = go (p s) (eqb a s) refl (passed_outside (s + 1) n a ys (outside_next s n a h))
    where
      go : (b d : Bool) → eqb a s ≡ d
          → place_in (filter p (range_with_len (s + 1) n) ++ ys) a ≡ length (filter p (range_with_len (s + 1) n)) + place_in ys a
          → place_in (cond b (s ∷ filter p (range_with_len (s + 1) n)) (filter p (range_with_len (s + 1) n)) ++ ys) a
          ≡ length (cond b (s ∷ filter p (range_with_len (s + 1) n)) (filter p (range_with_len (s + 1) n))) + place_in ys a
      go true true q later = absurd (outside_first s n a h (eqb-true a s q))
      go true false q later = ap (λ b. cond b 0 (suc (place_in (filter p (range_with_len (s + 1) n) ++ ys) a))) q ∙ (omega (arith, later))
      go false d q later = later

  -- those of a run by the counts below its first and below its end
  pub passed-count : (s i : ℕ) → length (filter p (range_with_len 0 s)) + length (filter p (range_with_len s i)) ≡ length (filter p (range_with_len 0 (s + i)))
  passed-count s i =
      sym (ap (λ xs. length (filter p xs)) (range-append 0 s i ∙ ap (λ m. range_with_len 0 s ++ range_with_len m i) (let e : 0 + s ≡ s = omega arith in e))
      ∙ ap length (filter-append p (range_with_len 0 s) (range_with_len s i))
      ∙ length-append (filter p (range_with_len 0 s)) (filter p (range_with_len s i)))

-- an entry of two runs that is not in the first is in the second
pub in_second : (s n o m a : ℕ) → Contains (range_with_len s n ++ range_with_len o m) a → IsOutsideRun s n a → (o ≤ a) × (a < o + m)
in_second s n o m a h out = ⊎_elim (λ first. absurd (go (in_range_from s n a first) out)) (λ second. in_range_from o m a second) (Contains-append_cases (range_with_len s n) (range_with_len o m) a h)
  where
    go : (s ≤ a) × (a < s + n) → IsOutsideRun s n a → ⊥
    go b (inl h) = let x = b.0 in omega (arith, x, h)
    go b (inr h) = let x = b.1 in omega (arith, x, h)

-- the place in the second of two runs
pub place_second : (s n o m a : ℕ) → IsOutsideRun s n a → o ≤ a → a < o + m → place_in (range_with_len s n ++ range_with_len o m) a ≡ n + (a - o)
place_second s n o m a out h k =
    place_outside s n a (range_with_len o m) out
    ∙ ap (λ x. n + x) (ap (λ xs. place_in xs a) (sym (append-nil (range_with_len o m))) ∙ place_inside o m a [] h k)

-- a list has no more that pass than entries
pub fewer : (p : ℕ → Bool) (xs : List ℕ) → length (filter p xs) ≤ length xs
fewer p [] = omega arith
fewer p (x ∷ xs) = go (p x) (fewer p xs)
  where
    go : (b : Bool) → length (filter p xs) ≤ length xs → length (cond b (x ∷ filter p xs) (filter p xs)) ≤ suc (length xs)
    go true h = omega (arith, h)
    go false h = omega (arith, h)
