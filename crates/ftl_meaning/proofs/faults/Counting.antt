-- How many entries lists have together, counted from the front.
use Rattle.std.proofs.Common.{◌≡◌, ℕ, ◌+◌, ◌<◌, Bool, true, false, List, [], ◌∷◌, length, filter, flat_map, drop, get_or, refl, sym, ◌∙◌, ap, arith, add-one, cond}
use Rattle.std.proofs.Math.Seq.{drop-cons}
use Rattle.std.proofs.Math.ListN.{length-append}

-- what is left, by its first entry
pub left_is : {X : Type 0} (xs : List X) (i : ℕ) (d : X) → i < length xs → drop i xs ≡ get_or xs i d ∷ drop (i + 1) xs
left_is xs i d within = rw (add-one, drop-cons xs i d within)

-- the entries of the lists that are left, one list less
pub count_passes : {X Y : Type 0} (f : X → List Y) (xs : List X) (i : ℕ) (d : X) → i < length xs
    → length (flat_map f (drop i xs)) ≡ length (f (get_or xs i d)) + length (flat_map f (drop (i + 1) xs))
count_passes f xs i d within =
    ap (λ ys. length (flat_map f ys)) (left_is xs i d within)
    ∙ length-append (f (get_or xs i d)) (flat_map f (drop (i + 1) xs))

-- no lists are left
pub count_ends : {X Y : Type 0} (f : X → List Y) (xs : List X) → length (flat_map f (drop (length xs) xs)) ≡ 0
count_ends f [] = refl
count_ends f (x ∷ xs) = count_ends f xs

-- the entries that pass, one entry less
pub passing_one : {X : Type 0} (p : X → Bool) (xs : List X) (i : ℕ) (d : X) → i < length xs
    → length (filter p (drop i xs)) ≡ cond (p (get_or xs i d)) 1 0 + length (filter p (drop (i + 1) xs))
passing_one p xs i d within =
    ap (λ ys. length (filter p ys)) (left_is xs i d within) ∙ by_test (p (get_or xs i d)) refl
  where
    by_test : (b : Bool) → p (get_or xs i d) ≡ b
        → length (filter p (get_or xs i d ∷ drop (i + 1) xs)) ≡ cond b 1 0 + length (filter p (drop (i + 1) xs))
    by_test true e = rw e (omega arith)
    by_test false e = rw e (omega arith)

-- none are left
pub passing_ends : {X : Type 0} (p : X → Bool) (xs : List X) → length (filter p (drop (length xs) xs)) ≡ 0
passing_ends p [] = refl
passing_ends p (x ∷ xs) = passing_ends p xs

-- what is left, by its first entry as code reads it
pub left_by : {X : Type 0} (xs : List X) (i : ℕ) (x : X) → i < length xs → x ≡ get_or xs i x
    → drop i xs ≡ x ∷ drop (i + 1) xs
left_by xs i x within is = left_is xs i x within ∙ ap (λ y. y ∷ drop (i + 1) xs) (sym is)

-- the steps of a count
pub ruleset count_steps = (count_passes, count_ends)

-- the steps of a count of what passes
pub ruleset passing_steps = (passing_one, passing_ends)
