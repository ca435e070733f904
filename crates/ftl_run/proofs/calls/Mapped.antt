-- Lists that are made entry by entry, by a function of the entries of another list or back to it.
use Rattle.std.proofs.Common.{◌≡◌, ℕ, ◌+◌, ◌<◌, List, [], ◌∷◌, ◌++◌, length, map, drop, get_or, take, arith, sym, ◌∙◌, ap, ap₂, add-one}
use Rattle.std.proofs.Math.Seq.{drop-cons}
use Rattle.std.proofs.lemmas.List.{append_assoc, map-append, take-append-le, take_all}

-- one entry more
pub map_step : {X Y : Type 0} (f : X → Y) (xs : List X) (i : ℕ) (d : X) (y : Y) → y ≡ f (get_or xs i d) → i < length xs
    → y ∷ map f (drop (i + 1) xs) ≡ map f (drop i xs)
map_step f xs i d y is within =
    ap₂ (λ z n. z ∷ map f (drop n xs)) is (add-one i) ∙ ap (map f) (sym (drop-cons xs i d within))

pub one_more : {X Y : Type 0} (f : X → Y) (xs : List X) (i : ℕ) (d : X) (ys : List Y) (y : Y) → y ≡ f (get_or xs i d)
    → i < length xs → ys ++ map f (drop i xs) ≡ map f xs → (ys ++ y ∷ []) ++ map f (drop (i + 1) xs) ≡ map f xs
one_more f xs i d ys y is within so_far =
    append_assoc ys (y ∷ []) (map f (drop (i + 1) xs))
    ∙ (ap (λ zs. ys ++ zs) (map_step f xs i d y is within) ∙ so_far)

-- one more from which the function leads back
pub one_back : {X Y : Type 0} (f : Y → X) (xs : List X) (i : ℕ) (d : X) (ys : List Y) (y : Y) → f y ≡ get_or xs i d
    → i < length xs → map f ys ++ drop i xs ≡ xs → map f (ys ++ y ∷ []) ++ drop (i + 1) xs ≡ xs
one_back f xs i d ys y is within so_far =
    ap (λ zs. zs ++ drop (i + 1) xs) (map-append f ys (y ∷ []))
    ∙ (append_assoc (map f ys) (f y ∷ []) (drop (i + 1) xs)
    ∙ (ap₂ (λ z n. map f ys ++ (z ∷ drop n xs)) is (add-one i)
    ∙ (ap (λ zs. map f ys ++ zs) (sym (drop-cons xs i d within)) ∙ so_far)))

-- what was written over a whole list stands there
pub written_over : {X : Type 0} (n : ℕ) (new old : List X) → n ≡ length new → length new ≡ length old
    → take n (new ++ drop (length new) old) ≡ new
written_over n new old is whole =
    take-append-le n new (drop (length new) old) (omega (arith, is)) ∙ take_all n new (omega (arith, is))
