-- Rows of stages, stage by stage.
use Rattle.std.proofs.Common.{◌≡◌, ℕ, zero, suc, ◌<◌, List, [], ◌∷◌, ◌++◌, get_or, length, ap, refl, arith}
use Rattle.std.specs.List.{AllZip}

-- two lists that go along with one more entry each
pub zip_push : {X Y : Type 0} (R : X → Y → Type 0) (xs : List X) (ys : List Y) (x : X) (y : Y) → AllZip R xs ys → R x y
    → AllZip R (xs ++ x ∷ []) (ys ++ y ∷ [])
zip_push R [] [] x y all r = (r, tt)
zip_push R [] (z ∷ ys) x y all r = absurd all
zip_push R (w ∷ xs) [] x y all r = absurd all
zip_push R (w ∷ xs) (z ∷ ys) x y all r = (all.0, zip_push R xs ys x y all.1 r)

-- the entries of a number
pub zip_at : {X Y : Type 0} (R : X → Y → Type 0) (xs : List X) (ys : List Y) (n : ℕ) (x : X) (y : Y) → AllZip R xs ys
    → n < length xs → R (get_or xs n x) (get_or ys n y)
zip_at R [] ys n x y all below = absurd (omega (arith, below))
zip_at R (w ∷ xs) [] n x y all below = absurd all
zip_at R (w ∷ xs) (z ∷ ys) zero x y all below = all.0
zip_at R (w ∷ xs) (z ∷ ys) (suc n) x y all below = zip_at R xs ys n x y all.1 (omega (arith, below))

-- lists that go along are of one length
pub zip_long : {X Y : Type 0} (R : X → Y → Type 0) (xs : List X) (ys : List Y) → AllZip R xs ys → length ys ≡ length xs
zip_long R [] [] all = refl
zip_long R [] (z ∷ ys) all = absurd all
zip_long R (w ∷ xs) [] all = absurd all
zip_long R (w ∷ xs) (z ∷ ys) all = ap suc (zip_long R xs ys all.1)
