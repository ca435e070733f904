-- What holds of each element of a list.
use Rattle.std.proofs.Common.{ℕ, zero, suc, ◌<◌, List, [], ◌∷◌, ◌++◌, length, get_or, arith}
use Rattle.std.specs.List.{AllByRecursion}

pub each-append : {X : Type 0} (P : X → Type 0) (xs ys : List X) → AllByRecursion P xs → AllByRecursion P ys → AllByRecursion P (xs ++ ys)
each-append P [] ys h k = k
each-append P (x ∷ xs) ys h k = (h.0, each-append P xs ys h.1 k)

pub each_at : {X : Type 0} (P : X → Type 0) (xs : List X) (n : ℕ) (d : X) → AllByRecursion P xs → n < length xs → P (get_or xs n d)
each_at P [] n d h k = absurd (omega (arith, k))
each_at P (x ∷ xs) zero d h k = h.0
each_at P (x ∷ xs) (suc n) d h k = each_at P xs n d h.1 (omega (arith, k))

pub each_of : {X : Type 0} (P : X → Type 0) (xs : List X) → ((x : X) → P x) → AllByRecursion P xs
each_of P [] h = tt
each_of P (x ∷ xs) h = (h x, each_of P xs h)
