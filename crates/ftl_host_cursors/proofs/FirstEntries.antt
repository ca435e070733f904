-- The first entry of a list, and what comes after it.
use Rattle.std.proofs.Common.{◌≡◌, suc, ◌-◌, ◌<◌, List, [], ◌∷◌, drop, get_or, length, map, take, Contains, refl, sym, ◌∙◌, ap, subst, arith}
use Rattle.std.proofs.Math.Seq.{take-length}
use Rattle.ftl_model.proofs.lists.Elements.{later_in, nothing_in}

-- what comes after the first entry
abbrev pub after_first : {X : Type 0} → List X → List X
after_first xs = take (length xs - 1) (drop 1 xs)

pub rest_is : {X : Type 0} (x : X) (xs : List X) → after_first (x ∷ xs) ≡ xs
rest_is x xs = ap (λ n. take n xs) (let z : suc (length xs) - 1 ≡ length xs = omega arith in z) ∙ take-length xs

-- with the first it is the list
pub first_and_rest : {X : Type 0} (xs : List X) (d : X) → 0 < length xs → xs ≡ get_or xs 0 d ∷ after_first xs
first_and_rest [] d some = absurd (let z : ⊥ = omega arith in z)
first_and_rest (x ∷ xs) d some = ap (λ rest. x ∷ rest) (sym (rest_is x xs))

-- the list has its entries
pub in_rest : {X : Type 0} (xs : List X) (x : X) → Contains (after_first xs) x → Contains xs x
in_rest [] x there = absurd (nothing_in x there)
in_rest (first ∷ xs) x there = later_in first x xs (subst (λ rest. Contains rest x) (rest_is first xs) there)

-- of a list that is the other's entry by entry, so is the rest
pub rest-map : {X Y : Type 0} (f : X → Y) (xs : List X) → after_first (map f xs) ≡ map f (after_first xs)
rest-map f [] = refl
rest-map f (x ∷ xs) = rest_is (f x) (map f xs) ∙ ap (map f) (sym (rest_is x xs))

-- and so is the first
pub first-map : {X Y : Type 0} (f : X → Y) (xs : List X) (d : X) (e : Y) → 0 < length xs
    → get_or (map f xs) 0 e ≡ f (get_or xs 0 d)
first-map f [] d e some = absurd (let z : ⊥ = omega arith in z)
first-map f (x ∷ xs) d e some = refl
