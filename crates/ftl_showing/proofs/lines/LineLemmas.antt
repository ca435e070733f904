-- One more line.
use Rattle.std.proofs.Common.{◌≡◌, ℕ, zero, suc, ◌+◌, ◌<◌, List, [], ◌∷◌, ◌++◌, length, get_or, map, flat_map, max, take}
use Rattle.std.proofs.Common.{sym, ap, ◌∙◌, arith, append_assoc}
use Rattle.std.specs.List.{range_with_len}
use Rattle.std.specs.Prelude.{codes}
use Rattle.std.proofs.lemmas.List.{flat_map_more, get_or-map, map-append, take_more}
use Rattle.std.proofs.lemmas.List.FromFn.{get_or-range_with_len, length-range_with_len}
use Rattle.ftl_showing.specs.lines.Details.{greatest, spaces}
use Rattle.ftl_showing.specs.lines.Lines.{indentation}

range_snoc : (first count : ℕ)
    → range_with_len first (suc count) ≡ range_with_len first count ++ (first + count) ∷ []
range_snoc first zero = let one : first ≡ first + 0 = omega arith in ap (λ n. n ∷ []) one
range_snoc first (suc count) =
    let last : first + 1 + count ≡ first + suc count = omega arith in
    ap (λ xs. first ∷ xs) (range_snoc (first + 1) count)
    ∙ ap (λ n. first ∷ range_with_len (first + 1) count ++ n ∷ []) last

-- the number behind those below n is n
pub numbers_more : (n : ℕ) → range_with_len 0 (n + 1) ≡ range_with_len 0 n ++ n ∷ []
numbers_more n =
    let next : n + 1 ≡ suc n = omega arith in
    let here : 0 + n ≡ n = omega arith in
    ap (range_with_len 0) next ∙ range_snoc 0 n ∙ ap (λ m. range_with_len 0 n ++ m ∷ []) here

-- the line of one number more
pub lines_more : (line : ℕ → List ℕ) (n : ℕ) (out before : List ℕ)
    → out ≡ before ++ flat_map line (range_with_len 0 n)
    → out ++ line n ≡ before ++ flat_map line (range_with_len 0 (n + 1))
lines_more line n out before is =
    ap (λ o. o ++ line n) is
    ∙ flat_map_more line before (range_with_len 0 n) n
    ∙ ap (λ ns. before ++ flat_map line ns) (sym (numbers_more n))

-- what stands at a number in a list by numbers
pub at_number : (f : ℕ → ℕ) (xs : List ℕ) (n count d : ℕ) → xs ≡ map f (range_with_len 0 count) → n < count
    → get_or xs n d ≡ f n
at_number f xs n count d is within =
    let long : n < length (range_with_len 0 count) = omega (arith, length-range_with_len 0 count, within) in
    let here : 0 + n ≡ n = omega arith in
    ap (λ ys. get_or ys n d) is
    ∙ get_or-map f (range_with_len 0 count) n 0 d long
    ∙ ap f (get_or-range_with_len 0 count n 0 within ∙ here)

-- one step further to the right
pub indentation_more : (n : ℕ) (out before : List ℕ) → out ≡ before ++ indentation n
    → out ++ codes "  " ≡ before ++ indentation (n + 1)
indentation_more n out before is =
    let next : suc n ≡ n + 1 = omega arith in
    ap (λ o. o ++ codes "  ") is
    ∙ append_assoc before (indentation n) (codes "  ")
    ∙ ap (λ m. before ++ indentation m) next

-- one space more
pub spaces_more : (n : ℕ) (out before : List ℕ) → out ≡ before ++ spaces n
    → out ++ codes " " ≡ before ++ spaces (n + 1)
spaces_more n out before is =
    let next : suc n ≡ n + 1 = omega arith in
    ap (λ o. o ++ codes " ") is
    ∙ append_assoc before (spaces n) (codes " ")
    ∙ ap (λ m. before ++ spaces m) next

greatest_last : (ns : List ℕ) (n : ℕ) → greatest (ns ++ n ∷ []) ≡ max (greatest ns) n
greatest_last [] n = let z : max n 0 ≡ max 0 n = omega arith in z
greatest_last (m ∷ ns) n =
    let rest = greatest_last ns n in
    let z : max m (max (greatest ns) n) ≡ max (max m (greatest ns)) n = omega arith in
    ap (max m) rest ∙ z

-- the greatest of one number more
pub greatest_more : (f : ℕ → ℕ) (xs : List ℕ) (i d : ℕ) → i < length xs
    → greatest (map f (take (i + 1) xs)) ≡ max (greatest (map f (take i xs))) (f (get_or xs i d))
greatest_more f xs i d within =
    ap (λ ys. greatest (map f ys)) (take_more xs i d within)
    ∙ ap greatest (map-append f (take i xs) (get_or xs i d ∷ []))
    ∙ greatest_last (map f (take i xs)) (f (get_or xs i d))
