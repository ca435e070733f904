-- Lists that are the same place by place.
use Rattle.std.proofs.Common.{◌≡◌, ℕ, zero, suc, ◌+◌, List, [], ◌∷◌, length, take, Some, refl, sym, ap, ◌∙◌, arith}
use Rattle.std.specs.List.{slice_get}
use Rattle.std.proofs.lemmas.List.{take_all, length-map}
use Rattle.ftl_tokens.specs.scanner.Tokenized.{Symbol, Tokenized, symbol_of, symbols_of}

some_same : (x y : Symbol) → Some x ≡ Some y → x ≡ y
some_same x y same = cc same

same_head : (x y : Symbol) (xs ys : List Symbol) → (x ∷ xs) ≡ (y ∷ ys) → x ≡ y
same_head x y xs ys same = cc same

same_tail : (x y : Symbol) (xs ys : List Symbol) → (x ∷ xs) ≡ (y ∷ ys) → xs ≡ ys
same_tail x y xs ys same = cc same

-- fronts that are the same, and what stands behind them too
take_next : (xs ys : List Symbol) (k : ℕ) → take k xs ≡ take k ys → slice_get xs k ≡ slice_get ys k
    → take (suc k) xs ≡ take (suc k) ys
take_next [] [] k same at = refl
take_next [] (y ∷ ys) zero same at = absurd (cc at)
take_next [] (y ∷ ys) (suc k) same at = absurd (cc same)
take_next (x ∷ xs) [] zero same at = absurd (cc at)
take_next (x ∷ xs) [] (suc k) same at = absurd (cc same)
take_next (x ∷ xs) (y ∷ ys) zero same at = ap (λ z. z ∷ []) (some_same x y at)
take_next (x ∷ xs) (y ∷ ys) (suc k) same at =
    ap (λ z. z ∷ take (suc k) xs) (same_head x y (take k xs) (take k ys) same)
    ∙ ap (λ zs. y ∷ zs) (take_next xs ys k (same_tail x y (take k xs) (take k ys) same) at)

-- the fronts of one symbol more
pub alike_more : (xs ys : List Symbol) (k : ℕ) → take k xs ≡ take k ys → slice_get xs k ≡ slice_get ys k
    → take (k + 1) xs ≡ take (k + 1) ys
alike_more xs ys k same at =
    let next : k + 1 ≡ suc k = omega arith in
    ap (λ n. take n xs) next ∙ take_next xs ys k same at ∙ ap (λ n. take n ys) (sym next)

-- fronts that are as long as both lists
pub alike_whole : (one two : Tokenized) → length one.tokens ≡ length two.tokens
    → take (length one.tokens) (symbols_of one) ≡ take (length one.tokens) (symbols_of two)
    → symbols_of one ≡ symbols_of two
alike_whole one two long same =
    let n = length one.tokens in
    sym (take_all n (symbols_of one) (omega (arith, length-map one.tokens (symbol_of one.text))))
    ∙ same
    ∙ take_all n (symbols_of two) (omega (arith, long, length-map two.tokens (symbol_of two.text)))
