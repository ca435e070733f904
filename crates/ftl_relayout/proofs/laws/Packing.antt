-- Six digits in one number.
use Rattle.std.proofs.Common.{◌≡◌, ◌⊎◌, ℕ, ◌+◌, ◌*◌, ◌<◌, inl, inr, ⊎_elim, arith, [], ◌∷◌}
use Rattle.ftl_model.specs.lists.Lists.{Before}

-- one more digit: less where the number before is, or where that is equal and the digit is less
more : (m n x y : ℕ) (Rest : Type 0) → x < 2097152 → (m < n) ⊎ ((m ≡ n) × ((x < y) ⊎ ((x ≡ y) × Rest)))
    → (m * 2097152 + x < n * 2097152 + y) ⊎ ((m * 2097152 + x ≡ n * 2097152 + y) × Rest)
more m n x y Rest below h =
    ⊎_elim (λ less. inl (omega (arith, below, less)))
    (λ same.
    let e = same.0 in
    ⊎_elim (λ less. inl (omega (arith, e, less)))
    (λ both. let d = both.0 in inr ((let z : m * 2097152 + x ≡ n * 2097152 + y = omega (arith, e, d) in z), both.1)) same.1)
    h

pub pack : (a b c d e f : ℕ) → ℕ
pack a b c d e f =
    ((((a * 2097152 + b) * 2097152 + c) * 2097152 + d) * 2097152 + e) * 2097152 + f

pub pack_less : (a b c d e f a' b' c' d' e' f' : ℕ) → b < 2097152 → c < 2097152 → d < 2097152 → e < 2097152
    → f < 2097152
    → Before (a ∷ (b ∷ (c ∷ (d ∷ (e ∷ (f ∷ [])))))) (a' ∷ (b' ∷ (c' ∷ (d' ∷ (e' ∷ (f' ∷ []))))))
    → ((((a * 2097152 + b) * 2097152 + c) * 2097152 + d) * 2097152 + e) * 2097152 + f
    < ((((a' * 2097152 + b') * 2097152 + c') * 2097152 + d') * 2097152 + e') * 2097152 + f'
pack_less a b c d e f a' b' c' d' e' f' lb lc ld le lf h =
    let one = more a a' b b' (Before (c ∷ (d ∷ (e ∷ (f ∷ [])))) (c' ∷ (d' ∷ (e' ∷ (f' ∷ []))))) lb h in
    let two = more (a * 2097152 + b) (a' * 2097152 + b') c c' (Before (d ∷ (e ∷ (f ∷ []))) (d' ∷ (e' ∷ (f' ∷ [])))) lc one in
    let three =
    more ((a * 2097152 + b) * 2097152 + c) ((a' * 2097152 + b') * 2097152 + c') d d'
    (Before (e ∷ (f ∷ [])) (e' ∷ (f' ∷ []))) ld two in
    let four =
    more (((a * 2097152 + b) * 2097152 + c) * 2097152 + d) (((a' * 2097152 + b') * 2097152 + c') * 2097152 + d') e e'
    (Before (f ∷ []) (f' ∷ [])) le three in
    let five =
    more ((((a * 2097152 + b) * 2097152 + c) * 2097152 + d) * 2097152 + e)
    ((((a' * 2097152 + b') * 2097152 + c') * 2097152 + d') * 2097152 + e') f f' ⊥ lf four in
    ⊎_elim (λ less. less) (λ none. absurd none.1) five

split : (m n x y : ℕ) → x < 2097152 → y < 2097152 → m * 2097152 + x ≡ n * 2097152 + y → (m ≡ n) × (x ≡ y)
split m n x y hx hy e = (
  (let z : m ≡ n = omega (arith, hx, hy, e) in z),
  (let z : x ≡ y = omega (arith, hx, hy, e) in z),
)

-- equal numbers have equal last digits
pub pack_last : (p e f p' e' f' : ℕ) → e < 2097152 → f < 2097152 → e' < 2097152 → f' < 2097152
    → (p * 2097152 + e) * 2097152 + f ≡ (p' * 2097152 + e') * 2097152 + f' → (e ≡ e') × (f ≡ f')
pack_last p e f p' e' f' le lf le' lf' is =
    let last = split (p * 2097152 + e) (p' * 2097152 + e') f f' lf lf' is in
    let next = split p p' e e' le le' last.0 in
    (next.1, last.1)

pub pack_small : (a b c d e f : ℕ) → a < 2097152 → b < 2097152 → c < 2097152 → d < 2097152 → e < 2097152 → f < 2097152
    → ((((a * 2097152 + b) * 2097152 + c) * 2097152 + d) * 2097152 + e) * 2097152 + f
    < 170141183460469231731687303715884105728
pack_small a b c d e f la lb lc ld le lf = omega (arith, la, lb, lc, ld, le, lf)
