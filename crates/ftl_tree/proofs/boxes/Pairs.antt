-- The digits of short numbers, two at a time.
use Rattle.std.proofs.Common.{◌≡◌, ℕ, zero, suc, ◌+◌, ◌-◌, ◌*◌, ◌/◌, ◌%◌, ◌^◌, ◌<◌, ◌≤◌, Bool, true, ◌&&◌, T, eqb, List, [], ◌∷◌, ◌++◌, get_or, ap, ap₂, ◌∙◌, inl, inr, arith, eq-zero-or-pos, eqb→eq, append_assoc, sym}
use Rattle.std.specs.Fmt.{decimal}
use Rattle.std.proofs.lemmas.Fmt.{decimal_digit}
use lib.Ieee.Fits.{and_l, and_r}
use Rattle.itoa.proofs.Decimal.{decimal_pair, decimal_two, pair}
use Rattle.ftl_tree.specs.declared.boxes.digits.TheConstants.{PAIRS}

-- the first so many pairs are there
abbrev are_pairs : ℕ → Bool
are_pairs zero = true
are_pairs (suc p) =
    (eqb (get_or PAIRS (p * 2) 0) (48 + p / 10) && eqb (get_or PAIRS (p * 2 + 1) 0) (48 + p % 10)) && are_pairs p

below : (n p : ℕ) → T (are_pairs n) → p < n
    → (get_or PAIRS (p * 2) 0 ≡ 48 + p / 10) × (get_or PAIRS (p * 2 + 1) 0 ≡ 48 + p % 10)
below zero p t h = absurd (omega arith)
below (suc n) p t h =
    elim (eq-zero-or-pos (n - p)) [
      | inl z ↦
          let e : p ≡ n = omega arith in
          let a = and_l _ (are_pairs n) t in
          rw e (eqb→eq _ _ (and_l _ _ a), eqb→eq _ _ (and_r _ _ a))
      | inr g ↦ below n p (and_r _ (are_pairs n) t) (omega arith)
    ]

pub pair_at : (p : ℕ) → p < 100
    → (get_or PAIRS (p * 2) 0 ≡ 48 + p / 10) × (get_or PAIRS (p * 2 + 1) 0 ≡ 48 + p % 10)
pair_at p h = below 100 p tt h

pub one_digit : (n : ℕ) → n < 10 → decimal n ≡ (48 + n) ∷ []
one_digit n high = decimal_digit n high

pub two_digits : (n : ℕ) → 10 ≤ n → n < 100 → decimal n ≡ (48 + n / 10) ∷ (48 + n % 10) ∷ []
two_digits n low high = decimal_two n low high

-- two bytes, one behind the other
pub two_behind : (text one now : List ℕ) (a b x y : ℕ) → a ≡ x → b ≡ y → one ≡ text ++ a ∷ [] → now ≡ one ++ b ∷ []
    → now ≡ text ++ x ∷ y ∷ []
two_behind text one now a b x y first second was is =
    is ∙ ap (λ xs. xs ++ b ∷ []) was ∙ append_assoc text (a ∷ []) (b ∷ [])
    ∙ ap₂ (λ m n. text ++ m ∷ n ∷ []) first second

-- a text, a number behind it and the last two digits behind that
pub pair_behind : (text more now : List ℕ) (n : ℕ) → 100 ≤ n → n < 2 ^ 64 → more ≡ text ++ decimal (n / 100)
    → now ≡ more ++ pair (n % 100) → now ≡ text ++ decimal n
pair_behind text more now n low high was is =
    is ∙ ap (λ xs. xs ++ pair (n % 100)) was ∙ append_assoc text (decimal (n / 100)) (pair (n % 100))
    ∙ ap (λ xs. text ++ xs) (sym (decimal_pair n low high))

-- and the last four
pub four_behind : (text high middle now : List ℕ) (n : ℕ) → 10000 ≤ n → n < 2 ^ 64
    → high ≡ text ++ decimal (n / 10000) → middle ≡ high ++ pair (n % 10000 / 100)
    → now ≡ middle ++ pair (n % 10000 % 100) → now ≡ text ++ decimal n
four_behind text high middle now n low fits front was is =
    let a : n / 10000 ≡ n / 100 / 100 = omega arith in
    let b : n % 10000 / 100 ≡ n / 100 % 100 = omega arith in
    let c : n % 10000 % 100 ≡ n % 100 = omega arith in
    pair_behind text middle now n (omega (arith, low)) fits
    (pair_behind text high middle (n / 100) (omega (arith, low)) (omega (arith, fits))
    (front ∙ ap (λ m. text ++ decimal m) a) (was ∙ ap (λ m. high ++ pair m) b))
    (is ∙ ap (λ m. middle ++ pair m) c)
