-- How a count follows its property.
use Rattle.std.proofs.Common.{◌≡◌, ◌≢◌, ℕ, zero, suc, ◌<◌, subst, refl, ap, sym, arith}
use mathlib.Core.Logic.{dite}
use native.Mathlib.Decide.{ℕ_discrete}
use Rattle.ftl_cells.specs.shared.Count.{Counts, at_zero, counts_it, skips_it}

-- equivalent properties have one count
pub same_count : (P Q : ℕ → Type 0) {k n : ℕ} → ((x : ℕ) → x < k → P x → Q x) → ((x : ℕ) → x < k → Q x → P x)
    → Counts P k n → Counts Q k n
same_count P Q f g at_zero = at_zero
same_count P Q f g (counts_it {k = k} p c) = counts_it (f k (omega arith) p)
    (same_count P Q (λ x h. f x (omega arith)) (λ x h. g x (omega arith)) c)
same_count P Q f g (skips_it {k = k} p c) = skips_it (λ q. p (g k (omega arith) q))
    (same_count P Q (λ x h. f x (omega arith)) (λ x h. g x (omega arith)) c)

-- where one number loses the property and all others keep what they had, the count falls by one
pub falls : (P Q : ℕ → Type 0) (i : ℕ) {k n : ℕ} → i < k → P i → (Q i → ⊥) → ((x : ℕ) → x < k → x ≢ i → P x → Q x)
    → ((x : ℕ) → x < k → x ≢ i → Q x → P x) → Counts P k n
    → (l : ℕ) × (n ≡ suc l) × Counts Q k l
falls P Q i below here gone f g at_zero = absurd (omega arith)
falls P Q i below here gone f g (counts_it {k = k} {n = n} p c) = dite (ℕ_discrete k i)
    (λ e. (
      n,
      refl,
      skips_it (λ q. gone (subst Q e q))
          (same_count P Q (λ x h. f x (omega arith) (omega arith)) (λ x h. g x (omega arith) (omega arith)) c),
    ))
    (λ ne. let r = falls P Q i (omega arith) here gone (λ x h. f x (omega arith)) (λ x h. g x (omega arith)) c in
    (suc r.0, ap suc r.1, counts_it (f k (omega arith) ne p) r.2))
falls P Q i below here gone f g (skips_it {k = k} {n = n} p c) = dite (ℕ_discrete k i)
    (λ e. absurd (p (subst P (sym e) here)))
    (λ ne. let r = falls P Q i (omega arith) here gone (λ x h. f x (omega arith)) (λ x h. g x (omega arith)) c in
    (r.0, r.1, skips_it (λ q. p (g k (omega arith) ne q)) r.2))

-- where one number has the property, the count is not 0
pub some_left : (P : ℕ → Type 0) (i : ℕ) {k n : ℕ} → i < k → P i → Counts P k n → (l : ℕ) × (n ≡ suc l)
some_left P i below here at_zero = absurd (omega arith)
some_left P i below here (counts_it {n = n} p c) = (n, refl)
some_left P i below here (skips_it {k = k} p c) = dite (ℕ_discrete k i)
    (λ e. absurd (p (subst P (sym e) here)))
    (λ ne. some_left P i (omega arith) here c)

-- at 0 no number has the property
pub none_left : (P : ℕ → Type 0) {k n : ℕ} → Counts P k n → n ≡ 0 → (x : ℕ) → x < k → P x → ⊥
none_left P c z x below p = let r = some_left P x below p c in omega arith

-- where each number has it, the count is the bound
pub all_of : (P : ℕ → Type 0) (k : ℕ) → ((x : ℕ) → x < k → P x) → Counts P k k
all_of P zero f = at_zero
all_of P (suc k) f = counts_it (f k (omega arith)) (all_of P k (λ x h. f x (omega arith)))

-- there is one count
pub one_count : (P : ℕ → Type 0) {k n l : ℕ} → Counts P k n → Counts P k l → n ≡ l
one_count P at_zero at_zero = refl
one_count P (counts_it p c) (counts_it q d) = ap suc (one_count P c d)
one_count P (counts_it p c) (skips_it q d) = absurd (q p)
one_count P (skips_it p c) (counts_it q d) = absurd (p q)
one_count P (skips_it p c) (skips_it q d) = one_count P c d

-- where no number has it, the count is 0
pub none_of : (P : ℕ → Type 0) (k : ℕ) → ((x : ℕ) → x < k → P x → ⊥) → Counts P k 0
none_of P zero f = at_zero
none_of P (suc k) f = skips_it (f k (omega arith)) (none_of P k (λ x h. f x (omega arith)))
