-- Folds over kids.
use Rattle.std.proofs.Common.{◌≡◌, ℕ, zero, suc, ◌<◌, refl, ◌∙◌, ap, arith}
use Rattle.ftl_model.specs.layout.Folds.{fold_kids}

-- two folds whose steps agree at each kid
pub fold_kids_same : {V : Type 0} (n : ℕ) (f h : V → ℕ → V) (start : V)
    → ((k : ℕ) → k < n → (acc : V) → f acc k ≡ h acc k)
    → fold_kids n f start ≡ fold_kids n h start
fold_kids_same zero f h start same = refl
fold_kids_same (suc n) f h start same =
    same n (omega arith) (fold_kids n f start)
    ∙ ap (λ acc. h acc n) (fold_kids_same n f h start (λ k below acc. same k (omega arith) acc))
