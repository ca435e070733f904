-- Keys that come to wait.
use Rattle.std.proofs.Common.{◌≡◌, ℕ, List, sym, subst, inl, inr, ⊎_elim}
use Rattle.ftl_relayout.specs.queue.Waiting.{IsInserted}
use Rattle.ftl_relayout.specs.readers.Sites.{Adds}

pub adds_none : (ks : List ℕ) (P : ℕ → Type 0) → Adds ks ks P
adds_none ks P = record { kept = λ k h. h; only = λ k h. inl h }

pub adds_both : (xs ys zs : List ℕ) (P Q : ℕ → Type 0) → Adds xs ys P → ((k : ℕ) → Q k → P k) → Adds ys zs Q → Adds xs zs P
adds_both xs ys zs P Q x into y = record {
  kept = λ k h. y.kept k (x.kept k h);
  only = λ k h. ⊎_elim (λ b. x.only k b) (λ q. inr (into k q)) (y.only k h);
}

pub adds_one : (ks after : List ℕ) (k : ℕ) (P : ℕ → Type 0) → IsInserted ks after k → P k → Adds ks after P
adds_one ks after k P i p = record {
  kept = i.keeps;
  only = λ x h. ⊎_elim (λ l. inl l) (λ e. inr (subst P (sym e) p)) (i.only x h);
}

pub adds_same : (xs ys zs : List ℕ) (P : ℕ → Type 0) → ys ≡ zs → Adds xs ys P → Adds xs zs P
adds_same xs ys zs P e h = subst (λ ks. Adds xs ks P) e h

-- what comes is of another description too
pub adds_into : (xs ys : List ℕ) (P Q : ℕ → Type 0) → ((k : ℕ) → Q k → P k) → Adds xs ys Q → Adds xs ys P
adds_into xs ys P Q into y = record {
  kept = y.kept;
  only = λ k h. ⊎_elim (λ b. inl b) (λ q. inr (into k q)) (y.only k h);
}
