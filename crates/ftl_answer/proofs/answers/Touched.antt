-- The touched instances of a tree can be listed, and any two lists of them are as long.
use Rattle.std.proofs.Common.{◌≡◌, ◌≢◌, ◌⊎◌, ℕ, zero, suc, ◌<◌, inl, inr, ⊎_elim, refl, sym, ap, subst, arith, List, [], ◌∷◌, length, Contains, ℤ, pos}
use Rattle.std.specs.Prelude.{slice_index_or}
use Rattle.std.proofs.Math.IntN.{ℤ_discrete}
use Rattle.std.proofs.Math.Arith.{lt_of_le-ne}
use native.Mathlib.Decide.{ℕ_discrete}
use Rattle.ftl_model.specs.lists.Lists.{AreDistinct}
use Rattle.ftl_model.proofs.lists.Elements.{here_in, in_cases, later_in, nothing_in}
use Rattle.ftl_model.specs.layout.AttributeGrammar.{AttributeGrammar, Sort, inherited, input, local, synthesized}
use Rattle.ftl_model.specs.layout.Path.{top}
use Rattle.ftl_model.specs.layout.Solves.{Instance, instance_of}
use Rattle.ftl_model.specs.layout.Table.{instance_count, instance_number, instances}
use Rattle.ftl_model.specs.layout.Tree.{Forest}
use Rattle.ftl_model.specs.layout.TreeOf.{IsTreeOf}
use Rattle.ftl_model.specs.layout.Values.{Value, number, overflow}
use Rattle.ftl_order.specs.orders.Lawful.{IsLawful}
use Rattle.ftl_order.specs.orders.Reads.{reads_of}
use Rattle.ftl_order.proofs.automatic.Choices.{no_longer}
use Rattle.ftl_order.proofs.orders.Instances.{instance_at_number, instance_here, number_within}
use Rattle.ftl_relayout.specs.laws.Relayout.{AreTouched, IsTouched}

-- ---- decisions

abbrev Either : Type 0 → Type 0
Either P = P ⊎ (P → ⊥)

-- the number of a value, or another one
abbrev number_in : Value → ℤ
number_in (number n) = n
number_in overflow = pos 0

same_or_not : (a b : Value) → (a ≡ b) ⊎ (a ≢ b)
same_or_not (number m) (number n) = go (ℤ_discrete m n)
  where
    go : Dec (m ≡ n) → (number m ≡ number n) ⊎ (number m ≢ number n)
    go (yes e) = inl (ap number e)
    go (no d) = inr (λ e. d (ap number_in e))
same_or_not (number m) overflow = inr (λ e. cc)
same_or_not overflow (number n) = inr (λ e. cc)
same_or_not overflow overflow = inl refl

input_or_not : (sort : Sort) → (sort ≡ input) ⊎ (sort ≢ input)
input_or_not input = inl refl
input_or_not inherited = inr (λ e. cc)
input_or_not synthesized = inr (λ e. cc)
input_or_not local = inr (λ e. cc)

-- one of these differs
abbrev Differs : (s r : Instance → Value) → List Instance → Type 0
Differs s r js = (j : Instance) × Contains js j × (s j ≢ r j)

differs_or_not : (s r : Instance → Value) (js : List Instance) → Either (Differs s r js)
differs_or_not s r [] = inr (λ d. nothing_in d.0 d.1)
differs_or_not s r (j ∷ js) =
    ⊎_elim
    (λ same.
    ⊎_elim (λ d. inl (d.0, later_in j d.0 js d.1, d.2))
    (λ none.
    inr
    (λ d.
    ⊎_elim (λ e. d.2 (subst (λ i. s i ≡ r i) e same)) (λ later. none (d.0, later, d.2)) (in_cases j d.0 js d.1)))
    (differs_or_not s r js))
    (λ other. inl (j, here_in j js, other))
    (same_or_not (s j) (r j))

-- ---- numbers with a property

-- these are the numbers below n that have it, each once
record AreAll (P : ℕ → Type 0) (n : ℕ) (numbers : List ℕ) : Type 0 where
  pub has : (k : ℕ) → k < n → P k → Contains numbers k
  pub only : (k : ℕ) → Contains numbers k → (k < n) × P k
  pub once : AreDistinct numbers

all_below : (P : ℕ → Type 0) → (n : ℕ) → ((k : ℕ) → k < n → Either (P k)) → (numbers : List ℕ) × AreAll P n numbers
all_below P zero decide = (
  [],
  record { has = λ k below p. absurd (omega (arith, below)); only = λ k h. absurd (nothing_in k h); once = tt },
)
all_below P (suc n) decide =
    let before = all_below P n (λ k below. decide k (omega (arith, below))) in
    ⊎_elim (with_last before) (without_last before) (decide n (omega arith))
  where
    below_or_last : (k : ℕ) → k < suc n → (k < n) ⊎ (k ≡ n)
    below_or_last k below =
        go (ℕ_discrete k n)
      where
        go : Dec (k ≡ n) → (k < n) ⊎ (k ≡ n)
        go (yes e) = inr e
        go (no d) = inl (let z : k < n = lt_of_le-ne (omega (arith, below)) d in z)

    with_last : ((numbers : List ℕ) × AreAll P n numbers) → P n → (numbers : List ℕ) × AreAll P (suc n) numbers
    with_last (numbers, are) p = (
      n ∷ numbers,
      record {
        has = λ k below q.
            ⊎_elim (λ less. later_in n k numbers (are.has k less q))
            (λ e. subst (Contains (n ∷ numbers)) (sym e) (here_in n numbers)) (below_or_last k below);
        only = λ k h.
            ⊎_elim (λ e. (let z : k < suc n = omega (arith, e) in z, subst P e p))
            (λ later. let o = are.only k later in let b = o.0 in (let z : k < suc n = omega (arith, b) in z, o.1))
            (in_cases n k numbers h);
        once = ((λ h. let b = (are.only n h).0 in omega (arith, b)), are.once);
      },
    )

    without_last : ((numbers : List ℕ) × AreAll P n numbers) → (P n → ⊥)
        → (numbers : List ℕ) × AreAll P (suc n) numbers
    without_last (numbers, are) none = (
      numbers,
      record {
        has = λ k below q.
            ⊎_elim (λ less. are.has k less q) (λ e. absurd (none (subst P e q))) (below_or_last k below);
        only = λ k h. let o = are.only k h in let b = o.0 in (let z : k < suc n = omega (arith, b) in z, o.1);
        once = are.once;
      },
    )

-- ---- touched instances

module _ (g : AttributeGrammar) (t : Forest) (s r : Instance → Value) where
  abbrev at : ℕ → Instance
  at k = slice_index_or (instances g t) k (instance_of top 0)

  -- the touched instances, listed
  pub touched_listed : IsLawful g → IsTreeOf g t → (numbers : List ℕ) × AreTouched g t s r numbers
  touched_listed law fits =
      let all = all_below (λ k. IsTouched g t s r (at k)) (instance_count g t) touched_or_not in (
        all.0,
        record {
          has = λ i touched.
              let v = touched.0.0 in
              all.1.has (instance_number g t i) (number_within g t i.node i.attribute v.0 v.1)
              (subst (IsTouched g t s r)
              (sym (instance_at_number g t i.node i.attribute (instance_of top 0) v.0 v.1)) touched);
          only = λ n h.
              let o = all.1.only n h in
              (at n, o.1, (instance_here g t law fits n (instance_of top 0) o.0).1);
          once = all.1.once;
        },
      )
    where
      touched_or_not : (k : ℕ) → k < instance_count g t → Either (IsTouched g t s r (at k))
      touched_or_not k below =
          ⊎_elim (λ is. inr (λ (touched : IsTouched g t s r (at k)). touched.0.1 is))
          (λ computed.
          ⊎_elim
          (λ d. inl (((instance_here g t law fits k (instance_of top 0) below).0, computed), d.0, d.1, d.2))
          (λ none. inr (λ (touched : IsTouched g t s r (at k)). none (touched.1, touched.2, touched.3)))
          (differs_or_not s r (reads_of g t (at k))))
          (input_or_not (g.sort (at k).attribute))

  listed_too : (one other : List ℕ) → AreTouched g t s r one → AreTouched g t s r other → (n : ℕ) → Contains one n
      → Contains other n
  listed_too one other p q n h = let o = p.only n h in subst (Contains other) o.2 (q.has o.0 o.1)

  -- as many are touched, however they are listed
  pub touched_count : (one other : List ℕ) → AreTouched g t s r one → AreTouched g t s r other → length one ≡ length other
  touched_count one other p q =
      let few = no_longer one other p.once (listed_too one other p q) in
      let many = no_longer other one q.once (listed_too other one q p) in
      omega (arith, few, many)
