-- The value of a formula depends on what it reads alone, and keeps to the range of the width.
use Rattle.std.proofs.Common.{◌≡◌, ℕ, true, false, cond, refl, ap, ap₂, ◌∙◌, List, [], ◌++◌, Contains, Option, Some, None, pos, neg_ℤ, ◌-ℤ◌, ◌*ℤ◌, int_lt}
use Rattle.std.specs.Int.{int_div_euclid}
use Rattle.std.specs.Option.{unwrap_or}
use Rattle.std.proofs.lemmas.List.Elements.{Contains-append_left, Contains-append_right}
use Rattle.ftl_model.proofs.lists.Elements.{here_in, later_in}
use Rattle.ftl_base.specs.Truths.{both_of, choice_of, comparison_of, either_of, opposite_of}
use Rattle.ftl_base.specs.declared.truth.Truth.{Truth}
use Rattle.ftl_base.specs.declared.truth.Truth.TheVariants as truths
use Rattle.ftl_model.specs.layout.Values.{IsValueIn, Value, difference_of, greatest_of, least_of, negated_of, number, overflow, product_of, quotient_of, sum_of}
use Rattle.ftl_model.proofs.layout.ValueRanges.{greatest_in, sum_in, value_of_in}
use Rattle.ftl_meaning.specs.formulas.Formula as formula
use Rattle.ftl_meaning.specs.formulas.Formula.{Formula, Question, reads_in, reads_of}
use Rattle.ftl_meaning.specs.grammars.Meaning.{truth_by, value_by}

-- two look-ups agree on some reads
abbrev pub Agree : {R : Type 0} → (s t : R → Option Value) → List R → Type 0
Agree {R} s t rs = (r : R) → Contains rs r → s r ≡ t r

left : {R : Type 0} (s t : R → Option Value) (rs qs : List R) → Agree s t (rs ++ qs) → Agree s t rs
left s t rs qs h r c = h r (Contains-append_left rs qs r c)

right : {R : Type 0} (s t : R → Option Value) (rs qs : List R) → Agree s t (rs ++ qs) → Agree s t qs
right s t rs qs h r c = h r (Contains-append_right rs qs r c)

mutual
  -- look-ups that agree on what a formula reads give it one value
  pub value_same : {R : Type 0} (w : ℕ) (s t : R → Option Value) (f : Formula R) → Agree s t (reads_of f)
      → value_by w s f ≡ value_by w t f
  value_same w s t (formula.literal n) h = refl
  value_same w s t (formula.read r) h = ap (λ v. unwrap_or v overflow) (h r (here_in r []))
  value_same w s t (formula.read_or r f) h =
      ap₂ unwrap_or (h r (here_in r (reads_of f))) (value_same w s t f (λ q c. h q (later_in r q (reads_of f) c)))
  value_same w s t (formula.negated f) h = ap (negated_of w) (value_same w s t f h)
  value_same w s t (formula.sum f g) h =
      ap₂ (sum_of w) (value_same w s t f (left s t (reads_of f) (reads_of g) h))
      (value_same w s t g (right s t (reads_of f) (reads_of g) h))
  value_same w s t (formula.difference f g) h =
      ap₂ (difference_of w) (value_same w s t f (left s t (reads_of f) (reads_of g) h))
      (value_same w s t g (right s t (reads_of f) (reads_of g) h))
  value_same w s t (formula.product f g) h =
      ap₂ (product_of w) (value_same w s t f (left s t (reads_of f) (reads_of g) h))
      (value_same w s t g (right s t (reads_of f) (reads_of g) h))
  value_same w s t (formula.quotient f n) h = ap (λ v. quotient_of w v n) (value_same w s t f h)
  value_same w s t (formula.least f g) h =
      ap₂ least_of (value_same w s t f (left s t (reads_of f) (reads_of g) h))
      (value_same w s t g (right s t (reads_of f) (reads_of g) h))
  value_same w s t (formula.greatest f g) h =
      ap₂ greatest_of (value_same w s t f (left s t (reads_of f) (reads_of g) h))
      (value_same w s t g (right s t (reads_of f) (reads_of g) h))
  value_same w s t (formula.choice q f g) h =
      let branches = right s t (reads_in q) (reads_of f ++ reads_of g) h in
      ap (λ c. choice_of c (value_by w s f) (value_by w s g))
      (truth_same w s t q (left s t (reads_in q) (reads_of f ++ reads_of g) h))
      ∙ ap₂ (choice_of (truth_by w t q)) (value_same w s t f (left s t (reads_of f) (reads_of g) branches))
      (value_same w s t g (right s t (reads_of f) (reads_of g) branches))

  -- and a question one truth
  pub truth_same : {R : Type 0} (w : ℕ) (s t : R → Option Value) (q : Question R) → Agree s t (reads_in q)
      → truth_by w s q ≡ truth_by w t q
  truth_same w s t (formula.compared c f g) h =
      ap₂ (comparison_of c) (value_same w s t f (left s t (reads_of f) (reads_of g) h))
      (value_same w s t g (right s t (reads_of f) (reads_of g) h))
  truth_same w s t (formula.denied q) h = ap opposite_of (truth_same w s t q h)
  truth_same w s t (formula.both p q) h =
      ap₂ both_of (truth_same w s t p (left s t (reads_in p) (reads_in q) h))
      (truth_same w s t q (right s t (reads_in p) (reads_in q) h))
  truth_same w s t (formula.either p q) h =
      ap₂ either_of (truth_same w s t p (left s t (reads_in p) (reads_in q) h))
      (truth_same w s t q (right s t (reads_in p) (reads_in q) h))

-- ---- ranges

-- what is looked up, if there is something, is in the range
abbrev pub FoundIn : (w : ℕ) → Option Value → Type 0
FoundIn w None = Unit {0}
FoundIn w (Some v) = IsValueIn w v

abbrev pub EachFoundIn : {R : Type 0} → (w : ℕ) → (R → Option Value) → List R → Type 0
EachFoundIn {R} w s rs = (r : R) → Contains rs r → FoundIn w (s r)

found_or : (w : ℕ) (o : Option Value) (v : Value) → FoundIn w o → IsValueIn w v → IsValueIn w (unwrap_or o v)
found_or w None v h k = k
found_or w (Some u) v h k = h

negated_in : (w : ℕ) (v : Value) → IsValueIn w (negated_of w v)
negated_in w (number n) = value_of_in w (neg_ℤ n)
negated_in w overflow = tt

difference_in : (w : ℕ) (u v : Value) → IsValueIn w (difference_of w u v)
difference_in w (number m) (number n) = value_of_in w (m -ℤ n)
difference_in w (number m) overflow = tt
difference_in w overflow v = tt

product_in : (w : ℕ) (u v : Value) → IsValueIn w (product_of w u v)
product_in w (number m) (number n) = value_of_in w (m *ℤ n)
product_in w (number m) overflow = tt
product_in w overflow v = tt

quotient_in : (w : ℕ) (u : Value) (k : ℕ) → IsValueIn w (quotient_of w u k)
quotient_in w (number m) k = value_of_in w (int_div_euclid m (pos k))
quotient_in w overflow k = tt

least_in : (w : ℕ) (u v : Value) → IsValueIn w u → IsValueIn w v → IsValueIn w (least_of u v)
least_in w (number m) (number n) h k =
    elim (int_lt n m) as (λ b. IsValueIn w (number (cond b n m))) [ true ↦ k | false ↦ h ]
least_in w (number m) overflow h k = tt
least_in w overflow v h k = tt

choice_in : (w : ℕ) (q : Truth) (u v : Value) → IsValueIn w u → IsValueIn w v → IsValueIn w (choice_of q u v)
choice_in w truths.Yes u v h k = h
choice_in w truths.No u v h k = k
choice_in w truths.Overflow u v h k = tt

-- a formula has a value in the range, where what it reads has
pub value_in : {R : Type 0} (w : ℕ) (s : R → Option Value) (f : Formula R) → EachFoundIn w s (reads_of f)
    → IsValueIn w (value_by w s f)
value_in w s (formula.literal n) h = value_of_in w (pos n)
value_in w s (formula.read r) h = found_or w (s r) overflow (h r (here_in r [])) tt
value_in w s (formula.read_or r f) h =
    found_or w (s r) (value_by w s f) (h r (here_in r (reads_of f)))
    (value_in w s f (λ q c. h q (later_in r q (reads_of f) c)))
value_in w s (formula.negated f) h = negated_in w (value_by w s f)
value_in w s (formula.sum f g) h = sum_in w (value_by w s f) (value_by w s g)
value_in w s (formula.difference f g) h = difference_in w (value_by w s f) (value_by w s g)
value_in w s (formula.product f g) h = product_in w (value_by w s f) (value_by w s g)
value_in w s (formula.quotient f n) h = quotient_in w (value_by w s f) n
value_in w s (formula.least f g) h =
    least_in w (value_by w s f) (value_by w s g)
    (value_in w s f (λ r c. h r (Contains-append_left (reads_of f) (reads_of g) r c)))
    (value_in w s g (λ r c. h r (Contains-append_right (reads_of f) (reads_of g) r c)))
value_in w s (formula.greatest f g) h =
    greatest_in w (value_by w s f) (value_by w s g)
    (value_in w s f (λ r c. h r (Contains-append_left (reads_of f) (reads_of g) r c)))
    (value_in w s g (λ r c. h r (Contains-append_right (reads_of f) (reads_of g) r c)))
value_in w s (formula.choice q f g) h =
    choice_in w (truth_by w s q) (value_by w s f) (value_by w s g)
    (value_in w s f (λ r c. h r (Contains-append_right (reads_in q) (reads_of f ++ reads_of g) r
    (Contains-append_left (reads_of f) (reads_of g) r c))))
    (value_in w s g (λ r c. h r (Contains-append_right (reads_in q) (reads_of f ++ reads_of g) r
    (Contains-append_right (reads_of f) (reads_of g) r c))))
