-- Sizes may be counted up to a number.
use Rattle.std.proofs.Common.{◌≡◌, ◌⊎◌, inl, inr, ℕ, zero, suc, ◌+◌, ◌<◌, ◌≤◌, ◌==◌, true, false, if◌then◌else◌, refl, sym, ◌∙◌, ap, ap₂, ⊎_elim, arith, Option, None, Some, nat_le, leb-true, leb-false}
use Rattle.ftl_model.specs.layout.AttributeGrammar.{AttributeGrammar}
use Rattle.ftl_example.specs.sizes.Least.{plus, lesser, singles, class_size, best, least, capped, singles_up_to, best_up_to, least_up_to}

abbrev cap : ℕ → ℕ → ℕ
cap most n = if nat_le n most then n else most

-- either the number, which is within, or the limit, which it is beyond
record Cap (most n c : ℕ) : Type 0 where
  pub is : ((n ≤ most) × (c ≡ n)) ⊎ ((most < n) × (c ≡ most))

cap_is : (most n : ℕ) → Cap most n (cap most n)
cap_is most n =
    elim (nat_le n most) as (λ t. (nat_le n most ≡ t) → Cap most n (if t then n else most)) [
      | true ↦ λ e. record { is = inl (leb-true n most e, refl) }
      | false ↦ λ e. record { is = inr (leb-false n most e, refl) }
    ] refl

same_cap : (most n m c d : ℕ) → Cap most n c → Cap most m d → (n ≡ m) ⊎ ((most ≤ n) × (most ≤ m)) → c ≡ d
same_cap most n m c d x y h =
    ⊎_elim (λ e. by (λ a b. omega (arith, e, a, b)) (λ a b. omega (arith, e, a, b)) (λ a b. omega (arith, e, a, b)))
    (λ e. let p = e.0 in let q = e.1 in
    by (λ a b. omega (arith, p, q, a, b)) (λ a b. omega (arith, p, q, a, b)) (λ a b. omega (arith, p, q, a, b))) h
  where
    by : (n ≤ most → m ≤ most → n ≡ m) → (n ≤ most → most < m → n ≡ most) → (most < n → m ≤ most → most ≡ m) → c ≡ d
    by f k l =
        ⊎_elim (λ a. ⊎_elim (λ b. a.1 ∙ f a.0 b.0 ∙ sym b.1) (λ b. a.1 ∙ k a.0 b.0 ∙ sym b.1) y.is)
        (λ a. ⊎_elim (λ b. a.1 ∙ l a.0 b.0 ∙ sym b.1) (λ b. a.1 ∙ sym b.1) y.is) x.is

sum_cap : (most a b c d : ℕ) → Cap most a c → Cap most b d → (c + d ≡ a + b) ⊎ ((most ≤ c + d) × (most ≤ a + b))
sum_cap most a b c d x y =
    ⊎_elim
    (λ p. let p0 = p.0 in let p1 = p.1 in
    ⊎_elim (λ q. let q1 = q.1 in inl (omega (arith, p1, q1)))
    (λ q. let q0 = q.0 in let q1 = q.1 in inr (omega (arith, q1), omega (arith, q0))) y.is)
    (λ p. let p0 = p.0 in let p1 = p.1 in inr (omega (arith, p1), omega (arith, p0))) x.is

pub plus_capped : (most : ℕ) (x y : Option ℕ) → capped most (plus (capped most x) (capped most y)) ≡ capped most (plus x y)
plus_capped most None y = refl
plus_capped most (Some a) None = refl
plus_capped most (Some a) (Some b) =
    ap Some
    (same_cap most (cap most a + cap most b) (a + b) (cap most (cap most a + cap most b)) (cap most (a + b))
    (cap_is most (cap most a + cap most b)) (cap_is most (a + b))
    (sum_cap most a b (cap most a) (cap most b) (cap_is most a) (cap_is most b)))

pub one_capped : (most : ℕ) (y : Option ℕ) → capped most (plus (Some 1) (capped most y)) ≡ capped most (plus (Some 1) y)
one_capped most None = refl
one_capped most (Some b) =
    ap Some
    (same_cap most (1 + cap most b) (1 + b) (cap most (1 + cap most b)) (cap most (1 + b))
    (cap_is most (1 + cap most b)) (cap_is most (1 + b))
    (go (cap most b) (cap_is most b)))
  where
    go : (d : ℕ) → Cap most b d → (1 + d ≡ 1 + b) ⊎ ((most ≤ 1 + d) × (most ≤ 1 + b))
    go d y = ⊎_elim (λ q. let q1 = q.1 in inl (omega (arith, q1)))
        (λ q. let q0 = q.0 in let q1 = q.1 in inr (omega (arith, q1), omega (arith, q0))) y.is

choose : (most a b c d : ℕ) → Cap most a c → Cap most b d
    → (if nat_le c d then Some c else Some d) ≡ capped most (if nat_le a b then Some a else Some b)
choose most a b c d x y =
    elim (nat_le c d) as (λ t. (nat_le c d ≡ t) → (if t then Some c else Some d) ≡ capped most (if nat_le a b then Some a else Some b)) [
      | true ↦ λ e. right (leb-true c d e)
      | false ↦ λ e. wrong (leb-false c d e)
    ] refl
  where
    right : c ≤ d → Some c ≡ capped most (if nat_le a b then Some a else Some b)
    right l =
        elim (nat_le a b) as (λ t. (nat_le a b ≡ t) → Some c ≡ capped most (if t then Some a else Some b)) [
          | true ↦ λ e. ap Some (same_cap most a a c (cap most a) x (cap_is most a) (inl refl))
          | false ↦ λ e.
              let f : b < a = leb-false a b e in
              ap Some ((let z : c ≡ d = ⊎_elim (λ p. ⊎_elim (λ q. let p0 = p.0 in let p1 = p.1 in let q0 = q.0 in let q1 = q.1 in omega (arith, f, l, p1, q1)) (λ q. let p0 = p.0 in let q0 = q.0 in omega (arith, f, p0, q0)) y.is)
              (λ p. ⊎_elim (λ q. let p1 = p.1 in let q0 = q.0 in let q1 = q.1 in omega (arith, l, p1, q0, q1)) (λ q. p.1 ∙ sym q.1) y.is) x.is in z)
              ∙ same_cap most b b d (cap most b) y (cap_is most b) (inl refl))
        ] refl

    wrong : d < c → Some d ≡ capped most (if nat_le a b then Some a else Some b)
    wrong l =
        elim (nat_le a b) as (λ t. (nat_le a b ≡ t) → Some d ≡ capped most (if t then Some a else Some b)) [
          | true ↦ λ e.
              let f : a ≤ b = leb-true a b e in
              absurd (⊎_elim (λ p. ⊎_elim (λ q. let p1 = p.1 in let q1 = q.1 in omega (arith, f, l, p1, q1)) (λ q. let p0 = p.0 in let p1 = p.1 in let q1 = q.1 in omega (arith, l, p0, p1, q1)) y.is)
              (λ p. ⊎_elim (λ q. let p0 = p.0 in let q0 = q.0 in omega (arith, f, p0, q0)) (λ q. let p1 = p.1 in let q1 = q.1 in omega (arith, l, p1, q1)) y.is) x.is)
          | false ↦ λ e. ap Some (same_cap most b b d (cap most b) y (cap_is most b) (inl refl))
        ] refl

pub lesser_capped : (most : ℕ) (x y : Option ℕ) → lesser (capped most x) (capped most y) ≡ capped most (lesser x y)
lesser_capped most None y = refl
lesser_capped most (Some a) None = refl
lesser_capped most (Some a) (Some b) = choose most a b (cap most a) (cap most b) (cap_is most a) (cap_is most b)

module _ (g : AttributeGrammar) (most : ℕ) where
  singles_capped : (f h : ℕ → Option ℕ) → ((i : ℕ) → f i ≡ capped most (h i)) → (class n : ℕ)
      → singles_up_to most g f class n ≡ capped most (singles g h class n)
  singles_capped f h same class zero = refl
  singles_capped f h same class (suc n) =
      let rest = singles_capped f h same class n in
      elim (g.is_list class n) as
      (λ t. (if t then singles_up_to most g f class n
      else capped most (plus (f (g.child_interface class n)) (singles_up_to most g f class n)))
      ≡ capped most (if t then singles g h class n else plus (h (g.child_interface class n)) (singles g h class n))) [
        | true ↦ rest
        | false ↦
            ap₂ (λ x y. capped most (plus x y)) (same (g.child_interface class n)) rest
            ∙ plus_capped most (h (g.child_interface class n)) (singles g h class n)
      ]

  best_capped : (f h : ℕ → Option ℕ) → ((i : ℕ) → f i ≡ capped most (h i)) → (i n : ℕ)
      → best_up_to most g f i n ≡ capped most (best g h i n)
  best_capped f h same i zero = refl
  best_capped f h same i (suc n) =
      let rest = best_capped f h same i n in
      elim (g.interface n == i) as
      (λ t. (if t then lesser (best_up_to most g f i n)
      (capped most (plus (Some 1) (singles_up_to most g f n (g.child_count n)))) else best_up_to most g f i n)
      ≡ capped most (if t then lesser (best g h i n) (class_size g h n) else best g h i n)) [
        | true ↦
            ap₂ lesser rest
            (ap (λ y. capped most (plus (Some 1) y)) (singles_capped f h same n (g.child_count n))
            ∙ one_capped most (singles g h n (g.child_count n)))
            ∙ lesser_capped most (best g h i n) (class_size g h n)
        | false ↦ rest
      ]

  pub counted_up_to : (k i : ℕ) → least_up_to most g k i ≡ capped most (least g k i)
  counted_up_to zero i = refl
  counted_up_to (suc k) i = best_capped (least_up_to most g k) (least g k) (counted_up_to k) i g.class_count
