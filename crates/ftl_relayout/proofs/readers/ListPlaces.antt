-- Where lists stand, by attribute, class, and whose attribute is read.
use Rattle.std.proofs.Common.{◌≡◌, ℕ, ◌+◌, ◌*◌, ◌<◌, refl, arith}
use Rattle.ftl_relayout.specs.declared.readers.reader.Whose.{Whose}
use Rattle.ftl_relayout.specs.declared.readers.reader.Whose.TheVariants as whose
use Rattle.ftl_relayout.specs.readers.Readers.{list_at}
use Rattle.ftl_relayout.proofs.readers.Rows.{row_split, row_within}

-- each attribute and class has a list
pub list_within : (n a k : ℕ) (o : Whose) (all : ℕ) → k < n → a < all → list_at n a k o < all * n * 2
list_within n a k o all class known = by o (row_within n a all k class known)
  where
    own : (x y : ℕ) → x < y → x * 2 < y * 2
    own x y less = omega (arith, less)

    kid : (x y : ℕ) → x < y → x * 2 + 1 < y * 2
    kid x y less = omega (arith, less)

    by : (o : Whose) → a * n + k < all * n → list_at n a k o < all * n * 2
    by whose.Own less = own (a * n + k) (all * n) less
    by whose.Kid less = kid (a * n + k) (all * n) less

-- and no two have the same
pub list_split : (n a k b l : ℕ) (o p : Whose) → k < n → l < n → list_at n a k o ≡ list_at n b l p
    → (a ≡ b) × (k ≡ l) × (o ≡ p)
list_split n a k b l o p in_a in_b same = by o p same
  where
    own : (x y : ℕ) → x * 2 ≡ y * 2 → x ≡ y
    own x y is = omega (arith, is)

    kid : (x y : ℕ) → x * 2 + 1 ≡ y * 2 + 1 → x ≡ y
    kid x y is = omega (arith, is)

    differ : (x y : ℕ) → x * 2 ≡ y * 2 + 1 → ⊥
    differ x y is = omega (arith, is)

    differ_too : (x y : ℕ) → x * 2 + 1 ≡ y * 2 → ⊥
    differ_too x y is = omega (arith, is)

    by : (o p : Whose) → list_at n a k o ≡ list_at n b l p → (a ≡ b) × (k ≡ l) × (o ≡ p)
    by whose.Own whose.Own is =
        let both = row_split n a b k l in_a in_b (own (a * n + k) (b * n + l) is) in (both.0, both.1, refl)
    by whose.Own whose.Kid is = absurd (differ (a * n + k) (b * n + l) is)
    by whose.Kid whose.Own is = absurd (differ_too (a * n + k) (b * n + l) is)
    by whose.Kid whose.Kid is =
        let both = row_split n a b k l in_a in_b (kid (a * n + k) (b * n + l) is) in (both.0, both.1, refl)
