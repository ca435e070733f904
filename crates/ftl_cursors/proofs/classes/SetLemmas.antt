-- Sets with one more class, and classes that two sets have.
use Rattle.std.proofs.Common.{◌≡◌, ◌≢◌, ℕ, ◌*◌, ◌%◌, ◌^◌, List, [], ◌∷◌, bit_or, min, inl, inr, refl, sym, subst, ap, ap₂, ◌∙◌, arith}
use Rattle.std.specs.Int.{bit_at, w128}
use Rattle.std.proofs.lemmas.Bool.{cases_eq}
use Rattle.std.proofs.lemmas.Nat.Bits.{bit_at-lt, bit_at-zero, bit_at_and, bit_at_or, bit_at_set_other, bit_at_set_same}
use Rattle.ftl_cursors.specs.classes.ClassSets.{HasAllOf, HasClass, HaveNoneInCommon}

-- the set with one more class
abbrev pub set_with : (set class : ℕ) → ℕ
set_with set class = bit_or set (1 * 2 ^ (class % 128) % 2 ^ 128)

pub has_class : (set class : ℕ) → HasClass (set_with set class) class
has_class set class = bit_at_set_same w128 set (class % 128) (omega arith)

pub has_others : (set class : ℕ) → HasAllOf (set_with set class) set
has_others set class other has =
    elim (cases_eq (other % 128) (class % 128)) [
      | inl same ↦ subst (λ n. bit_at (set_with set class) n ≡ 1) (sym same) (has_class set class)
      | inr differs ↦
          bit_at_set_other w128 set (class % 128) (omega arith) (other % 128) differs ∙ has
    ]

-- two sets together have the classes of the first
pub has_first : (set other : ℕ) → HasAllOf (bit_or set other) set
has_first set other class has =
    let both = bit_at_or set other (class % 128) in
    let most = bit_at-lt other (class % 128) in
    omega (arith, both, most, has)

-- and those of the second
pub has_second : (set other : ℕ) → HasAllOf (bit_or set other) other
has_second set other class has =
    let both = bit_at_or set other (class % 128) in
    let most = bit_at-lt set (class % 128) in
    omega (arith, both, most, has)

-- sets that have no bit in common have no class in common
pub none_in_both : (set other class : ℕ) → HaveNoneInCommon set other → HasClass set class → HasClass other class → ⊥
none_in_both set other class none has too =
    let one : min 1 1 ≡ 0 =
    sym (bit_at_and set other (class % 128) ∙ ap₂ (λ a b. min a b) has too)
    ∙ ap (λ n. bit_at n (class % 128)) none
    ∙ bit_at-zero (class % 128) in
    let z : ⊥ = omega (arith, one) in
    z

-- a list that isn't other than empty is empty
pub is_empty : {X : Type 0} (xs : List X) → (xs ≢ [] → ⊥) → xs ≡ []
is_empty [] never = refl
is_empty (x ∷ xs) never = absurd (never (λ none. let z : ⊥ = cc in z))
