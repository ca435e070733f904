-- The trees in each child, with what is below them, are no more than all.
use Rattle.std.proofs.Common.{◌≡◌, ℕ, zero, suc, ◌+◌, ◌≤◌, ◌==◌, true, false, if◌then◌else◌, refl, ◌∙◌, ap, arith, List, eqb-true}
use Rattle.std.specs.Prelude.{ℤ}
use Rattle.ftl_model.specs.layout.Tree.{Forest, none, tree, IsTree, below_of, size, count_in, from_kid}
use Rattle.ftl_example.specs.sizes.Wants.{beside_of}

abbrev pub child_size : ℕ → Forest → ℕ
child_size c none = 0
child_size c (tree k d i b s) = if d == c then suc (size b) + child_size c s else child_size c s

-- of the children before the n-th
abbrev pub children_size : Forest → ℕ → ℕ
children_size f zero = 0
children_size f (suc n) = child_size n f + children_size f n

none_in : (n : ℕ) → children_size none n ≡ 0
none_in zero = refl
none_in (suc n) = let e = none_in n in omega (arith, e)

same_before : (k d : ℕ) (i : List ℤ) (b s : Forest) (n : ℕ) → n ≤ d → children_size (tree k d i b s) n ≡ children_size s n
same_before k d i b s zero le = refl
same_before k d i b s (suc n) le =
    let rest = same_before k d i b s n (omega (arith, le)) in
    elim (d == n) as (λ t. (d == n ≡ t)
    → (if t then suc (size b) + child_size n s else child_size n s) + children_size (tree k d i b s) n
    ≡ child_size n s + children_size s n) [
      | true ↦ λ e. absurd (let same = eqb-true d n e in omega (arith, le, same))
      | false ↦ λ e. omega (arith, rest)
    ] refl

one_more : (k d : ℕ) (i : List ℤ) (b s : Forest) (n : ℕ)
    → children_size (tree k d i b s) n ≤ suc (size b) + children_size s n
one_more k d i b s zero = omega arith
one_more k d i b s (suc n) =
    let rest = one_more k d i b s n in
    elim (d == n) as (λ t. (d == n ≡ t)
    → (if t then suc (size b) + child_size n s else child_size n s) + children_size (tree k d i b s) n
    ≤ suc (size b) + (child_size n s + children_size s n)) [
      | true ↦ λ e.
          let same = eqb-true d n e in
          let old = same_before k d i b s n (omega (arith, same)) in
          omega (arith, old)
      | false ↦ λ e. omega (arith, rest)
    ] refl

pub children_all : (f : Forest) (n : ℕ) → children_size f n ≤ size f
children_all none n = let e = none_in n in omega (arith, e)
children_all (tree k d i b s) n = let a = one_more k d i b s n in let r = children_all s n in omega (arith, a, r)

-- a kid with what is below it, and those of its child beside it
pub kid_and_later : (c n : ℕ) (f : Forest) → IsTree (from_kid c n f)
    → suc (size (below_of (from_kid c n f))) + child_size c (beside_of (from_kid c n f)) ≤ child_size c f
kid_and_later c n none h = absurd h
kid_and_later c zero (tree k d i b s) h =
    (elim (d == c) as (λ t. IsTree (if t then tree k d i b s else from_kid c zero s)
    → suc (size (below_of (if t then tree k d i b s else from_kid c zero s)))
    + child_size c (beside_of (if t then tree k d i b s else from_kid c zero s))
    ≤ (if t then suc (size b) + child_size c s else child_size c s)) [
      | true ↦ λ h. omega arith
      | false ↦ λ h. kid_and_later c zero s h
    ]) h
kid_and_later c (suc n) (tree k d i b s) h =
    (elim (d == c) as (λ t. IsTree (if t then from_kid c n s else from_kid c (suc n) s)
    → suc (size (below_of (if t then from_kid c n s else from_kid c (suc n) s)))
    + child_size c (beside_of (if t then from_kid c n s else from_kid c (suc n) s))
    ≤ (if t then suc (size b) + child_size c s else child_size c s)) [
      | true ↦ λ h. let r = kid_and_later c n s h in omega (arith, r)
      | false ↦ λ h. kid_and_later c (suc n) s h
    ]) h

-- the first kid and those beside it are all
pub count_first : (c : ℕ) (f : Forest) → IsTree (from_kid c 0 f)
    → count_in c f ≡ suc (count_in c (beside_of (from_kid c 0 f)))
count_first c none h = absurd h
count_first c (tree k d i b s) h =
    (elim (d == c) as (λ t. IsTree (if t then tree k d i b s else from_kid c zero s)
    → (if t then suc (count_in c s) else count_in c s)
    ≡ suc (count_in c (beside_of (if t then tree k d i b s else from_kid c zero s)))) [
      | true ↦ λ h. refl
      | false ↦ λ h. count_first c s h
    ]) h

-- a later kid stands among those beside an earlier one
pub from_later : (c m n : ℕ) (f : Forest) → IsTree (from_kid c m f)
    → from_kid c n (beside_of (from_kid c m f)) ≡ from_kid c (suc (m + n)) f
from_later c m n none h = absurd h
from_later c zero n (tree k d i b s) h =
    (elim (d == c) as (λ t. (d == c ≡ t) → IsTree (if t then tree k d i b s else from_kid c zero s)
    → from_kid c n (beside_of (if t then tree k d i b s else from_kid c zero s))
    ≡ (if t then from_kid c (0 + n) s else from_kid c (suc (0 + n)) s)) [
      | true ↦ λ e h. ap (λ x. from_kid c x s) (let z : n ≡ 0 + n = omega arith in z)
      | false ↦ λ e h. from_later c zero n s h
    ]) refl h
from_later c (suc m) n (tree k d i b s) h =
    (elim (d == c) as (λ t. IsTree (if t then from_kid c m s else from_kid c (suc m) s)
    → from_kid c n (beside_of (if t then from_kid c m s else from_kid c (suc m) s))
    ≡ (if t then from_kid c (suc m + n) s else from_kid c (suc (suc m + n)) s)) [
      | true ↦ λ h. from_later c m n s h ∙ ap (λ x. from_kid c x s) (let z : suc (m + n) ≡ suc m + n = omega arith in z)
      | false ↦ λ h. from_later c (suc m) n s h
    ]) h
