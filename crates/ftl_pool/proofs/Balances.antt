-- Each step on the count keeps the balance.
use Rattle.std.proofs.Common.{◌≡◌, ◌≢◌, ℕ, zero, suc, ◌+◌, ◌*◌, ◌^◌, ◌<◌, ◌≤◌, List, [], ◌∷◌, ◌++◌, length, set, get_or, subst, refl, sym, ap, ◌∙◌, ⊎_elim, mul-le-mul_right, arith}
use Rattle.std.proofs.lemmas.List.{length-set, length-append}
use Rattle.std.proofs.lemmas.List.Sums.{sum_by-cons, sum_by_push, sum_by-le}
use Rattle.std.specs.List.{sum_by, All}
use mathlib.Core.Option.{some, some-injective, some-ne-none}
use lib.ListN.{get_elem?}
use Rattle.atomic_table.proofs.Lists.{at_set, at_snoc}
use Rattle.ftl_pool.specs.Count.{Counted, new_hold, first_hold, after_load, after_put, after_take, after_split, CountStep, loads, puts, takes, splits, IsReached, begins, goes_on, IsBalanced}

-- a sum after one element changed
pub sum_by_set : {X : Type 0} (f : X → ℕ) (xs : List X) (id : ℕ) (v w : X) → get_elem? xs id ≡ some v
    → sum_by f (set xs id w) + f v ≡ sum_by f xs + f w
sum_by_set f [] id v w at = absurd (some-ne-none v (sym at))
sum_by_set f (x ∷ xs) zero v w at =
    let e : f x ≡ f v = ap f (some-injective x v at) in
    omega (arith, sum_by-cons f x xs, sum_by-cons f w xs)
sum_by_set f (x ∷ xs) (suc id) v w at =
    omega (arith, sum_by-cons f x xs, sum_by-cons f x (set xs id w), sum_by_set f xs id v w at)

-- one hold and the count change together
changes : (items n k : ℕ) (holds : List Counted) (id : ℕ) (v w : Counted) → IsBalanced items n holds
    → get_elem? holds id ≡ some v → w.items ≡ v.items → w.spare ≡ v.spare → w.puts ≤ items
    → w.puts + v.takes + n ≡ v.puts + w.takes + k → IsBalanced items k (set holds id w)
changes items n k holds id v w b at same spare bound moved = record {
  balance = omega (
    arith,
    b.balance,
    sum_by_set (λ (h : Counted). h.puts) holds id v w at,
    sum_by_set (λ (h : Counted). h.takes) holds id v w at,
  );
  each = λ j h there. ⊎_elim (λ (x : (j ≡ id) × (w ≡ h)). subst (λ (u : Counted). (u.items ≡ items) × (u.puts ≤ items))
      x.1 (same ∙ (b.each id v at).0, bound))
      (λ (x : (j ≢ id) × (get_elem? holds j ≡ some h)). b.each j h x.1) (at_set holds id j w h there);
  few = omega (arith, b.few, length-set holds id w, sum_by_set (λ (h : Counted). h.spare) holds id v w at);
}

-- another hold is made
divides : (items n : ℕ) (holds : List Counted) (id spare : ℕ) (v : Counted) → IsBalanced items n holds
    → get_elem? holds id ≡ some v → v.spare ≡ suc spare
    → IsBalanced items n (set holds id (after_split v spare) ++ new_hold items 0 ∷ [])
divides items n holds id spare v b at some_left =
    let w : Counted = after_split v spare in
    let new : Counted = new_hold items 0 in
    let more : List Counted = set holds id w in record {
      balance = omega (
        arith,
        b.balance,
        sum_by_set (λ (h : Counted). h.puts) holds id v w at,
        sum_by_set (λ (h : Counted). h.takes) holds id v w at,
        sum_by_push (λ (h : Counted). h.puts) more new,
        sum_by_push (λ (h : Counted). h.takes) more new,
      );
      each = λ j h there. ⊎_elim
          (λ (l : get_elem? more j ≡ some h). ⊎_elim
          (λ (x : (j ≡ id) × (w ≡ h)). subst (λ (u : Counted). (u.items ≡ items) × (u.puts ≤ items)) x.1
          (b.each id v at))
          (λ (x : (j ≢ id) × (get_elem? holds j ≡ some h)). b.each j h x.1) (at_set holds id j w h l))
          (λ (is : new ≡ h). subst (λ (u : Counted). (u.items ≡ items) × (u.puts ≤ items)) is (refl, omega arith))
          (at_snoc more new h j there);
      few = omega (
        arith,
        b.few,
        some_left,
        length-set holds id w,
        sum_by_set (λ (h : Counted). h.spare) holds id v w at,
        sum_by_push (λ (h : Counted). h.spare) more new,
        length-append more (new ∷ []),
      );
    }

step_balances : (items n k : ℕ) (holds more : List Counted) → IsBalanced items n holds → CountStep items n holds k more
    → IsBalanced items k more
step_balances items n k holds more b (loads id v at) =
    changes items n n holds id v (after_load v n) b at refl refl (b.each id v at).1 refl
step_balances items n k holds more b (puts id v at room) =
    changes items n (n + 1) holds id v (after_put v) b at refl refl (omega arith) (omega arith)
step_balances items n k holds more b (takes id left v at some_left) =
    changes items n left holds id v (after_take v) b at refl refl (b.each id v at).1 (omega arith)
step_balances items n k holds more b (splits id spare v at some_left) = divides items n holds id spare v b at some_left

first_balances : (items : ℕ) → IsBalanced items 0 (first_hold items ∷ [])
first_balances items = record {
  balance = refl;
  each = λ id h there. ⊎_elim (λ (l : get_elem? {A = Counted} [] id ≡ some h). absurd (some-ne-none h (sym l)))
      (λ (is : first_hold items ≡ h). subst (λ (u : Counted). (u.items ≡ items) × (u.puts ≤ items)) is
      (refl, omega arith)) (at_snoc [] (first_hold items) h id there);
  few = omega arith;
}

pub balances : (items n : ℕ) (holds : List Counted) → IsReached items n holds → IsBalanced items n holds
balances items n holds begins = first_balances items
balances items n holds (goes_on {n = k} {holds = before} r s) =
    step_balances items k n before holds (balances items k before r) s

-- what is read at a place stands there
read_there : {X : Type 0} (xs : List X) (k : ℕ) (d : X) → k < length xs → get_elem? xs k ≡ some (get_or xs k d)
read_there [] k d l = absurd (omega arith)
read_there (x ∷ xs) zero d l = refl
read_there (x ∷ xs) (suc k) d l = read_there xs k d (omega arith)

-- the addition of a put never wraps
pub few_wait : (items n : ℕ) (holds : List Counted) → items < 2 ^ 32 → IsReached items n holds → n + 1 < 2 ^ 64
few_wait items n holds small r =
    let b = balances items n holds r in
    let all : All (λ (h : Counted). h.puts ≤ items) holds = λ k d l. (b.each k (get_or holds k d)
    (read_there holds k d l)).1 in
    let most : length holds * items ≤ 64 * items = mul-le-mul_right items (omega (arith, b.few)) in
    omega (arith, b.balance, sum_by-le (λ (h : Counted). h.puts) items holds all, most)
