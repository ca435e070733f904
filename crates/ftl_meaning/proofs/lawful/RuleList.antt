-- The rules of all classes, class by class.
use Rattle.std.proofs.Common.{◌≡◌, ℕ, suc, ◌+◌, ◌<◌, ◌≤◌, ⊎_elim, arith, List, [], ◌∷◌, ◌++◌, length, flat_map, Contains}
use Rattle.std.proofs.lemmas.List.Elements.{Contains-append_cases}
use Rattle.ftl_model.specs.lists.Lists.{AreDistinct, NoneFalls}
use Rattle.ftl_model.proofs.lists.Elements.{distinct-append, here_in, in_flat_map, later_in}
use Rattle.ftl_model.specs.layout.AttributeGrammar.{RuleName}
use Rattle.ftl_order.specs.orders.Lawful.{class_of_rule}
use Rattle.ftl_meaning.specs.faults.Numbering.{numbered}
use Rattle.ftl_meaning.proofs.lawful.Numbers.{in_numbered}

-- two lists of which no entry of the first is greater than one of the second
none_falls-append : {X : Type 0} (f : X → ℕ) (xs ys : List X) → NoneFalls f xs → NoneFalls f ys
    → ((x y : X) → Contains xs x → Contains ys y → f x ≤ f y) → NoneFalls f (xs ++ ys)
none_falls-append f [] ys hx hy across = hy
none_falls-append f (x ∷ xs) ys hx hy across = (
  (λ z c. ⊎_elim (λ front. hx.0 z front) (λ back. across x z (here_in x xs) back) (Contains-append_cases xs ys z c)),
  none_falls-append f xs ys hx.1 hy (λ a b ha hb. across a b (later_in x a xs ha) hb),
)

none_falls_where_one : {X : Type 0} (f : X → ℕ) (n : ℕ) (xs : List X) → ((x : X) → Contains xs x → f x ≡ n)
    → NoneFalls f xs
none_falls_where_one f n [] h = tt
none_falls_where_one f n (x ∷ xs) h = (
  (λ y c.
      let first = h x (here_in x xs) in
      let later = h y (later_in x y xs c) in
      omega (arith, first, later)),
  none_falls_where_one f n xs (λ y c. h y (later_in x y xs c)),
)

module _ {X : Type 0} (rules : ℕ → List RuleName)
    (of_class : (k : ℕ) (w : RuleName) → Contains (rules k) w → class_of_rule w ≡ k) where
  abbrev from : ℕ → List X → List RuleName
  from n xs = flat_map (λ (p : ℕ × X). rules p.0) (numbered n xs)

  -- rules from class n on are of class n or later
  class_from : (n : ℕ) (xs : List X) (w : RuleName) → Contains (from n xs) w → n ≤ class_of_rule w
  class_from n xs w h =
      let i = in_flat_map (λ (p : ℕ × X). rules p.0) (numbered n xs) w h in
      let s = in_numbered n xs i.0 i.1 in
      let number = s.number in
      let class = of_class i.0.0 w i.2 in
      omega (arith, number, class)

  -- the rules stand class by class
  pub by_class : (n : ℕ) (xs : List X) → NoneFalls class_of_rule (from n xs)
  by_class n [] = tt
  by_class n (x ∷ xs) =
      none_falls-append class_of_rule (rules n) (from (suc n) xs)
      (none_falls_where_one class_of_rule n (rules n) (of_class n)) (by_class (suc n) xs)
      (λ v w here there.
      let low = of_class n v here in
      let high = class_from (suc n) xs w there in
      omega (arith, low, high))

  -- and each stands once
  pub once : (n : ℕ) (xs : List X) → ((k : ℕ) → n ≤ k → k < n + length xs → AreDistinct (rules k))
      → AreDistinct (from n xs)
  once n [] distinct = tt
  once n (x ∷ xs) distinct =
      distinct-append (rules n) (from (suc n) xs) (distinct n (omega arith) (omega arith))
      (once (suc n) xs (λ k low high. distinct k (omega (arith, low)) (omega (arith, high))))
      (λ w here there.
      let low = of_class n w here in
      let high = class_from (suc n) xs w there in
      omega (arith, low, high))
