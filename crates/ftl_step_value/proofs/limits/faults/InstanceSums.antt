-- Bounds of sums over the instances of a tree.
use Rattle.std.proofs.Common.{◌≡◌, ℕ, ◌+◌, ◌*◌, ◌≤◌, mul-le-mul, le_refl, Some, false, not, Bool, if◌then◌else◌, All, List, [], ◌∷◌, filter, find, flat_map, get_or, map, sum_by, None, refl, ◌∙◌, ap, arith}
use Rattle.std.specs.List.{AllByRecursion}
use Rattle.std.proofs.lemmas.List.{length-map}
use Rattle.std.proofs.lemmas.List.Elements.{All-append, All-head, All-map, All-nil, All-tail, Contains-get_or}
use Rattle.std.proofs.lemmas.List.Filters.{sum_by-filter_both}
use Rattle.std.proofs.lemmas.List.Sums.{sum_by-append, sum_by-cons, sum_by-le}
use Rattle.ftl_model.specs.layout.AttributeGrammar.{AttributeGrammar, attributes_of}
use Rattle.ftl_model.specs.layout.Path.{Has, Path, class_at, preorder}
use Rattle.ftl_model.specs.layout.Solves.{Instance, instance_of}
use Rattle.ftl_model.specs.layout.Table.{instance_count, instances, width_at}
use Rattle.ftl_model.specs.layout.Tree.{Forest, IsTree, size}
use Rattle.ftl_model.proofs.layout.Numbering.{has-preorder}
use Rattle.ftl_order.specs.orders.Lawful.{OfClass}
use Rattle.ftl_step_value.proofs.limits.faults.KidSums.{few_kids_of_all, kids_of}

-- so much for each of `width`, with `widest` in place of `width` where it goes with kids
with_widest : (width widest once each kids : ℕ) → width ≤ widest
    → width * (once + each * kids) ≤ once * width + (each * widest) * kids
with_widest width widest once each kids le =
    let more : width * (each * kids) ≤ widest * (each * kids) = mul-le-mul le (le_refl (each * kids)) in
    let turn : widest * (each * kids) ≡ (each * widest) * kids = grind arith in
    let split : width * (once + each * kids) ≡ once * width + width * (each * kids) = grind arith in
    omega (arith, more, turn, split)

-- what passes a test has no greater sum
pub sum_of_part : {X : Type 0} (f : X → ℕ) (p : X → Bool) (xs : List X) → sum_by f (filter p xs) ≤ sum_by f xs
sum_of_part f p xs = let both = sum_by-filter_both p (λ x. not (p x)) (λ x. refl) f xs in omega (arith, both)

-- nothing is found where nothing passes
pub find_none : {X : Type 0} (p : X → Bool) (xs : List X) → All (λ x. p x ≡ false) xs → find p xs ≡ None
find_none p [] each = refl
find_none p (x ∷ xs) each =
    ap (λ b. if b then Some x else find p xs) (All-head (λ y. p y ≡ false) x xs each)
    ∙ find_none p xs (All-tail (λ y. p y ≡ false) x xs each)

module _ (g : AttributeGrammar) (t : Forest) where
  -- the instances of a node
  abbrev cells : Path → List Instance
  cells p = map (instance_of p) (attributes_of g (class_at t p))

  each_of_node : (P : Instance → Type 0) (p : Path)
      → ((a : ℕ) → OfClass g (class_at t p) a → P (instance_of p a)) → All P (cells p)
  each_of_node P p holds =
      let attrs = attributes_of g (class_at t p) in
      All-map P (instance_of p) attrs (λ k d below. holds (get_or attrs k d) (Contains-get_or attrs k d below))

  each_of_nodes : (P : Instance → Type 0) (ps : List Path) → AllByRecursion (Has t) ps
      → ((p : Path) (a : ℕ) → Has t p → OfClass g (class_at t p) a → P (instance_of p a)) → All P (flat_map cells ps)
  each_of_nodes P [] are holds = All-nil P
  each_of_nodes P (p ∷ ps) are holds =
      All-append P (cells p) (flat_map cells ps) (each_of_node P p (λ a of. holds p a are.0 of))
      (each_of_nodes P ps are.1 holds)

  -- what holds of each attribute of each node holds of all instances
  pub each_instance : (P : Instance → Type 0) → IsTree t
      → ((p : Path) (a : ℕ) → Has t p → OfClass g (class_at t p) a → P (instance_of p a)) → All P (instances g t)
  each_instance P is holds = each_of_nodes P (preorder t) (has-preorder t is) holds

  module _ (f : Instance → ℕ) (once each widest : ℕ)
      (low : (p : Path) (a : ℕ) → Has t p → OfClass g (class_at t p) a
      → f (instance_of p a) ≤ once + each * kids_of t p)
      (narrow : (p : Path) → Has t p → width_at g t p ≤ widest) where
    sum_of_node : (p : Path) → Has t p
        → sum_by f (cells p) ≤ once * width_at g t p + (each * widest) * kids_of t p
    sum_of_node p here =
        let m = once + each * kids_of t p in
        let attrs = attributes_of g (class_at t p) in
        let sum = sum_by-le f m (cells p) (each_of_node (λ i. f i ≤ m) p (λ a of. low p a here of)) in
        let long = ap (λ n. n * m) (length-map attrs (instance_of p)) in
        let wide = with_widest (width_at g t p) widest once each (kids_of t p) (narrow p here) in
        omega (arith, sum, long, wide)

    sum_of_nodes : (ps : List Path) → AllByRecursion (Has t) ps
        → sum_by f (flat_map cells ps) ≤ once * sum_by (width_at g t) ps + (each * widest) * sum_by (kids_of t) ps
    sum_of_nodes [] are = omega arith
    sum_of_nodes (p ∷ ps) are =
        let both = sum_by-append f (cells p) (flat_map cells ps) in
        let here = sum_of_node p are.0 in
        let rest = sum_of_nodes ps are.1 in
        let widths = ap (λ n. once * n) (sum_by-cons (width_at g t) p ps) in
        let kids = ap (λ n. (each * widest) * n) (sum_by-cons (kids_of t) p ps) in
        let split_widths : once * (width_at g t p + sum_by (width_at g t) ps)
        ≡ once * width_at g t p + once * sum_by (width_at g t) ps = grind arith in
        let split_kids : (each * widest) * (kids_of t p + sum_by (kids_of t) ps)
        ≡ (each * widest) * kids_of t p + (each * widest) * sum_by (kids_of t) ps = grind arith in
        omega (arith, both, here, rest, widths, kids, split_widths, split_kids)

    -- the sum over all instances
    pub sum_of_instances : IsTree t
        → sum_by f (instances g t) ≤ once * instance_count g t + each * widest * size t
    sum_of_instances is =
        let sum = sum_of_nodes (preorder t) (has-preorder t is) in
        let few : (each * widest) * sum_by (kids_of t) (preorder t) ≤ (each * widest) * size t =
        mul-le-mul (le_refl (each * widest)) (few_kids_of_all t) in
        omega (arith, sum, few)
