-- The nearest node of a class, found from a node up.
use Rattle.std.proofs.Common.{◌≡◌, ℕ, ◌<◌, ◌==◌, true, false, if◌then◌else◌, refl, sym, ◌∙◌, ap, inl, arith, eqb-true}
use Rattle.std.proofs.Common.{eq-eqb, None, Some}
use Rattle.std.specs.Option.{option_map}
use Rattle.ftl_model.proofs.layout.Standing.{has_parent, node_at-number_of}
use Rattle.ftl_model.specs.layout.AttributeGrammar.{AttributeGrammar}
use Rattle.ftl_model.specs.layout.Path.{Has, Path, class_at, down, node_at, number_of, parent_of, top}
use Rattle.ftl_model.specs.layout.Tree.{Forest, size}
use Rattle.ftl_model.specs.layout.TreeOf.{IsTreeOf}
use Rattle.ftl_order.proofs.orders.Ranges.{above_range}
use Rattle.ftl_tree.proofs.rows.Access.{has_at, number_at}
use Rattle.ftl_nests.specs.Hosted.{nearest}

some_number : (m n : ℕ) → Some m ≡ Some n → m ≡ n
some_number m n e = grind arith

module _ (t : Forest) (class : ℕ) where
  pub nearest_here : (p : Path) → class_at t p ≡ class → p ≡ nearest t class p
  nearest_here top is = refl
  nearest_here (down c k p) is =
      ap (λ b. if b then down c k p else nearest t class p) (sym (eq-eqb (class_at t (down c k p)) class is))

  pub nearest_top : (p : Path) → None ≡ option_map (number_of t) (parent_of p) → p ≡ nearest t class p
  nearest_top top e = refl
  nearest_top (down c k p) e = absurd (let z : ⊥ = grind arith in z)

  nearest_up : (c k : ℕ) (p : Path) → (class_at t (down c k p) ≡ class → ⊥)
      → nearest t class p ≡ nearest t class (down c k p)
  nearest_up c k p differs =
      elim (class_at t (down c k p) == class) as
      (λ b. (class_at t (down c k p) == class ≡ b)
      → nearest t class p ≡ (if b then down c k p else nearest t class p)) [
        | true ↦ λ e. absurd (differs (eqb-true (class_at t (down c k p)) class e))
        | false ↦ λ e. refl
      ]
      refl

  -- one node up
  pub record StepsUp (n m : ℕ) : Type 0 where
    pub within : m < size t
    pub smaller : m < n
    pub same : nearest t class (node_at t m) ≡ nearest t class (node_at t n)

  pub steps_up : (g : AttributeGrammar) → IsTreeOf g t → (n m : ℕ) → n < size t
      → (class_at t (node_at t n) ≡ class → ⊥) → Some m ≡ option_map (number_of t) (parent_of (node_at t n))
      → StepsUp n m
  steps_up g fits n m within differs e =
      go (node_at t n) (has_at g t n fits within) (number_at g t n fits within) refl differs e
    where
      go : (q : Path) → Has t q → number_of t q ≡ n → node_at t n ≡ q → (class_at t q ≡ class → ⊥)
          → Some m ≡ option_map (number_of t) (parent_of q) → StepsUp n m
      go top there number is differs e = absurd (let z : ⊥ = grind (arith, e) in z)
      go (down c k p) there number is differs e =
          let m_is : m ≡ number_of t p = some_number m (number_of t p) e in
          let less = (above_range t p (down c k p) there (inl refl)).0 in
          let smaller : m < n = omega (arith, m_is, less, number) in
          record {
            within = omega (arith, smaller, within);
            smaller = smaller;
            same =
                ap (λ x. nearest t class (node_at t x)) m_is
                ∙ ap (nearest t class) (node_at-number_of t p (has_parent t c k p there)) ∙ nearest_up c k p differs
                ∙ ap (nearest t class) (sym is);
          }
