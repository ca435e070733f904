-- Attributes are numbered as they are declared: each has one owner, and no class has one twice.
use Rattle.std.proofs.Common.{◌≡◌, ◌⊎◌, ℕ, zero, suc, ◌+◌, ◌<◌, ◌≤◌, refl, sym, ◌∙◌, ap, subst, inl, inr, ⊎_elim, arith, List, [], ◌∷◌, ◌++◌, flat_map, Contains}
use Rattle.std.specs.List.{range_with_len}
use Rattle.std.proofs.lemmas.List.Elements.{Contains-append_cases, Contains-append_left, Contains-append_right}
use Rattle.ftl_model.specs.lists.Lists.{AreDistinct}
use Rattle.ftl_model.proofs.lists.Elements.{distinct-append, distinct-range, distinct_apart, distinct_left, distinct_piece, distinct_right, flat_map_has, in_flat_map, in_range_from, one_piece, range_has}
use Rattle.ftl_model.specs.layout.AttributeGrammar.{AttributeGrammar, attributes_of}
use Rattle.ftl_order.specs.orders.Lawful.{IsLawful, Owner, Owns, class_owner, declared, interface_owner}

module _ (g : AttributeGrammar) (law : IsLawful g) where
  abbrev interfaces : List ℕ
  interfaces = range_with_len 0 g.interface_count

  abbrev classes : List ℕ
  classes = range_with_len 0 g.class_count

  all_distinct : AreDistinct (declared g)
  all_distinct = subst (λ (xs : List ℕ). AreDistinct xs) (sym law.numbering) (distinct-range 0 g.attribute_count)

  shared_distinct : AreDistinct (flat_map g.shared interfaces)
  shared_distinct = distinct_left (flat_map g.shared interfaces) (flat_map g.private classes) all_distinct

  private_distinct : AreDistinct (flat_map g.private classes)
  private_distinct = distinct_right (flat_map g.shared interfaces) (flat_map g.private classes) all_distinct

  in_range : (n k : ℕ) → k < n → Contains (range_with_len 0 n) k
  in_range n k below = range_has 0 n k (omega arith) (omega (arith, below))

  is_shared : (i a : ℕ) → i < g.interface_count → Contains (g.shared i) a → Contains (flat_map g.shared interfaces) a
  is_shared i a known h = flat_map_has g.shared interfaces i a (in_range g.interface_count i known) h

  is_private : (k a : ℕ) → k < g.class_count → Contains (g.private k) a → Contains (flat_map g.private classes) a
  is_private k a known h = flat_map_has g.private classes k a (in_range g.class_count k known) h

  is_declared : (x : Owner) (a : ℕ) → Owns g x a → Contains (declared g) a
  is_declared (interface_owner i) a owns =
      Contains-append_left (flat_map g.shared interfaces) (flat_map g.private classes) a (is_shared i a owns.0 owns.1)
  is_declared (class_owner k) a owns =
      Contains-append_right (flat_map g.shared interfaces) (flat_map g.private classes) a (is_private k a owns.0 owns.1)

  -- an attribute that someone owns is a number below the count
  pub attribute_known : (x : Owner) (a : ℕ) → Owns g x a → a < g.attribute_count
  attribute_known x a owns =
      let h = in_range_from 0 g.attribute_count a (subst (λ (xs : List ℕ). Contains xs a) law.numbering (is_declared x a owns)) in
      let below = h.1 in
      omega (arith, below)

  -- each number below the count has an owner
  pub has_owner : (a : ℕ) → a < g.attribute_count → (x : Owner) × Owns g x a
  has_owner a known =
      ⊎_elim
      (λ h. let i = in_flat_map g.shared interfaces a h in (
        interface_owner i.0,
        (
          (let b = (in_range_from 0 g.interface_count i.0 i.1).1 in let z : i.0 < g.interface_count = omega (arith, b) in z),
          i.2,
        ),
      ))
      (λ h. let i = in_flat_map g.private classes a h in (
        class_owner i.0,
        ((let b = (in_range_from 0 g.class_count i.0 i.1).1 in let z : i.0 < g.class_count = omega (arith, b) in z), i.2),
      ))
      (Contains-append_cases (flat_map g.shared interfaces) (flat_map g.private classes) a
      (subst (λ (xs : List ℕ). Contains xs a) (sym law.numbering) (in_range g.attribute_count a known)))

  -- and no second one
  pub one_owner : (x y : Owner) (a : ℕ) → Owns g x a → Owns g y a → x ≡ y
  one_owner (interface_owner i) (interface_owner j) a p q =
      ap interface_owner
      (one_piece g.shared interfaces shared_distinct i j a (in_range g.interface_count i p.0)
      (in_range g.interface_count j q.0) p.1 q.1)
  one_owner (class_owner k) (class_owner l) a p q =
      ap class_owner
      (one_piece g.private classes private_distinct k l a (in_range g.class_count k p.0)
      (in_range g.class_count l q.0) p.1 q.1)
  one_owner (interface_owner i) (class_owner k) a p q =
      absurd
      (distinct_apart (flat_map g.shared interfaces) (flat_map g.private classes) all_distinct a (is_shared i a p.0 p.1)
      (is_private k a q.0 q.1))
  one_owner (class_owner k) (interface_owner i) a p q =
      absurd
      (distinct_apart (flat_map g.shared interfaces) (flat_map g.private classes) all_distinct a (is_shared i a q.0 q.1)
      (is_private k a p.0 p.1))

  -- no class has an attribute twice
  pub class_distinct : (k : ℕ) → k < g.class_count → AreDistinct (attributes_of g k)
  class_distinct k known =
      let i = g.interface k in
      let shared = law.interfaces_known k known in
      distinct-append (g.shared i) (g.private k)
      (distinct_piece g.shared interfaces shared_distinct i (in_range g.interface_count i shared))
      (distinct_piece g.private classes private_distinct k (in_range g.class_count k known))
      (λ a here there.
      distinct_apart (flat_map g.shared interfaces) (flat_map g.private classes) all_distinct a (is_shared i a shared here)
      (is_private k a known there))
