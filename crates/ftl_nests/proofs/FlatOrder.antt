-- What is ordered with nests is ordered in the flat schedule, and what must precede with nests must precede there.
use Rattle.std.proofs.Common.{◌≡◌, ℕ, Bool, refl, sym, ap, subst, inl, inr, ⊎_elim, arith, [], ◌∷◌, Option, None, Some}
use Rattle.ftl_model.specs.layout.Tree.{Forest}
use Rattle.ftl_model.specs.layout.AttributeGrammar.{Read}
use Rattle.ftl_model.specs.lists.Lists.{Before}
use Rattle.ftl_order.specs.orders.Schedule.{PassKind, topdown, bottomup, inorder, Placing, IsOnePass}
use Rattle.ftl_order.specs.orders.Pairs.{Where, same_class, parent_class, child_class}
use Rattle.ftl_order.specs.orders.Ordered.{VisitPlace, KeyBelow, SameClassRow, Row, IsOrderedRead}
use Rattle.ftl_order.specs.orders.LegalOrder.{Turn, KeyFirst, way_to, address, FirstInPass, TurnPrecedes}
use Rattle.ftl_nests.specs.Nests.{NestPlacing, NestRow, IsNestOrderedRead}
use Rattle.ftl_nests.specs.Hosted.{HostedFirst, TurnPrecedesWithNests}
use Rattle.ftl_nests.proofs.Flattened.{Flattens}

module _ (at to : Placing) where
  -- the attribute has the same place in its list
  abbrev pub IsSameIndex : ℕ → Type 0
  IsSameIndex a = (to a).index ≡ (at a).index

  key_moves : (x y : VisitPlace) → IsSameIndex x.attribute → IsSameIndex y.attribute → KeyBelow at x y → KeyBelow to x y
  key_moves x y ex ey key =
      ⊎_elim (λ less. inl (omega (arith, less, ex, ey)))
      (λ same. inr ((let e = same.0 in omega (arith, e, ex, ey)), same.1)) key

  same_class_moves : (kind : PassKind) (by_prev : Bool) (x y : VisitPlace) → IsSameIndex x.attribute
      → IsSameIndex y.attribute
      → SameClassRow kind at by_prev x y → SameClassRow kind to by_prev x y
  same_class_moves topdown by_prev x y ex ey row = ⊎_elim (λ key. inl (key_moves x y ex ey key)) (λ p. inr p) row
  same_class_moves bottomup by_prev x y ex ey row = ⊎_elim (λ key. inl (key_moves x y ex ey key)) (λ p. inr p) row
  same_class_moves inorder by_prev x y ex ey row =
      ⊎_elim (λ b. inl b)
      (λ same. inr (same.0, ⊎_elim (λ key. inl (key_moves x y ex ey key)) (λ p. inr p) same.1)) row

  pub row_moves : (place : Where) (kind : PassKind) (r : Read) (x y : VisitPlace) → IsSameIndex x.attribute
      → IsSameIndex y.attribute
      → Row place kind at r x y → Row place kind to r x y
  row_moves same_class kind r x y ex ey row = same_class_moves kind _ x y ex ey row
  row_moves parent_class kind r x y ex ey row = row
  row_moves child_class kind r x y ex ey row = row

  key_first_moves : (x y : Turn) → IsSameIndex x.rule.attribute → IsSameIndex y.rule.attribute → KeyFirst at x y
      → KeyFirst to x y
  key_first_moves x y ex ey first = ⊎_elim (λ key. inl (key_moves x.rule y.rule ex ey key)) (λ p. inr p) first

  address_moves : (x : Turn) → IsSameIndex x.rule.attribute → address at x ≡ address to x
  address_moves x e =
      ap (λ i. way_to x.visit (x.rule.block ∷ (x.rule.child ∷ (x.kid ∷ (0 ∷ (i ∷ [])))))) (sym e)

  pub first_moves : (kind : PassKind) (x y : Turn) → IsSameIndex x.rule.attribute → IsSameIndex y.rule.attribute
      → FirstInPass kind at x y → FirstInPass kind to x y
  first_moves topdown x y ex ey first =
      ⊎_elim (λ h. inl (h.0, key_first_moves x y ex ey h.1)) (λ above. inr above) first
  first_moves bottomup x y ex ey first =
      ⊎_elim (λ h. inl (h.0, key_first_moves x y ex ey h.1)) (λ above. inr above) first
  first_moves inorder x y ex ey first =
      subst (λ xs. Before xs (address to y)) (address_moves x ex)
      (subst (λ ys. Before (address at x) ys) (address_moves y ey) first)

module _ (In : ℕ → Type 0) (at : NestPlacing) (flat : Placing) (same : Flattens In at flat) where
  row_flat : (place : Where) (r : Read) (x y : VisitPlace) (hx hy : Option ℕ) → at.host x.attribute ≡ hx
      → at.host y.attribute ≡ hy
      → In x.attribute → In y.attribute → IsOnePass (at.outer x.attribute) (at.outer y.attribute)
      → NestRow hx hy (at.outer y.attribute).kind at place r x y → IsOrderedRead flat place r x y
  row_flat place r x y None None ex ey ix iy one row =
      inr (
        same.own_pass x.attribute y.attribute ix iy one ex ey,
        subst (λ kind. Row place kind flat r x y) (sym (same.own_kind y.attribute iy ey))
            (row_moves at.outer flat place (at.outer y.attribute).kind r x y (same.own_index x.attribute ix ex)
            (same.own_index y.attribute iy ey) row),
      )
  row_flat place r x y (Some h) (Some k) ex ey ix iy one row =
      ⊎_elim (λ stage. inl (same.inner_stages x.attribute y.attribute h k ix iy one ex ey stage))
      (λ here.
      inr (
        same.inner_pass x.attribute y.attribute h k ix iy one ex ey here.0,
        subst (λ kind. Row place kind flat r x y) (sym (same.inner_kind y.attribute k iy ey))
            (row_moves at.inner flat place (at.inner y.attribute).kind r x y (same.inner_index x.attribute h ix ex)
            (same.inner_index y.attribute k iy ey) here.1),
      ))
      row
  row_flat place r x y None (Some k) ex ey ix iy one row =
      inl (same.own_first x.attribute y.attribute k ix iy one row ex ey)
  row_flat place r x y (Some k) None ex ey ix iy one row =
      inl (same.inner_first x.attribute y.attribute k ix iy one row ex ey)

  -- an ordered read stays ordered
  pub read_flat : (place : Where) (r : Read) (x y : VisitPlace) → In x.attribute → In y.attribute
      → IsNestOrderedRead at place r x y → IsOrderedRead flat place r x y
  read_flat place r x y ix iy ordered =
      ⊎_elim (λ stage. inl (same.stages x.attribute y.attribute ix iy stage))
      (λ here.
      row_flat place r x y (at.host x.attribute) (at.host y.attribute) refl refl ix iy here.0 here.1) ordered

  first_flat : (t : Forest) (x y : Turn) (hx hy : Option ℕ) → at.host x.rule.attribute ≡ hx
      → at.host y.rule.attribute ≡ hy
      → In x.rule.attribute → In y.rule.attribute → IsOnePass (at.outer x.rule.attribute) (at.outer y.rule.attribute)
      → HostedFirst t hx hy (at.outer y.rule.attribute).kind at x y → TurnPrecedes flat x y
  first_flat t x y None None ex ey ix iy one first =
      inr (
        same.own_pass x.rule.attribute y.rule.attribute ix iy one ex ey,
        subst (λ kind. FirstInPass kind flat x y) (sym (same.own_kind y.rule.attribute iy ey))
            (first_moves at.outer flat (at.outer y.rule.attribute).kind x y (same.own_index x.rule.attribute ix ex)
            (same.own_index y.rule.attribute iy ey) first),
      )
  first_flat t x y (Some h) (Some k) ex ey ix iy one first =
      ⊎_elim (λ stage. inl (same.inner_stages x.rule.attribute y.rule.attribute h k ix iy one ex ey stage))
      (λ here.
      inr (
        same.inner_pass x.rule.attribute y.rule.attribute h k ix iy one ex ey here.0,
        subst (λ kind. FirstInPass kind flat x y) (sym (same.inner_kind y.rule.attribute k iy ey))
            (first_moves at.inner flat (at.inner y.rule.attribute).kind x y (same.inner_index x.rule.attribute h ix ex)
            (same.inner_index y.rule.attribute k iy ey) here.1),
      ))
      first.3
  first_flat t x y None (Some k) ex ey ix iy one first =
      inl (same.own_first x.rule.attribute y.rule.attribute k ix iy one first.0 ex ey)
  first_flat t x y (Some k) None ex ey ix iy one first =
      inl (same.inner_first x.rule.attribute y.rule.attribute k ix iy one first.0 ex ey)

  -- what must precede with nests must precede in the flat schedule
  pub precedes_flat : (t : Forest) (x y : Turn) → In x.rule.attribute → In y.rule.attribute → TurnPrecedesWithNests t at x y
      → TurnPrecedes flat x y
  precedes_flat t x y ix iy first =
      ⊎_elim (λ stage. inl (same.stages x.rule.attribute y.rule.attribute ix iy stage))
      (λ here.
      first_flat t x y (at.host x.rule.attribute) (at.host y.rule.attribute) refl refl ix iy here.0 here.1) first
