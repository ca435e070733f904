-- An item begins at a node whose parent's tree is not small.
use Rattle.std.proofs.Common.{◌≡◌, ℕ, ◌≤◌, Bool, true, false, ltb, refl, ap, inl, inr, arith, ltb-true, ltb-false}
use Rattle.ftl_model.specs.layout.Path.{AtOrAbove, Has, Path, down, size_at}
use Rattle.ftl_model.specs.layout.Tree.{Forest}
use Rattle.ftl_model.proofs.layout.Standing.{has_parent}
use Rattle.ftl_order.proofs.orders.Ranges.{above_range}
use Rattle.ftl_items.specs.stage_items.Cut.{begins, is_open, is_small}
use Rattle.ftl_items.proofs.stage_items.CutLaws.{lies_open, open_lies}

module _ (t : Forest) (grain : ℕ) (p : Path) (has : Has t p) where
  -- a tree is larger than those in it
  larger : (q : Path) → AtOrAbove q p → size_at t p ≤ size_at t q
  larger q (inl same) = let e = ap (size_at t) same in omega (arith, e)
  larger q (inr above) =
      let r = above_range t q p has above in
      let first = r.0 in
      let last = r.1 in
      omega (arith, first, last)

  is_open-size : is_open (is_small t grain) p ≡ ltb grain (size_at t p)
  is_open-size =
      elim (ltb grain (size_at t p)) as
      (λ b. (ltb grain (size_at t p) ≡ b) → is_open (is_small t grain) p ≡ b) [
        | true ↦ λ e.
            let large = ltb-true grain (size_at t p) e in
            lies_open t grain p (λ q above. let more = larger q above in omega (arith, large, more))
        | false ↦ λ e.
            closed (is_open (is_small t grain) p)
            (λ is_free.
            let few = ltb-false grain (size_at t p) e in
            let large = open_lies t grain p is_free p (inl refl) in
            omega (arith, few, large))
      ]
      refl
    where
      closed : (b : Bool) → (b ≡ true → ⊥) → b ≡ false
      closed true h = absurd (h refl)
      closed false h = refl

pub begins-size : (t : Forest) (grain c k : ℕ) (p : Path) → Has t (down c k p)
    → begins t grain (down c k p) ≡ ltb grain (size_at t p)
begins-size t grain c k p h = is_open-size t grain p (has_parent t c k p h)
