-- Each row of the table of ordered reads puts the writer near before the reader, and what is near must precede.
use Rattle.std.proofs.Common.{◌≡◌, ◌⊎◌, ℕ, ◌<◌, ◌≤◌, Bool, IsTrue, refl, sym, inl, inr, ⊎_elim, arith, List, [], ◌∷◌, Some}
use Rattle.std.proofs.lemmas.Bool.{cases_lt}
use Rattle.ftl_model.specs.lists.Lists.{Before}
use Rattle.ftl_model.specs.layout.AttributeGrammar.{AttributeGrammar, Read, Sort, inherited, input, local, synthesized}
use Rattle.ftl_model.specs.layout.Path.{Above, Path, down, parent_of, top}
use Rattle.ftl_model.specs.layout.Solves.{Instance}
use Rattle.ftl_order.specs.orders.Lawful.{IsOwnSort}
use Rattle.ftl_order.specs.orders.LegalOrder.{FirstInPass, PrecedesDirectlyBy, DirectlyFirstInPass, PrecedesBy, Turn, TurnPrecedesDirectly, turn_of, way_to}
use Rattle.ftl_order.specs.orders.Ordered.{ChildRow, IsOrderedRead, IsSameBlock, ParentRow, Row, SameClassRow, VisitPlace, block_of}
use Rattle.ftl_order.specs.orders.Pairs.{Where}
use Rattle.ftl_order.specs.orders.Schedule.{PassKind, Placing, bottomup, inorder, topdown}

abbrev pub turn : Path → VisitPlace → ℕ → Turn
turn p x k = record { visit = p; rule = x; kid = k }

-- below one node addresses compare as what follows there
pub way_before : (p : Path) (xs ys : List ℕ) → Before xs ys → Before (way_to p xs) (way_to p ys)
way_before top xs ys h = h
way_before (down c k p) xs ys h =
    way_before p (1 ∷ (c ∷ (k ∷ (1 ∷ xs)))) (1 ∷ (c ∷ (k ∷ (1 ∷ ys))))
    (inr (refl, inr (refl, inr (refl, inr (refl, h)))))

inorder_places : (at : Placing) (by_prev : Bool) (x y : VisitPlace) (kx ky : ℕ) → SameClassRow inorder at by_prev x y
    → (IsSameBlock x y → kx ≤ ky) → (IsTrue by_prev → kx < ky)
    → Before (x.block ∷ (x.child ∷ (kx ∷ (0 ∷ ((at x.attribute).index ∷ [])))))
    (y.block ∷ (y.child ∷ (ky ∷ (0 ∷ ((at y.attribute).index ∷ [])))))
inorder_places at by_prev x y kx ky row no_later earlier =
    ⊎_elim (λ block. ⊎_elim (λ b. inl b) (λ b. inr (b.0, inl b.1)) block)
    (λ same. ⊎_elim (λ key. by_key same.0 key) (λ prev. inr (same.0.0, inr (same.0.1, inl (earlier prev)))) same.1) row
  where
    by_key : IsSameBlock x y
        → ((at x.attribute).index < (at y.attribute).index)
        ⊎ (((at x.attribute).index ≡ (at y.attribute).index) × (x.child < y.child))
        → Before (x.block ∷ (x.child ∷ (kx ∷ (0 ∷ ((at x.attribute).index ∷ [])))))
        (y.block ∷ (y.child ∷ (ky ∷ (0 ∷ ((at y.attribute).index ∷ [])))))
    by_key same key =
        let within = no_later same in
        inr (
          same.0,
          inr (
            same.1,
            ⊎_elim (λ less. inl less)
                (λ more. inr (
                  (let e : kx ≡ ky = omega (arith, within, more) in e),
                  inr (
                    refl,
                    ⊎_elim (λ less. inl less)
                        (λ child. absurd
                        (let s = same.1 in let c = child.1 in let z : ⊥ = omega (arith, s, c) in z)) key,
                  ),
                ))
                (cases_lt kx ky),
          ),
        )

pub same_visit_direct : (kind : PassKind) (at : Placing) (by_prev : Bool) (p : Path) (x y : VisitPlace) (kx ky : ℕ)
    → SameClassRow kind at by_prev x y → (IsSameBlock x y → kx ≤ ky) → (IsTrue by_prev → kx < ky)
    → DirectlyFirstInPass kind at (turn p x kx) (turn p y ky)
same_visit_direct topdown at by_prev p x y kx ky row no_later earlier =
    inl (refl, ⊎_elim (λ key. inl key) (λ same. inr (same.1, earlier same.0)) row)
same_visit_direct bottomup at by_prev p x y kx ky row no_later earlier =
    inl (refl, ⊎_elim (λ key. inl key) (λ same. inr (same.1, earlier same.0)) row)
same_visit_direct inorder at by_prev p x y kx ky row no_later earlier =
    way_before p (x.block ∷ (x.child ∷ (kx ∷ (0 ∷ ((at x.attribute).index ∷ [])))))
    (y.block ∷ (y.child ∷ (ky ∷ (0 ∷ ((at y.attribute).index ∷ [])))))
    (inorder_places at by_prev x y kx ky row no_later earlier)

pub parent_direct : (kind : PassKind) (at : Placing) → ParentRow kind → (q : Path) (c k : ℕ) (x y : VisitPlace) (ky : ℕ)
    → x.block ≡ 1 → x.child ≡ c → DirectlyFirstInPass kind at (turn q x k) (turn (down c k q) y ky)
parent_direct topdown at row q c k x y ky block child = inr refl
parent_direct bottomup at row q c k x y ky block child = absurd row
parent_direct inorder at row q c k x y ky block child =
    way_before q (x.block ∷ (x.child ∷ (k ∷ (0 ∷ ((at x.attribute).index ∷ [])))))
    (1 ∷ (c ∷ (k ∷ (1 ∷ (y.block ∷ (y.child ∷ (ky ∷ (0 ∷ ((at y.attribute).index ∷ [])))))))))
    (inr (block, inr (child, inr (refl, inl (omega arith)))))

pub child_direct : (kind : PassKind) (at : Placing) (by_prev : Bool) (p : Path) (d n : ℕ) (x y : VisitPlace) (kx ky : ℕ)
    → ChildRow kind by_prev d y → (IsTrue by_prev → (d ≡ y.child) × (n < ky))
    → DirectlyFirstInPass kind at (turn (down d n p) x kx) (turn p y ky)
child_direct topdown at by_prev p d n x y kx ky row earlier = absurd row
child_direct bottomup at by_prev p d n x y kx ky row earlier = inr refl
child_direct inorder at by_prev p d n x y kx ky row earlier =
    way_before p (1 ∷ (d ∷ (n ∷ (1 ∷ (x.block ∷ (x.child ∷ (kx ∷ (0 ∷ ((at x.attribute).index ∷ [])))))))))
    (y.block ∷ (y.child ∷ (ky ∷ (0 ∷ ((at y.attribute).index ∷ [])))))
    (⊎_elim (λ block. inl (let z : 1 < y.block = omega (arith, block) in z))
    (λ here.
    inr (
      sym here.0,
      ⊎_elim (λ less. inl less) (λ prev. inr ((earlier prev).0, inl (earlier prev).1)) here.1,
    ))
    row)

-- an earlier stage, or the same pass with its row
pub lift_row : (at : Placing) (runs_at : Where) (r : Read) (x y : VisitPlace) (px py : Path) (kx ky : ℕ)
    → IsOrderedRead at runs_at r x y
    → (Row runs_at (at y.attribute).kind at r x y → DirectlyFirstInPass (at y.attribute).kind at (turn px x kx) (turn py y ky))
    → TurnPrecedesDirectly at (turn px x kx) (turn py y ky)
lift_row at runs_at r x y px py kx ky ordered near =
    ⊎_elim (λ stage. inl stage) (λ here. inr (here.0, near here.1)) ordered

pub own_block : (sort : Sort) → IsOwnSort sort → block_of sort ≡ 1 → ⊥
own_block input h e = let z : ⊥ = omega (arith, e) in z
own_block inherited h e = ⊎_elim (λ f. let z : ⊥ = cc in z) (λ f. let z : ⊥ = cc in z) h
own_block synthesized h e = let z : ⊥ = omega (arith, e) in z
own_block local h e = let z : ⊥ = omega (arith, e) in z

parent_above : (q p : Path) → Some p ≡ Some q → p ≡ q
parent_above q p e = grind arith

-- what stands near before must precede
direct_in_pass : (kind : PassKind) (at : Placing) (x y : Turn) → DirectlyFirstInPass kind at x y → FirstInPass kind at x y
direct_in_pass topdown at x y near = ⊎_elim (λ here. inl here) (λ parent. inr (above y.visit x.visit parent)) near
  where
    above : (q p : Path) → parent_of q ≡ Some p → Above p q
    above top p e = absurd (let z : ⊥ = grind arith in z)
    above (down c k q) p e = inl (sym (parent_above p q e))
direct_in_pass bottomup at x y near = ⊎_elim (λ here. inl here) (λ parent. inr (above x.visit y.visit parent)) near
  where
    above : (q p : Path) → parent_of q ≡ Some p → Above p q
    above top p e = absurd (let z : ⊥ = grind arith in z)
    above (down c k q) p e = inl (sym (parent_above p q e))
direct_in_pass inorder at x y near = near

pub direct_precedes : (g : AttributeGrammar) (at : Placing) (i j : Instance) → PrecedesDirectlyBy g at i j
    → PrecedesBy g at i j
direct_precedes g at i j near =
    ⊎_elim (λ stage. inl stage)
    (λ here. inr (here.0, direct_in_pass (at j.attribute).kind at (turn_of g i) (turn_of g j) here.1)) near
