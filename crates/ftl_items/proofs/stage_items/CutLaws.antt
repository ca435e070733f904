-- The cut of a pass, where the nodes that are one item with all below them are those with small trees.
use Rattle.std.proofs.Common.{◌≡◌, ◌≢◌, ◌⊎◌, ℕ, ◌<◌, ◌≤◌, true, false, if◌then◌else◌, leb-true, leb-false, refl, sym, ap, subst, inl, inr, ⊎_elim, arith, List, [], ◌∷◌, length, Contains}
use Rattle.ftl_model.specs.layout.Path.{Above, Has, Path, at, down, nodes_below, size_at, top}
use Rattle.ftl_model.specs.layout.Tree.{Forest, IsTree, below_of}
use Rattle.ftl_model.proofs.layout.Numbering.{length-nodes_below}
use Rattle.ftl_order.specs.orders.Schedule.{PassKind, inorder}
use Rattle.ftl_order.proofs.orders.Ranges.{above_range}
use Rattle.ftl_items.specs.stage_items.Cut.{begins, is_open, is_small, nodes_of, subtree, tops}
use Rattle.ftl_items.specs.stage_items.CutLaws.{EachNodeInOneItem, IsLargestSmall, ItemsAreOfTwoSorts, LiesIn, LiesInNoSmall, SmallestGrains}
use Rattle.ftl_items.proofs.stage_items.CutItems.{first_for, held_there_by, in_tops_by, tops_by_have}
use Rattle.ftl_items.proofs.stage_items.Homes.{all_open, open_all}

-- a node at which an item of a pass begins
pub in_tops : (kind : PassKind) (t : Forest) (grain : ℕ) → kind ≢ inorder → IsTree t → (p : Path)
    → Contains (tops kind t grain) p → Has t p × (begins t grain p ≡ true)
in_tops kind t grain some is = in_tops_by (is_small t grain) t kind some is

module _ (t : Forest) (grain : ℕ) where
  pub small : (p : Path) → is_small t grain p ≡ true → size_at t p ≤ grain
  small p e = leb-true (size_at t p) grain e

  pub large : (p : Path) → is_small t grain p ≡ false → grain < size_at t p
  large p e = leb-false (size_at t p) grain e

  pub is_it_small : (p : Path) → size_at t p ≤ grain → is_small t grain p ≡ true
  is_it_small p below =
      elim (is_small t grain p) as (λ b. (is_small t grain p ≡ b) → b ≡ true)
      [ true ↦ λ e. refl | false ↦ λ e. absurd (let l = large p e in let z : ⊥ = omega (arith, l, below) in z) ]
      refl

  pub is_it_large : (p : Path) → grain < size_at t p → is_small t grain p ≡ false
  is_it_large p above =
      elim (is_small t grain p) as (λ b. (is_small t grain p ≡ b) → b ≡ false)
      [ true ↦ λ e. absurd (let s = small p e in let z : ⊥ = omega (arith, s, above) in z) | false ↦ λ e. refl ]
      refl

  -- a node whose tree is in no small one
  pub open_lies : (p : Path) → is_open (is_small t grain) p ≡ true → LiesInNoSmall t grain p
  open_lies p e = λ q above. large q (open_all (is_small t grain) p e q above)

  pub lies_open : (p : Path) → LiesInNoSmall t grain p → is_open (is_small t grain) p ≡ true
  lies_open p lies = all_open (is_small t grain) p (λ q above. is_it_large q (lies q above))

  pub begins_lies : (p : Path) → begins t grain p ≡ true → (q : Path) → Above q p → grain < size_at t q
  begins_lies top e q above = absurd above
  begins_lies (down c k p) e q above = open_lies p e q above

  pub lies_begins : (p : Path) → ((q : Path) → Above q p → grain < size_at t q) → begins t grain p ≡ true
  lies_begins top lies = refl
  lies_begins (down c k p) lies = lies_open p lies

  pub sort_of : (p : Path) → begins t grain p ≡ true → IsLargestSmall t grain p ⊎ LiesInNoSmall t grain p
  sort_of p e =
      elim (is_small t grain p) as
      (λ b. (is_small t grain p ≡ b) → IsLargestSmall t grain p ⊎ LiesInNoSmall t grain p) [
        | true ↦ λ f. inl (small p f, begins_lies p e)
        | false ↦ λ f.
            inr (λ q above.
            ⊎_elim (λ same. subst (λ r. grain < size_at t r) (sym same) (large p f)) (λ far. begins_lies p e q far)
            above)
      ]
      refl

  pub begins_by_sort : (p : Path) → IsLargestSmall t grain p ⊎ LiesInNoSmall t grain p → begins t grain p ≡ true
  begins_by_sort p h =
      ⊎_elim (λ (first : IsLargestSmall t grain p). lies_begins p first.1)
      (λ second. lies_begins p (λ q above. second q (inr above))) h

  pub whole_tree : (p : Path) → IsLargestSmall t grain p → nodes_of t grain p ≡ subtree t p
  whole_tree p h = ap (λ b. if b then subtree t p else p ∷ []) (is_it_small p h.0)

  pub one_node : (p : Path) → LiesInNoSmall t grain p → nodes_of t grain p ≡ p ∷ []
  one_node p h = ap (λ b. if b then subtree t p else p ∷ []) (is_it_large p (h p (inl refl)))

  no_nodes : (ps : List Path) → length ps ≡ 0 → ps ≡ []
  no_nodes [] e = refl
  no_nodes (p ∷ ps) e = absurd (let z : ⊥ = omega (arith, e) in z)

  pub smallest_alone : grain ≤ 1 → (p : Path) → nodes_of t grain p ≡ p ∷ []
  smallest_alone one p =
      elim (is_small t grain p) as
      (λ b. (is_small t grain p ≡ b) → (if b then subtree t p else p ∷ []) ≡ p ∷ []) [
        | true ↦ λ e.
            ap (λ ps. p ∷ ps)
            (no_nodes (nodes_below p (λ c. 0) (below_of (at t p)))
            (let s = small p e in
            let l = length-nodes_below p (λ c. 0) (below_of (at t p)) in
            let z : length (nodes_below p (λ c. 0) (below_of (at t p))) ≡ 0 = omega (arith, s, l, one) in
            z))
        | false ↦ λ e. refl
      ]
      refl

  pub smallest_begin : grain ≤ 1 → (p : Path) → Has t p → begins t grain p ≡ true
  smallest_begin one p h =
      lies_begins p
      (λ q above.
      let r = above_range t q p h above in
      let first = r.0 in
      let last = r.1 in
      let z : grain < size_at t q = omega (arith, one, first, last) in
      z)

  module _ (kind : PassKind) (some : kind ≢ inorder) (is : IsTree t) where
    pub one_item : EachNodeInOneItem kind t grain
    one_item = λ p h.
        let first = first_for (is_small t grain) t is kind p h in (
          first.first,
          (first.there, first.held some),
          (λ other (lies : LiesIn kind t grain other p). first.only other lies.0 (λ s. lies.1)),
        )

    pub held_there : (first p : Path) → LiesIn kind t grain first p → Has t p
    held_there first p lies = held_there_by (is_small t grain) t is kind some first p lies.0 lies.1

    pub two_sorts : ItemsAreOfTwoSorts kind t grain
    two_sorts = λ p h. (
      (λ inside. sort_of p (in_tops kind t grain some is p inside).1),
      (λ sort. tops_by_have (is_small t grain) t kind some p h (begins_by_sort p sort)),
    )

    pub smallest : SmallestGrains kind t grain
    smallest = λ one p h. (
      tops_by_have (is_small t grain) t kind some p h (smallest_begin one p h),
      smallest_alone one p,
    )
