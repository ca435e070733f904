-- The items of a stage whose passes are cut so: where they begin, which nodes each has, and that no two are one.
use Rattle.std.proofs.Common.{◌≡◌, ◌≢◌, ◌⊎◌, ℕ, ◌<◌, Bool, true, false, if◌then◌else◌, refl, sym, ◌∙◌, ap, subst, inl, inr, ⊎_elim, arith, [], ◌∷◌, filter, Contains}
use Rattle.std.specs.List.{range_with_len}
use Rattle.ftl_model.specs.lists.Lists.{AreDistinct}
use Rattle.ftl_model.proofs.lists.Elements.{distinct-filter, distinct-range, filter_has, flat_map_has, here_in, in_cases, in_filter, in_flat_map, in_range_from, nothing_in, range_has}
use Rattle.ftl_model.proofs.lists.Rising.{Rising, in_map, map_has}
use Rattle.ftl_model.specs.layout.Path.{Has, Path, number_of, preorder, top}
use Rattle.ftl_model.specs.layout.Tree.{Forest, IsTree}
use Rattle.ftl_order.specs.orders.Schedule.{PassKind, bottomup, inorder, topdown}
use Rattle.ftl_items.specs.stage_items.Cut.{PassCut, begins_by, nodes_by, starts, subtree, tops_by}
use Rattle.ftl_items.specs.stage_items.Items.{Item, item, items_by, items_of_cut}
use Rattle.ftl_items.proofs.stage_items.Homes.{begins-home, has_above, has_held, home, home-above, home_holds, only_home}
use Rattle.ftl_items.proofs.stage_items.Pieces.{distinct-map, distinct_pieces_in}
use Rattle.ftl_items.proofs.stage_items.Reverses.{distinct-reverse, in_reverse, reverse_has}
use Rattle.ftl_items.proofs.stage_items.Subtrees.{distinct-preorder, distinct-subtree, in_preorder, preorder_has, rising-subtree}

pub kind_cases : (kind : PassKind) → (kind ≡ inorder) ⊎ (kind ≢ inorder)
kind_cases topdown = inr (λ e. let z : ⊥ = cc in z)
kind_cases bottomup = inr (λ e. let z : ⊥ = cc in z)
kind_cases inorder = inl refl

module _ (is_whole : Path → Bool) (t : Forest) where
  -- a node at which an item of a pass begins
  pub in_tops_by : (kind : PassKind) → kind ≢ inorder → IsTree t → (p : Path) → Contains (tops_by kind is_whole t) p
      → Has t p × (begins_by is_whole p ≡ true)
  in_tops_by topdown some is p h =
      let i = in_filter (begins_by is_whole) (preorder t) p h in (in_preorder t p is i.0, i.1)
  in_tops_by bottomup some is p h =
      let i =
      in_filter (begins_by is_whole) (preorder t) p (in_reverse (filter (begins_by is_whole) (preorder t)) p h) in
      (in_preorder t p is i.0, i.1)
  in_tops_by inorder some is p h = absurd (some refl)

  pub tops_by_have : (kind : PassKind) → kind ≢ inorder → (p : Path) → Has t p → begins_by is_whole p ≡ true
      → Contains (tops_by kind is_whole t) p
  tops_by_have topdown some p h e = filter_has (begins_by is_whole) (preorder t) p (preorder_has t p h) e
  tops_by_have bottomup some p h e =
      reverse_has (filter (begins_by is_whole) (preorder t)) p
      (filter_has (begins_by is_whole) (preorder t) p (preorder_has t p h) e)
  tops_by_have inorder some p h e = absurd (some refl)

  pub distinct-tops_by : (kind : PassKind) → AreDistinct (tops_by kind is_whole t)
  distinct-tops_by topdown = distinct-filter (begins_by is_whole) (preorder t) (distinct-preorder t)
  distinct-tops_by bottomup =
      distinct-reverse (filter (begins_by is_whole) (preorder t))
      (distinct-filter (begins_by is_whole) (preorder t) (distinct-preorder t))
  distinct-tops_by inorder = ((λ none. nothing_in top none), tt)

  pub nodes_once : (p : Path) → Has t p → AreDistinct (nodes_by is_whole t p)
  nodes_once p h =
      elim (is_whole p) as (λ b. AreDistinct (if b then subtree t p else p ∷ []))
      [ true ↦ distinct-subtree t p h | false ↦ ((λ none. nothing_in p none), tt) ]

  pub nodes_rise : (p : Path) → Has t p → Rising (λ a b. number_of t a < number_of t b) (nodes_by is_whole t p)
  nodes_rise p h =
      elim (is_whole p) as
      (λ b. Rising (λ a b. number_of t a < number_of t b) (if b then subtree t p else p ∷ []))
      [ true ↦ rising-subtree t p h | false ↦ ((λ q none. absurd (nothing_in q none)), tt) ]

  pub held_there_by : IsTree t → (kind : PassKind) → kind ≢ inorder → (first p : Path)
      → Contains (tops_by kind is_whole t) first → Contains (nodes_by is_whole t first) p → Has t p
  held_there_by is kind some first p there held =
      has_held is_whole t first p (in_tops_by kind some is first there).0 held

  -- the first node of the item that has a node
  pub record FirstFor (kind : PassKind) (v : Path) : Type 0 where
    pub first : Path
    pub there : Contains (tops_by kind is_whole t) first
    pub held : kind ≢ inorder → Contains (nodes_by is_whole t first) v
    pub only : (q : Path) → Contains (tops_by kind is_whole t) q
        → (kind ≢ inorder → Contains (nodes_by is_whole t q) v)
        → q ≡ first

  pub first_for : IsTree t → (kind : PassKind) (v : Path) → Has t v → FirstFor kind v
  first_for is kind v there =
      ⊎_elim
      (λ e.
      subst (λ k. FirstFor k v) (sym e)
      (record {
        first = top;
        there = here_in top [];
        held = λ some. absurd (some refl);
        only = λ q h held. ⊎_elim (λ same. sym same) (λ none. absurd (nothing_in q none)) (in_cases top q [] h);
      }))
      (λ some.
      record {
        first = home is_whole v;
        there =
            tops_by_have kind some (home is_whole v) (has_above t (home is_whole v) v there (home-above is_whole v))
            (begins-home is_whole v);
        held = λ s. home_holds is_whole t v there;
        only = λ q h held.
            let i = in_tops_by kind some is q h in
            sym (only_home is_whole t q v i.0 i.1 (held some));
      })
      (kind_cases kind)

module _ (count : ℕ) (cuts : ℕ → PassCut) (t : Forest) where
  -- an item of a pass
  pub record ItemHere (x : Item) : Type 0 where
    pub known : x.pass < count
    pub there : Contains (starts cuts t x.pass) x.first

  pub item_here : (x : Item) → Contains (items_by count cuts t) x → ItemHere x
  item_here x h =
      let f = in_flat_map (items_of_cut cuts t) (range_with_len 0 count) x h in
      let m = f.0 in
      let i = in_map (item m) (starts cuts t m) x f.2 in
      let below = (in_range_from 0 count m f.1).1 in
      subst ItemHere i.is (record { known = omega (arith, below); there = i.there })

  pub item_there : (m : ℕ) (p : Path) → m < count → Contains (starts cuts t m) p
      → Contains (items_by count cuts t) (item m p)
  item_there m p known there =
      flat_map_has (items_of_cut cuts t) (range_with_len 0 count) m (item m p)
      (range_has 0 count m (omega arith) (omega (arith, known)))
      (map_has (item m) (starts cuts t m) p there)

  pub distinct-items : AreDistinct (items_by count cuts t)
  distinct-items =
      distinct_pieces_in (items_of_cut cuts t) (range_with_len 0 count)
      (λ m there. distinct-map (item m) (λ p q e. ap (λ (x : Item). x.first) e) (starts cuts t m)
      (distinct-tops_by (cuts m).is_whole t (cuts m).kind))
      (λ m n x hm hn in_m in_n.
      let i = in_map (item m) (starts cuts t m) x in_m in
      let j = in_map (item n) (starts cuts t n) x in_n in
      ap (λ (x : Item). x.pass) (i.is ∙ sym j.is))
      (distinct-range 0 count)
