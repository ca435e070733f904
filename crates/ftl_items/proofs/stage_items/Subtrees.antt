-- The list of a tree's nodes has those at or below its first one, each once.
use Rattle.std.proofs.Common.{◌≡◌, ℕ, suc, ◌+◌, ◌<◌, sym, ◌∙◌, ap, subst, inl, inr, ⊎_elim, arith, List, length, get_or, map, Contains}
use Rattle.std.specs.List.{range_with_len}
use Rattle.std.proofs.lemmas.List.{get_or_default}
use Rattle.ftl_model.specs.lists.Lists.{AreDistinct}
use Rattle.ftl_model.proofs.lists.Elements.{distinct-range, distinct_by_number, each_in, here_in, in_cases, in_range_from, later_in, range_has}
use Rattle.ftl_model.proofs.lists.Rising.{Rising, in_map, map_has}
use Rattle.ftl_model.specs.layout.Path.{Above, AtOrAbove, Has, Path, at, nodes_below, number_of, preorder, top}
use Rattle.ftl_model.specs.layout.Tree.{Forest, IsTree, below_of, size}
use Rattle.ftl_model.proofs.layout.Numbering.{has-nodes_below, left_all, length-preorder, number_of-node_at, numbers-nodes_below}
use Rattle.ftl_model.proofs.layout.Standing.{node_at-number_of}
use Rattle.ftl_order.proofs.orders.Ranges.{above_range, range_above}
use Rattle.ftl_order.proofs.orders.SequenceOrder.{top_above}
use Rattle.ftl_items.specs.stage_items.Cut.{subtree}
use Rattle.ftl_items.proofs.stage_items.Ahead.{rising-range, rising_by_map}
use Rattle.ftl_items.proofs.stage_items.Pieces.{distinct_by_map}

abbrev nodes_under : Forest → Path → List Path
nodes_under t p = nodes_below p (λ c. 0) (below_of (at t p))

numbers_under : (t : Forest) (p : Path)
    → map (number_of t) (nodes_under t p) ≡ range_with_len (suc (number_of t p + 0)) (size (below_of (at t p)))
numbers_under t p = numbers-nodes_below t p (λ c. 0) (below_of (at t p)) 0 (left_all t p)

has_under : (t : Forest) (p q : Path) → Contains (nodes_under t p) q → Has t q
has_under t p q h =
    each_in (Has t) (nodes_under t p) (has-nodes_below t p (λ c. 0) (below_of (at t p)) 0 (left_all t p)) q h

under_above : (t : Forest) (p q : Path) → Has t p → Contains (nodes_under t p) q → Above p q
under_above t p q hp h =
    let range =
    in_range_from (suc (number_of t p + 0)) (size (below_of (at t p))) (number_of t q)
    (subst (λ ns. Contains ns (number_of t q)) (numbers_under t p)
    (map_has (number_of t) (nodes_under t p) q h)) in
    let low = range.0 in
    let high = range.1 in
    range_above t p q hp (has_under t p q h) (omega (arith, low), omega (arith, high))

above_under : (t : Forest) (p q : Path) → Has t q → Above p q → Contains (nodes_under t p) q
above_under t p q hq above =
    let range = above_range t p q hq above in
    let first = range.0 in
    let last = range.1 in
    let m =
    in_map (number_of t) (nodes_under t p) (number_of t q)
    (subst (λ ns. Contains ns (number_of t q)) (sym (numbers_under t p))
    (range_has (suc (number_of t p + 0)) (size (below_of (at t p))) (number_of t q) (omega (arith, first))
    (omega (arith, last)))) in
    let same : m.from ≡ q =
    sym (node_at-number_of t m.from (has_under t p m.from m.there))
    ∙ ap (λ n. get_or (preorder t) n top) m.is
    ∙ node_at-number_of t q hq in
    subst (Contains (nodes_under t p)) same m.there

pub in_subtree : (t : Forest) (p q : Path) → Has t p → Contains (subtree t p) q → AtOrAbove p q × Has t q
in_subtree t p q hp h =
    ⊎_elim (λ same. (inl same, subst (Has t) same hp))
    (λ later. (inr (under_above t p q hp later), has_under t p q later)) (in_cases p q (nodes_under t p) h)

pub subtree_has : (t : Forest) (p q : Path) → Has t q → AtOrAbove p q → Contains (subtree t p) q
subtree_has t p q hq h =
    ⊎_elim (λ same. subst (Contains (subtree t p)) same (here_in p (nodes_under t p)))
    (λ above. later_in p q (nodes_under t p) (above_under t p q hq above)) h

pub in_preorder : (t : Forest) (p : Path) → IsTree t → Contains (preorder t) p → Has t p
in_preorder t p is h = (in_subtree t top p is h).1

pub preorder_has : (t : Forest) (p : Path) → Has t p → Contains (preorder t) p
preorder_has t p h = subtree_has t top p h (top_above p)

pub distinct-preorder : (t : Forest) → AreDistinct (preorder t)
distinct-preorder t =
    distinct_by_number (number_of t) (preorder t) 0
    (λ k d below. number_of_entry k d below ∙ (let z : k ≡ 0 + k = omega arith in z))
  where
    number_of_entry : (k : ℕ) (d : Path) → k < length (preorder t) → number_of t (get_or (preorder t) k d) ≡ k
    number_of_entry k d below =
        ap (number_of t) (get_or_default (preorder t) k d top below)
        ∙ number_of-node_at t k (let e = length-preorder t in omega (arith, e, below))

pub distinct-subtree : (t : Forest) (p : Path) → Has t p → AreDistinct (subtree t p)
distinct-subtree t p h = (
  (λ again.
      let r = above_range t p p h (under_above t p p h again) in
      let less = r.0 in
      let z : ⊥ = omega (arith, less) in
      z),
  distinct_by_map (number_of t) (nodes_under t p)
      (subst AreDistinct (sym (numbers_under t p))
      (distinct-range (suc (number_of t p + 0)) (size (below_of (at t p))))),
)

pub rising-subtree : (t : Forest) (p : Path) → Has t p
    → Rising (λ a b. number_of t a < number_of t b) (subtree t p)
rising-subtree t p h = (
  (λ q there.
      (above_range t p q (has_under t p q there) (under_above t p q h there)).0),
  rising_by_map (number_of t) (nodes_under t p)
      (subst (Rising (λ k l. k < l)) (sym (numbers_under t p))
      (rising-range (suc (number_of t p + 0)) (size (below_of (at t p))))),
)
