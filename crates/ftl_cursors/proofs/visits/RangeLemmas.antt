-- The first entry of a range, in either order; entries of a list by a range of places.
use Rattle.std.proofs.Common.{◌≡◌, ℕ, zero, suc, ◌+◌, ◌-◌, ◌<◌, ◌≤◌, List, [], ◌∷◌, ◌++◌, drop, get_or, length, map, take, reverse, refl, sym, ◌∙◌, ap, arith, length-drop, drop-cons}
use Rattle.std.proofs.Common.{subst}
use Rattle.std.specs.List.{range_with_len}
use Rattle.std.proofs.Math.Seq.{take-append_seam}
use Rattle.std.proofs.lemmas.List.{length-append, reverse-append}
use Rattle.ftl_items.specs.stage_items.Cut.{subtree}
use Rattle.ftl_model.specs.layout.Path.{Has, Path, at, node_at, number_of, preorder, size_at, top}
use Rattle.ftl_model.specs.layout.Tree.{Forest, below_of}
use Rattle.ftl_model.proofs.layout.Numbering.{length-nodes_below}
use Rattle.ftl_model.proofs.layout.Standing.{stands}
use Rattle.ftl_cursors.specs.visits.NodeRanges.{IsFirstNode}
use Rattle.ftl_cursors.specs.declared.visits.nodes.NodeOrder.{NodeOrder}
use Rattle.ftl_cursors.specs.declared.visits.nodes.NodeOrder.TheVariants.{Reverse}
use Rattle.ftl_cursors.specs.declared.visits.nodes.NodeRange.{NodeRange}

-- a range that is not empty has its first number in front
pub range_first : (first count : ℕ) → 0 < count
    → range_with_len first count ≡ first ∷ range_with_len (first + 1) (count - 1)
range_first first count some =
    ap (range_with_len first) (let z : count ≡ suc (count - 1) = omega arith in z)

-- and its last number behind
range_snoc : (first count : ℕ) → range_with_len first (suc count) ≡ range_with_len first count ++ (first + count) ∷ []
range_snoc first zero = ap (λ n. n ∷ []) (let z : first ≡ first + 0 = omega arith in z)
range_snoc first (suc count) =
    ap (λ ns. first ∷ ns) (range_snoc (first + 1) count
    ∙ ap (λ n. range_with_len (first + 1) count ++ n ∷ [])
    (let z : (first + 1) + count ≡ first + suc count = omega arith in z))

-- so the other way round it comes first
pub range_last : (first count : ℕ) → 0 < count
    → reverse (range_with_len first count) ≡ (first + (count - 1)) ∷ reverse (range_with_len first (count - 1))
range_last first count some =
    ap (λ n. reverse (range_with_len first n)) (let z : count ≡ suc (count - 1) = omega arith in z)
    ∙ ap reverse (range_snoc first (count - 1))
    ∙ reverse-append (range_with_len first (count - 1)) ((first + (count - 1)) ∷ [])

-- the entries at a range of places are a part of the list
entries_in_range : {X : Type 0} (xs : List X) (d : X) (first count : ℕ) → first + count ≤ length xs
    → map (λ n. get_or xs n d) (range_with_len first count) ≡ take count (drop first xs)
entries_in_range xs d first zero within = refl
entries_in_range xs d first (suc count) within =
    let here : first < length xs = omega arith in
    ap (λ ys. get_or xs first d ∷ ys)
    (entries_in_range xs d (first + 1) count (let z : (first + 1) + count ≤ length xs = omega arith in z)
    ∙ ap (λ n. take count (drop n xs)) (let z : first + 1 ≡ suc first = omega arith in z))
    ∙ ap (take (suc count)) (sym (drop-cons xs first d here))

-- the nodes of the tree at a node stand from its number on
pub subtree_nodes : (t : Forest) (p : Path) → Has t p
    → map (node_at t) (range_with_len (number_of t p) (size_at t p)) ≡ subtree t p
subtree_nodes t p there =
    let s = stands t p there in
    let long : length (subtree t p) ≡ size_at t p = ap suc (length-nodes_below p (λ c. 0) (below_of (at t p))) in
    let cut = length-drop (number_of t p) (preorder t) in
    let parts = ap length s.nodes ∙ length-append (subtree t p) s.rest in
    let within : number_of t p + size_at t p ≤ length (preorder t) = omega arith in
    entries_in_range (preorder t) top (number_of t p) (size_at t p) within
    ∙ ap (take (size_at t p)) s.nodes
    ∙ ap (λ n. take n (subtree t p ++ s.rest)) (sym long)
    ∙ take-append_seam (subtree t p) s.rest

-- the last node is the first the other way round
pub last_is_first : (order : NodeOrder) (nodes : NodeRange) → order ≡ Reverse → 0 < nodes.count
    → IsFirstNode order nodes (record { first = nodes.first; count = nodes.count - 1 })
    (nodes.first + (nodes.count - 1))
last_is_first order nodes is some =
    subst
    (λ o. IsFirstNode o nodes (record { first = nodes.first; count = nodes.count - 1 })
    (nodes.first + (nodes.count - 1)))
    (sym is)
    (record {
      is = range_last nodes.first nodes.count some;
      known = omega arith;
      within = omega arith;
    })
