-- The nodes of an item as a range, and what their steps compute.
use Rattle.std.proofs.Common.{◌≡◌, ℕ, ◌+◌, ◌<◌, ◌≤◌, Bool, true, false, if◌then◌else◌, List, [], ◌∷◌, ◌++◌, flat_map, length, map, reverse, Contains, refl, sym, ◌∙◌, ap, arith, length-drop}
use Rattle.std.specs.List.{range_with_len}
use Rattle.std.proofs.lemmas.List.{length-append, map-append}
use Rattle.ftl_model.proofs.lists.Elements.{in_range_from}
use Rattle.ftl_items.specs.stage_items.Cut.{nodes_by, subtree}
use Rattle.ftl_items.specs.stage_items.Visits.{visit}
use Rattle.ftl_items.proofs.stage_items.Reverses.{in_reverse, reverse-cons}
use Rattle.ftl_model.specs.layout.AttributeGrammar.{AttributeGrammar}
use Rattle.ftl_model.specs.layout.Path.{Has, Path, at, node_at, number_of, preorder, size_at}
use Rattle.ftl_model.specs.layout.Tree.{Forest, below_of, size}
use Rattle.ftl_model.specs.layout.TreeOf.{IsTreeOf}
use Rattle.ftl_model.proofs.layout.Numbering.{length-nodes_below, length-preorder}
use Rattle.ftl_model.proofs.layout.Standing.{node_at-number_of, number_of-lt, stands}
use Rattle.ftl_order.specs.orders.Lawful.{IsLawful}
use Rattle.ftl_schedule.specs.declared.syntax.kind.PassKind.TheVariants.{BottomUp, TopDown}
use Rattle.ftl_tree.proofs.rows.Access.{size-one}
use Rattle.ftl_cursors.specs.visits.ItemSteps.{node_count_by, targets_by}
use Rattle.ftl_cursors.specs.declared.visits.nodes.NodeOrder.TheVariants.{Preorder, Reverse}
use Rattle.ftl_cursors.proofs.visits.RangeLemmas.{subtree_nodes}
use Rattle.ftl_cursors.proofs.visits.TargetLemmas.{targets_of_nodes}

map-reverse : {X Y : Type 0} (f : X → Y) (xs : List X) → map f (reverse xs) ≡ reverse (map f xs)
map-reverse f [] = refl
map-reverse f (x ∷ xs) =
    ap (map f) (reverse-cons x xs)
    ∙ map-append f (reverse xs) (x ∷ [])
    ∙ ap (λ ys. ys ++ f x ∷ []) (map-reverse f xs)
    ∙ sym (reverse-cons (f x) (map f xs))

-- the nodes of the item that begins at a node
pub nodes_are : (is_whole : Path → Bool) (t : Forest) (p : Path) → Has t p
    → map (node_at t) (range_with_len (number_of t p) (node_count_by is_whole t p)) ≡ nodes_by is_whole t p
nodes_are is_whole t p there =
    elim (is_whole p) as
    (λ b. map (node_at t) (range_with_len (number_of t p) (if b then size_at t p else 1))
    ≡ (if b then subtree t p else p ∷ [])) [
      | true ↦ subtree_nodes t p there
      | false ↦ ap (λ q. q ∷ []) (node_at-number_of t p there)
    ]

module _ (g : AttributeGrammar) (t : Forest) (fits : IsTreeOf g t) (is_whole : Path → Bool) (p : Path)
    (there : Has t p) where
  pub nodes_within : number_of t p + node_count_by is_whole t p ≤ size t
  nodes_within =
      let s = stands t p there in
      let long = length-nodes_below p (λ c. 0) (below_of (at t p)) in
      let cut = length-drop (number_of t p) (preorder t) in
      let parts = ap length s.nodes ∙ length-append (subtree t p) s.rest in
      let all = length-preorder t in
      let one = size-one g t fits in
      let less = number_of-lt t p there in
      elim (is_whole p) as (λ b. number_of t p + (if b then size_at t p else 1) ≤ size t) [
        | true ↦ omega arith
        | false ↦ omega arith
      ]

  in_tree : (n : ℕ) → Contains (range_with_len (number_of t p) (node_count_by is_whole t p)) n → n < size t
  in_tree n among =
      let high = (in_range_from (number_of t p) (node_count_by is_whole t p) n among).1 in
      let within = nodes_within in
      (let z : n < size t = omega arith in z)

  module _ (law : IsLawful g) (attributes : List ℕ) where
    pub topdown_targets : targets_by g is_whole t TopDown attributes Preorder p
        ≡ flat_map (visit g t attributes) (nodes_by is_whole t p)
    topdown_targets =
        targets_of_nodes g law TopDown (λ e. cc) attributes t fits
        (range_with_len (number_of t p) (node_count_by is_whole t p)) in_tree
        ∙ ap (flat_map (visit g t attributes)) (nodes_are is_whole t p there)

    pub bottomup_targets : targets_by g is_whole t BottomUp attributes Reverse p
        ≡ flat_map (visit g t attributes) (reverse (nodes_by is_whole t p))
    bottomup_targets =
        let range = range_with_len (number_of t p) (node_count_by is_whole t p) in
        targets_of_nodes g law BottomUp (λ e. cc) attributes t fits (reverse range)
        (λ n among. in_tree n (in_reverse range n among))
        ∙ ap (flat_map (visit g t attributes)) (map-reverse (node_at t) range ∙ ap reverse (nodes_are is_whole t p there))
