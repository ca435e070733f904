-- The nodes of an item are a range of preorder numbers.
use Rattle.std.proofs.Common.{◌≡◌, suc, ◌+◌, Bool, true, false, if◌then◌else◌, refl, sym, ◌∙◌, ap, arith, [], ◌∷◌, length, map}
use Rattle.std.specs.List.{range_with_len}
use Rattle.ftl_model.specs.layout.Path.{Path, at, nodes_below, number_of}
use Rattle.ftl_model.specs.layout.Tree.{Forest, below_of, size}
use Rattle.ftl_model.proofs.layout.Numbering.{left_all, length-nodes_below, numbers-nodes_below}
use Rattle.ftl_items.specs.stage_items.Cut.{nodes_by, subtree}

module _ (t : Forest) (p : Path) where
  numbers-subtree : map (number_of t) (subtree t p) ≡ range_with_len (number_of t p) (length (subtree t p))
  numbers-subtree =
      let below = nodes_below p (λ c. 0) (below_of (at t p)) in
      let start : suc (number_of t p + 0) ≡ number_of t p + 1 = omega arith in
      ap (λ ns. number_of t p ∷ ns)
      (numbers-nodes_below t p (λ c. 0) (below_of (at t p)) 0 (left_all t p)
      ∙ ap (λ n. range_with_len n (size (below_of (at t p)))) start
      ∙ ap (range_with_len (number_of t p + 1)) (sym (length-nodes_below p (λ c. 0) (below_of (at t p)))))

  pub numbers-nodes : (is_whole : Path → Bool)
      → map (number_of t) (nodes_by is_whole t p) ≡ range_with_len (number_of t p) (length (nodes_by is_whole t p))
  numbers-nodes is_whole =
      elim (is_whole p) as
      (λ b. map (number_of t) (if b then subtree t p else p ∷ [])
      ≡ range_with_len (number_of t p) (length (if b then subtree t p else p ∷ [])))
      [ true ↦ numbers-subtree | false ↦ refl ]
