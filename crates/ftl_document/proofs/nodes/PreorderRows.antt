-- The rows and the inputs of a tree, by recursion over the tree.
use Rattle.std.proofs.Common.{◌≡◌, ℕ, suc, ◌+◌, refl, ap, ap₂, ◌∙◌, arith, List, [], ◌∷◌, ◌++◌, ℤ, map}
use Rattle.std.proofs.Common.{append_assoc}
use Rattle.std.specs.List.{flat_map}
use Rattle.std.proofs.lemmas.List.{map-append}
use Rattle.std.proofs.lemmas.Grind.{flat_map-append}
use Rattle.ftl_model.specs.layout.Path.{Path, down, inputs_at, nodes_below, number_of, one_more}
use Rattle.ftl_model.specs.layout.Path.{top}
use Rattle.ftl_model.specs.layout.Tree.{Forest, below_of, class_of, inputs_of, none, size, tree}
use Rattle.ftl_model.proofs.layout.Numbering.{Left, at-left, left_all, left_below, left_next, number-left}
use Rattle.ftl_tree.specs.declared.rows.row.NodeRow.{NodeRow}
use Rattle.ftl_tree.specs.rows.Rows.{all_inputs, row_of, rows_of}
use Rattle.ftl_document.specs.nodes.NodeRows.{node_row}

-- the rows of trees below the node `n`, where so many nodes come before and so many kids of each child have come
abbrev pub forest_rows : (n before : ℕ) → (ℕ → ℕ) → Forest → List NodeRow
forest_rows n m seen none = []
forest_rows n m seen (tree k c i below beside) =
    node_row k n c (seen c)
    ∷ (forest_rows m (suc m) (λ d. 0) below ++ forest_rows n (suc m + size below) (one_more c seen) beside)

-- their inputs
abbrev pub forest_inputs : Forest → List ℤ
forest_inputs none = []
forest_inputs (tree k c i below beside) = i ++ (forest_inputs below ++ forest_inputs beside)

module _ (t : Forest) where
  rows-left : (p : Path) (seen : ℕ → ℕ) (f : Forest) (passed n m : ℕ) → Left t p seen f passed → number_of t p ≡ n
      → m ≡ suc (n + passed) → map (row_of t) (nodes_below p seen f) ≡ forest_rows n m seen f
  rows-left p seen none passed n m h here next = refl
  rows-left p seen (tree k d i b s) passed n m h here next =
      let q = down d (seen d) p in
      let at = at-left t p seen passed k d i b s h in
      let number : number_of t q ≡ m = number-left t p seen passed k d i b s h ∙ (omega (arith, here, next)) in
      let first : row_of t q ≡ node_row k n d (seen d) =
      ap₂ (λ c m. node_row c m d (seen d)) (ap class_of at) here in
      map-append (row_of t) (q ∷ nodes_below q (λ c. 0) b) (nodes_below p (one_more d seen) s)
      ∙ ap₂ (λ xs ys. xs ++ ys)
      (ap₂ (λ x xs. x ∷ xs) first
      (rows-left q (λ c. 0) b 0 m (suc m) (left_below t p seen passed k d i b s h) number (omega arith)))
      (rows-left p (one_more d seen) s (passed + suc (size b)) n (suc m + size b)
      (left_next t p seen passed k d i b s h) here (omega (arith, next)))

  inputs-left : (p : Path) (seen : ℕ → ℕ) (f : Forest) (passed : ℕ) → Left t p seen f passed
      → flat_map (inputs_at t) (nodes_below p seen f) ≡ forest_inputs f
  inputs-left p seen none passed h = refl
  inputs-left p seen (tree k d i b s) passed h =
      let q = down d (seen d) p in
      let here : inputs_at t q ≡ i = ap inputs_of (at-left t p seen passed k d i b s h) in
      flat_map-append (inputs_at t) (q ∷ nodes_below q (λ c. 0) b) (nodes_below p (one_more d seen) s)
      ∙ ap₂ (λ xs ys. xs ++ ys)
      (ap₂ (λ xs ys. xs ++ ys) here (inputs-left q (λ c. 0) b 0 (left_below t p seen passed k d i b s h)))
      (inputs-left p (one_more d seen) s (passed + suc (size b)) (left_next t p seen passed k d i b s h))
      ∙ append_assoc i (forest_inputs b) (forest_inputs s)

  -- the root's row stands first
  pub rows_by_tree : rows_of t ≡ node_row (class_of t) 0 0 0 ∷ forest_rows 0 1 (λ c. 0) (below_of t)
  rows_by_tree =
      ap (λ xs. node_row (class_of t) 0 0 0 ∷ xs)
      (rows-left top (λ c. 0) (below_of t) 0 0 1 (left_all t top) refl refl)

  pub inputs_by_tree : all_inputs t ≡ inputs_of t ++ forest_inputs (below_of t)
  inputs_by_tree = ap (λ xs. inputs_of t ++ xs) (inputs-left top (λ c. 0) (below_of t) 0 (left_all t top))
