-- The tree with every input 0: its rows, and its inputs.
use Rattle.std.proofs.Common.{◌≡◌, ℕ, suc, ◌+◌, List, [], ◌∷◌, ◌++◌, ℤ, pos, length, get_or, map, sum_by, refl, sym, ap}
use Rattle.std.proofs.Common.{◌∙◌, arith}
use Rattle.std.specs.Prelude.{replicate}
use Rattle.std.specs.List.{AllByRecursion}
use Rattle.std.proofs.lemmas.Int.{ints}
use Rattle.std.proofs.lemmas.List.{length-map, take_all}
use Rattle.std.proofs.lemmas.List.Concat.{length-flat_map}
use Rattle.std.proofs.lemmas.List.Sums.{sum_by-cons}
use Rattle.ftl_model.specs.layout.AttributeGrammar.{AttributeGrammar}
use Rattle.ftl_model.specs.layout.Path.{Path, class_at, inputs_at, preorder}
use Rattle.ftl_model.specs.layout.Shape.{Shape, shapes}
use Rattle.ftl_model.specs.layout.Tree.{Forest, size}
use Rattle.ftl_model.specs.layout.TreeOf.{AreInputs, IsInput, IsTreeOf}
use Rattle.ftl_model.proofs.layout.Numbering.{has-preorder, length-preorder}
use Rattle.ftl_model.proofs.layout.SameTrees.{same_instance_count}
use Rattle.ftl_tree.specs.declared.rows.row.NodeRow.{NodeRow}
use Rattle.ftl_tree.specs.rows.Rows.{AreNodesOf, AreTreeRows, all_inputs, input_width, row_of, starts_by}
use Rattle.ftl_tree.proofs.rows.Access.{length-by_node, size-one}
use Rattle.ftl_tree.proofs.rows.Shapes.{HasInputs, has_inputs, there}
use Rattle.ftl_tree.proofs.rows.Starts.{first_by, length-starts, start_at}
use Rattle.ftl_tree.specs.trees.Bare.{all_zero, bare}
use Rattle.ftl_tree.proofs.trees.Changed.{inputs_in, inputs_of-shapes, renumbered, same-changed, shapes-changed, size-changed}
use Rattle.ftl_tree.proofs.trees.Changed.{tree-changed}
use Rattle.ftl_tree.proofs.trees.SameRows.{rows-same}

long : (m : ℕ) (xs : List ℤ) → length (all_zero m xs) ≡ length xs
long m xs = length-map xs (λ (z : ℤ). pos 0)

zero_fits : (greatest : ℕ) → IsInput greatest (pos 0)
zero_fits greatest = (omega (arith, ints), omega (arith, ints))

fit : (greatest m : ℕ) (xs : List ℤ) → AreInputs greatest xs → AreInputs greatest (all_zero m xs)
fit greatest m [] are = tt
fit greatest m (x ∷ xs) are = (zero_fits greatest, fit greatest m xs are.1)

-- zeros, and more of them
zeros-more : (xs : List ℤ) (n : ℕ)
    → map (λ (z : ℤ). pos 0) xs ++ replicate n (pos 0) ≡ replicate (length xs + n) (pos 0)
zeros-more [] n = ap (λ m. replicate m (pos 0)) (let z : n ≡ 0 + n = omega arith in z)
zeros-more (x ∷ xs) n =
    ap (λ l. pos 0 ∷ l) (zeros-more xs n)
    ∙ ap (λ m. replicate m (pos 0)) (let z : suc (length xs + n) ≡ suc (length xs) + n = omega arith in z)

zeros-renumbered : (m : ℕ) (ss : List Shape)
    → inputs_in (renumbered all_zero m ss) ≡ replicate (sum_by (λ (s : Shape). length s.inputs) ss) (pos 0)
zeros-renumbered m [] = refl
zeros-renumbered m (s ∷ ss) =
    ap (λ l. all_zero m s.inputs ++ l) (zeros-renumbered (suc m) ss)
    ∙ zeros-more s.inputs (sum_by (λ (s : Shape). length s.inputs) ss)
    ∙ ap (λ n. replicate n (pos 0)) (sym (sum_by-cons (λ (s : Shape). length s.inputs) s ss))

module _ (g : AttributeGrammar) (t : Forest) (is : IsTreeOf g t) where
  pub bare-tree : IsTreeOf g (bare t)
  bare-tree = tree-changed all_zero g long (fit g.greatest) t is

  bare-inputs : all_inputs (bare t) ≡ replicate (length (all_inputs t)) (pos 0)
  bare-inputs =
      inputs_of-shapes g (bare t) bare-tree ∙ ap inputs_in (shapes-changed all_zero 0 t)
      ∙ zeros-renumbered 0 (shapes t)
      ∙ ap (λ n. replicate n (pos 0))
      (sym (ap length (inputs_of-shapes g t is) ∙ length-flat_map (λ (s : Shape). s.inputs) (shapes t)))

  widths : (ps : List Path) → AllByRecursion (HasInputs g t) ps
      → first_by (input_width g) t ps ≡ sum_by (λ p. length (inputs_at t p)) ps
  widths [] h = refl
  widths (p ∷ ps) h =
      sum_by-cons (λ p. input_width g (class_at t p)) p ps
      ∙ (omega (arith, h.0, widths ps h.1))
      ∙ sym (sum_by-cons (λ p. length (inputs_at t p)) p ps)

  -- so many zeros as the last start says
  pub zeros_are : (rows : List NodeRow) (starts : List ℕ) (n e : ℕ) → AreTreeRows g t rows
      → starts ≡ starts_by (input_width g) rows → n ≡ length rows
      → replicate (get_or starts n e) (pos 0) ≡ all_inputs (bare t)
  zeros_are rows starts n e are begin end =
      let ps = preorder t in
      let nodes : length ps ≡ size t = length-preorder t ∙ sym (size-one g t is) in
      let last : n ≡ size t = end ∙ length-by_node g t (row_of t) rows is are.rows_are in
      let count : get_or starts n e ≡ length (all_inputs t) =
      start_at g t rows (input_width g) starts n e is are.rows_are begin (omega (arith, last))
      ∙ ap (first_by (input_width g) t) (take_all n ps (omega (arith, nodes, last)))
      ∙ widths ps (has_inputs g t ps is (has-preorder t (there g t is)))
      ∙ sym (length-flat_map (inputs_at t) ps) in
      ap (λ m. replicate m (pos 0)) count ∙ sym bare-inputs

  pub starts_long : (rows : List NodeRow) (starts : List ℕ) → AreTreeRows g t rows
      → starts ≡ starts_by (input_width g) rows → length starts ≡ suc (length rows)
  starts_long rows starts are begin =
      length-starts g t rows (input_width g) starts is are.rows_are begin
      ∙ ap suc (sym (length-by_node g t (row_of t) rows is are.rows_are))

  pub bare_nodes : (rows : List NodeRow) (inputs : List ℤ) → AreTreeRows g t rows → inputs ≡ all_inputs (bare t)
      → AreNodesOf g (bare t) rows inputs
  bare_nodes rows inputs are zeros = (
    record {
      is_tree = bare-tree;
      rows_are = are.rows_are ∙ rows-same t (bare t) (same-changed all_zero long 0 t);
      few_nodes = omega (arith, are.few_nodes, size-changed all_zero 0 t);
      few_instances = omega (
        arith,
        are.few_instances,
        same_instance_count t (bare t)
            (same-changed all_zero long 0 t) g,
      );
    },
    zeros,
  )
