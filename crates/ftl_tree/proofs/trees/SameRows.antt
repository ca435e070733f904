-- Trees that are the same but for their inputs have the same rows.
use Rattle.std.proofs.Common.{◌≡◌, ℕ, ◌+◌, ◌<◌, List, get_or, map, refl, sym, ap, ap₂, ◌∙◌, subst, arith}
use mathlib.Core.Path.{fun_ext}
use Rattle.ftl_model.specs.layout.AttributeGrammar.{AttributeGrammar}
use Rattle.ftl_model.specs.layout.Inputs.{IsSameButInputs}
use Rattle.ftl_model.specs.layout.Path.{Path, child_at, class_at, down, kid_at, kids_at, node_at, number_of, preorder, size_at}
use Rattle.ftl_model.specs.layout.Path.{top}
use Rattle.ftl_model.specs.layout.Tree.{Forest, size}
use Rattle.ftl_model.proofs.layout.SameTrees.{same_classes, same_kids, same_numbers, same_preorder, same_sizes}
use Rattle.ftl_tree.specs.rows.KidRuns.{HasRuns, IsChildOf, run_start}
use Rattle.ftl_tree.specs.rows.Rows.{parent_number, row_of, rows_of, sizes_of}
use Rattle.ftl_tree.specs.declared.rows.row.NodeRow.{NodeRow}

module _ (t u : Forest) (same : IsSameButInputs t u) where
  parent-same : (p : Path) → parent_number t p ≡ parent_number u p
  parent-same top = refl
  parent-same (down c k p) = same_numbers t u same p

  row-same : (p : Path) → row_of t p ≡ row_of u p
  row-same p =
      ap₂ (λ (k n : ℕ). let row : NodeRow = record {
        class = k;
        parent = n;
        place = record {
          child = child_at p;
          kid =
              kid_at p;
        };
      } in row)
      (same_classes t u same p) (parent-same p)

  pub rows-same : rows_of t ≡ rows_of u
  rows-same =
      ap (λ f. map f (preorder t)) (fun_ext row-same) ∙ ap (map (row_of u)) (same_preorder t u same)

  pub sizes-same : sizes_of t ≡ sizes_of u
  sizes-same =
      ap (λ f. map f (preorder t)) (fun_ext (same_sizes t u same)) ∙ ap (map (size_at u)) (same_preorder t u same)

  node-same : (n : ℕ) → node_at t n ≡ node_at u n
  node-same n = ap (λ ps. get_or ps n top) (same_preorder t u same)

  class-same : (n : ℕ) → class_at t (node_at t n) ≡ class_at u (node_at u n)
  class-same n = same_classes t u same (node_at t n) ∙ ap (class_at u) (node-same n)

  pub runs-same : (g : AttributeGrammar) (slots starts kids : List ℕ) → size t ≡ size u
      → HasRuns g t slots starts kids → HasRuns g u slots starts kids
  runs-same g slots starts kids long has = λ n c at.
      let before : IsChildOf g t n c =
      record {
        known = omega (arith, at.known, long);
        declared = subst (λ k. c < g.child_count k) (sym
            (class-same n)) at.declared;
      } in
      let run = has n c before in
      let count : kids_at t (node_at t n) c ≡ kids_at u (node_at u n) c =
      ap (λ f. f c) (same_kids t u same (node_at t n)) ∙ ap (λ p. kids_at u p c) (node-same n) in
      record {
        within = run.within;
        end = run.end;
        count = run.count ∙ ap (λ m. run_start slots starts n c + m) count;
        numbers = λ k few. run.numbers k (omega (arith, few, count)) ∙ same_numbers t u same (down c k (node_at t n))
            ∙ ap (λ p. number_of u (down c k p)) (node-same n);
      }
