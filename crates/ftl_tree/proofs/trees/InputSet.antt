-- The fields of a tree with another number for an input.
use Rattle.std.proofs.Common.{◌≡◌, ℕ, ◌+◌, ◌<◌, List, ℤ, pos, length, get_or, sym, ap, ◌∙◌, subst, arith}
use Rattle.std.specs.Prelude.{slice_set}
use Rattle.ftl_model.specs.lists.Lists.{place_in}
use Rattle.ftl_model.proofs.lists.Places.{place_within}
use Rattle.ftl_model.specs.layout.AttributeGrammar.{AttributeGrammar, class_inputs}
use Rattle.ftl_model.specs.layout.Inputs.{IsSameButInputs}
use Rattle.ftl_model.specs.layout.Path.{class_at, inputs_at, node_at}
use Rattle.ftl_model.specs.layout.Tree.{Forest, size}
use Rattle.ftl_model.specs.layout.TreeOf.{IsInput, IsTreeOf}
use Rattle.ftl_model.proofs.layout.Fits.{fits_at}
use Rattle.ftl_model.proofs.layout.SameTrees.{same_instance_count}
use Rattle.ftl_tree.specs.rows.KidRuns.{HasRuns}
use Rattle.ftl_tree.specs.rows.Rows.{AreNodesOf, AreRowsOf, all_inputs, input_width, sizes_of, starts_by}
use Rattle.ftl_tree.specs.declared.rows.row.NodeRow.{NodeRow}
use Rattle.ftl_tree.proofs.rows.Access.{has_at}
use Rattle.ftl_tree.proofs.rows.Inputs.{before_node, input_stands}
use Rattle.ftl_model.specs.layout.WithInput.{IsInputOf, changed, with_input}
use Rattle.ftl_tree.proofs.trees.Changed.{all_inputs-changed, keeps_lengths, keeps_width, same-changed, size-changed}
use Rattle.ftl_tree.proofs.trees.Changed.{tree-changed}
use Rattle.ftl_tree.proofs.trees.SameRows.{rows-same, runs-same, sizes-same}

module _ (g : AttributeGrammar) (t : Forest) (n a : ℕ) (z : ℤ) (at : IsInputOf g t n a) where
  abbrev place : ℕ
  place = place_in (class_inputs g (class_at t (node_at t n))) a

  abbrev after : Forest
  after = with_input g t n a z

  pub room : place < length (inputs_at t (node_at t n))
  room =
      omega (
        arith,
        place_within (class_inputs g (class_at t (node_at t n))) a at.input,
        (fits_at g t (node_at t n) at.is_tree (has_at g t n at.is_tree at.known)).class.count,
      )

  pub same : IsSameButInputs t after
  same = same-changed (changed n place z) (keeps_lengths n place z) 0 t

  pub size_is : size after ≡ size t
  size_is = size-changed (changed n place z) 0 t

  pub sizes_are : sizes_of t ≡ sizes_of after
  sizes_are = sizes-same t after same

  module _ (fits : IsInput g.greatest z) (rows : List NodeRow) (sizes : List ℕ) (inputs : List ℤ)
      (are : AreRowsOf g t rows sizes inputs) where
    abbrev is_tree : IsTreeOf g after
    is_tree = tree-changed (changed n place z) g (keeps_lengths n place z)
        (keeps_width n place z g.greatest fits) t at.is_tree

    pub nodes_are : (starts : List ℕ) (first e : ℕ) → starts ≡ starts_by (input_width g) rows
        → first ≡ get_or starts n e
        → AreNodesOf g after rows (slice_set inputs (first + place) z)
    nodes_are starts first e begin is = (
      record {
        is_tree = is_tree;
        rows_are = are.rows_are ∙ rows-same t after same;
        few_nodes = omega (arith, are.few_nodes, size_is);
        few_instances = omega (arith, are.few_instances, same_instance_count t after same g);
      },
      ap (λ xs. slice_set xs (first + place) z) are.inputs_are
          ∙ ap (λ m. slice_set (all_inputs t) (m + place) z) (is
          ∙ before_node g t rows sizes inputs starts n e are begin at.known)
          ∙ sym (all_inputs-changed n place z g t at.is_tree is_tree at.known room),
    )

  pub runs_are : (slots starts kids : List ℕ) → HasRuns g t slots starts kids → HasRuns g after slots starts kids
  runs_are slots starts kids has = runs-same t after same g slots starts kids (sym size_is) has

  -- the place of the number is one in the list
  pub set_within : (rows : List NodeRow) (sizes : List ℕ) (inputs : List ℤ) (starts : List ℕ) (first e : ℕ)
      → AreRowsOf g t rows sizes inputs → starts ≡ starts_by (input_width g) rows → first ≡ get_or starts n e
      → first + place < length inputs
  set_within rows sizes inputs starts first e are begin is =
      let stand = input_stands g t rows sizes inputs starts n place e (pos 0) are begin at.known room in
      subst (λ m. m + place < length inputs) (sym is) stand.within
