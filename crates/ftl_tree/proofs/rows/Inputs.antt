-- Where the inputs of a node stand among the inputs of all.
use Rattle.std.proofs.Common.{◌≡◌, ℕ, zero, suc, ◌+◌, ◌<◌, List, [], ◌∷◌, ℤ, length, get_or, take, refl, sym, ◌∙◌, arith, sum_by}
use Rattle.std.specs.List.{flat_map, AllByRecursion}
use Rattle.std.proofs.lemmas.List.Concat.{get_or-flat_map, length-flat_map}
use Rattle.std.proofs.lemmas.List.Sums.{sum_by-cons}
use Rattle.ftl_model.proofs.lists.Places.{piece_within}
use Rattle.ftl_model.specs.layout.AttributeGrammar.{AttributeGrammar}
use Rattle.ftl_model.specs.layout.Path.{Path, class_at, inputs_at, node_at, preorder, top}
use Rattle.ftl_model.specs.layout.Tree.{Forest, size}
use Rattle.ftl_model.proofs.layout.Numbering.{has-preorder, length-preorder}
use Rattle.ftl_tree.specs.declared.rows.row.NodeRow.{NodeRow}
use Rattle.ftl_tree.specs.rows.Rows.{AreRowsOf, input_width, starts_by}
use Rattle.ftl_tree.proofs.rows.Access.{size-one}
use Rattle.ftl_tree.proofs.rows.Shapes.{HasInputs, has_inputs, there}
use Rattle.ftl_tree.proofs.rows.Starts.{first_by, start_at}

each-take : {X : Type 0} (P : X → Type 0) (k : ℕ) (xs : List X) → AllByRecursion P xs → AllByRecursion P (take k xs)
each-take P zero xs h = tt
each-take P (suc k) [] h = tt
each-take P (suc k) (x ∷ xs) h = (h.0, each-take P k xs h.1)

-- as many inputs as the classes have
widths : (g : AttributeGrammar) (t : Forest) (ps : List Path) → AllByRecursion (HasInputs g t) ps
    → first_by (input_width g) t ps ≡ sum_by (λ p. length (inputs_at t p)) ps
widths g t [] h = refl
widths g t (p ∷ ps) h =
    sum_by-cons (λ p. input_width g (class_at t p)) p ps
    ∙ (omega (arith, h.0, widths g t ps h.1))
    ∙ sym (sum_by-cons (λ p. length (inputs_at t p)) p ps)

-- an input of a node stands where the node's inputs begin, at its place among them
pub record InputStands (t : Forest) (inputs : List ℤ) (n i at : ℕ) (d : ℤ) : Type 0 where
  pub within : at < length inputs
  pub value : get_or inputs at d ≡ get_or (inputs_at t (node_at t n)) i d

pub before_node : (g : AttributeGrammar) (t : Forest) (rows : List NodeRow) (sizes : List ℕ) (inputs : List ℤ) (starts : List ℕ) (n e : ℕ)
    → AreRowsOf g t rows sizes inputs → starts ≡ starts_by (input_width g) rows → n < size t
    → get_or starts n e ≡ length (flat_map (inputs_at t) (take n (preorder t)))
before_node g t rows sizes inputs starts n e h is k =
    let all = has_inputs g t (preorder t) h.is_tree (has-preorder t (there g t h.is_tree)) in
    start_at g t rows (input_width g) starts n e h.is_tree h.rows_are is (omega (arith, k))
    ∙ widths g t (take n (preorder t)) (each-take (HasInputs g t) n (preorder t) all)
    ∙ sym (length-flat_map (inputs_at t) (take n (preorder t)))

pub input_stands : (g : AttributeGrammar) (t : Forest) (rows : List NodeRow) (sizes : List ℕ) (inputs : List ℤ) (starts : List ℕ) (n i e : ℕ) (d : ℤ)
    → AreRowsOf g t rows sizes inputs → starts ≡ starts_by (input_width g) rows → n < size t → i < length (inputs_at t (node_at t n))
    → InputStands t inputs n i (get_or starts n e + i) d
input_stands g t rows sizes inputs starts n i e d h is k within =
    let before = before_node g t rows sizes inputs starts n e h is k in
    let known : n < length (preorder t) = omega (arith, length-preorder t, size-one g t h.is_tree, k) in
    rw before (rw h.inputs_are (record {
      within = piece_within (inputs_at t) top (preorder t) n i known within;
      value = get_or-flat_map (inputs_at t) (preorder t) n i top d known within;
    }))
