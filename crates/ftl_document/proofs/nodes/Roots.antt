-- The first node of a document.
use Rattle.std.proofs.Common.{◌≡◌, ℕ, suc, ℤ, ◌≤◌, refl, sym, ◌∙◌, ap, ap₂, subst, arith, List, [], ◌∷◌, ◌++◌, length, map}
use Rattle.std.proofs.Common.{append-nil, length-append}
use Rattle.std.specs.List.{sum_by}
use Rattle.std.proofs.lemmas.List.Sums.{sum_by-append, sum_by-cons}
use Rattle.ftl_meaning.specs.faults.Numbering.{class_attributes, interface_number, numbered}
use Rattle.ftl_grammar.specs.declared.syntax.rules.Grammar.{Grammar}
use Rattle.ftl_model.specs.layout.Limits.{most_nodes}
use Rattle.ftl_document.specs.syntax.Rows.{DocumentRows, document_rows, rows_of_fields, rows_of_nodes}
use Rattle.ftl_document.specs.syntax.Sizes.{node_count, nodes_in_fields, nodes_in_list}
use Rattle.ftl_document.specs.syntax.Written.{NameText, WrittenFields, WrittenNode, WrittenNodes, list_field}
use Rattle.ftl_document.specs.syntax.Written.{no_fields, no_nodes, node_and, node_field, number_field}
use Rattle.ftl_document.specs.declared.syntax.row.WrittenRow.{WrittenRow}
use Rattle.ftl_document.specs.declared.syntax.row.WrittenRow.TheVariants as rows
use Rattle.ftl_document.specs.faults.DocumentTree.{inputs_in}
use Rattle.ftl_document.specs.faults.FirstFault.{first_there, node_fault}
use Rattle.ftl_document.specs.faults.Nodes.{class_number, nodes_beside, nodes_in, standing, wanted_in}
use Rattle.ftl_document.specs.nodes.Found.{AreRowsOf}
use Rattle.ftl_tree.specs.declared.rows.row.NodeRow.{NodeRow}
use Rattle.ftl_tree.specs.declared.rows.row.Place.{Place}
use Rattle.ftl_document.specs.nodes.NodeRows.{node_inputs_in, node_row, node_rows_in, node_rows_of}
use Rattle.ftl_document.specs.nodes.Steps.{IsFirst}
use Rattle.ftl_document.specs.nodes.Walk.{IsNext, width_of}
use Rattle.ftl_document.specs.declared.nodes.progress.Progress.{Progress}

-- ---- how many nodes

mutual
  nodes_counted : (g : Grammar) (k : ℕ) (f : WrittenFields) → length (nodes_in g k f) ≡ nodes_in_fields f
  nodes_counted g k no_fields = refl
  nodes_counted g k (number_field x n later) = nodes_counted g k later
  nodes_counted g k (node_field x c f later) =
      let both = length-append (nodes_in g (class_number g c) f) (nodes_in g k later) in
      let one = nodes_counted g (class_number g c) f in
      let two = nodes_counted g k later in
      omega (arith, both, one, two)
  nodes_counted g k (list_field x nodes later) =
      let both = length-append (nodes_beside g (wanted_in g k x) nodes) (nodes_in g k later) in
      let one = beside_counted g (wanted_in g k x) nodes in
      let two = nodes_counted g k later in
      omega (arith, both, one, two)

  beside_counted : (g : Grammar) (i : ℕ) (nodes : WrittenNodes) → length (nodes_beside g i nodes) ≡ nodes_in_list nodes
  beside_counted g i no_nodes = refl
  beside_counted g i (node_and c f later) =
      let both = length-append (nodes_in g (class_number g c) f) (nodes_beside g i later) in
      let one = nodes_counted g (class_number g c) f in
      let two = beside_counted g i later in
      omega (arith, both, one, two)

-- how many nodes a row begins
abbrev begun : WrittenRow → ℕ
begun (rows.Number x n) = 0
begun (rows.Single x c n) = 1
begun (rows.List x n) = 0
begun (rows.Kid c n) = 1

mutual
  rows_counted : (f : WrittenFields) → sum_by begun (rows_of_fields f) ≡ nodes_in_fields f
  rows_counted no_fields = refl
  rows_counted (number_field x n later) =
      let first = sum_by-cons begun (rows.Number x n) (rows_of_fields later) in
      let one = rows_counted later in
      omega (arith, first, one)
  rows_counted (node_field x c f later) =
      let first = sum_by-cons begun (rows.Single x c (length (rows_of_fields f)))
      (rows_of_fields f ++ rows_of_fields later) in
      let both = sum_by-append begun (rows_of_fields f) (rows_of_fields later) in
      let one = rows_counted f in
      let two = rows_counted later in
      omega (arith, first, both, one, two)
  rows_counted (list_field x nodes later) =
      let first = sum_by-cons begun (rows.List x (length (rows_of_nodes nodes)))
      (rows_of_nodes nodes ++ rows_of_fields later) in
      let both = sum_by-append begun (rows_of_nodes nodes) (rows_of_fields later) in
      let one = list_counted nodes in
      let two = rows_counted later in
      omega (arith, first, both, one, two)

  list_counted : (nodes : WrittenNodes) → sum_by begun (rows_of_nodes nodes) ≡ nodes_in_list nodes
  list_counted no_nodes = refl
  list_counted (node_and c f later) =
      let first = sum_by-cons begun (rows.Kid c (length (rows_of_fields f)))
      (rows_of_fields f ++ rows_of_nodes later) in
      let both = sum_by-append begun (rows_of_fields f) (rows_of_nodes later) in
      let one = rows_counted f in
      let two = list_counted later in
      omega (arith, first, both, one, two)

-- documents of the same rows have the same number of nodes
pub same_count : (d : DocumentRows) (node other : WrittenNode) → AreRowsOf node d → AreRowsOf other d
    → node_count node ≡ node_count other
same_count d node other is same =
    let one = rows_counted node.fields in
    let two = rows_counted other.fields in
    let rows_same = ap (λ (x : DocumentRows). sum_by begun x.rows) (sym is ∙ same) in
    omega (arith, one, two, rows_same)

-- ---- before the first node

-- where the root stands
abbrev pub root_place : Place
root_place = record { child = 0; kid = 0 }

rows_first : (g : Grammar) (class : NameText) (node : WrittenNode) (before : List NodeRow) (n : ℕ) → before ≡ []
    → n ≡ 0 → node.class ≡ class
    → before
    ++ (node_row (class_number g class) 0 0 0
    ∷ (node_rows_in g (class_number g class) n (suc n) node.fields ++ [])) ≡ node_rows_of g node
rows_first g class node before n empty zero name =
    ap₂ (λ (ys : List NodeRow) m. ys
    ++ (node_row (class_number g class) 0 0 0 ∷ (node_rows_in g (class_number g class) m (suc m) node.fields ++ [])))
    empty zero
    ∙ ap (λ (ys : List NodeRow). node_row (class_number g class) 0 0 0 ∷ ys)
    (append-nil (node_rows_in g (class_number g class) 0 1 node.fields))
    ∙ ap (λ c. node_row (class_number g c) 0 0 0 ∷ node_rows_in g (class_number g c) 0 1 node.fields) (sym name)

pub first_next : (g : Grammar) (xs : List WrittenRow) (class : NameText) (p : Progress) → IsFirst p
    → (w node : WrittenNode) → AreRowsOf w (document_rows class xs) → node_count w ≤ most_nodes
    → AreRowsOf node (document_rows class xs)
    → IsNext g node xs p class (interface_number g g.root) 0 (length xs) 0 root_place
first_next g xs class p first_is w node known few is =
    let name : node.class ≡ class = ap (λ (x : DocumentRows). x.class) (sym is) in
    let same : xs ≡ rows_of_fields node.fields = ap (λ (x : DocumentRows). x.rows) is in
    let others : nodes_in g (class_number g node.class) node.fields ≡ nodes_in g
    (class_number g class) node.fields ++ [] =
    ap (λ c. nodes_in g (class_number g c) node.fields) name ∙ sym (append-nil (nodes_in g
    (class_number g class) node.fields)) in
    let counted = nodes_counted g (class_number g node.class) node.fields in
    let length_same = ap length others in
    let sum_same = ap (sum_by (width_of g)) others in
    let width_same = ap (λ c. length (class_attributes g (class_number g c))) name in
    let first = sum_by-cons (width_of g) (standing (interface_number g g.root) node.class node.fields) (nodes_in g
    (class_number g node.class) node.fields) in
    let equal = same_count (document_rows class xs) node w is known in
    let zero = first_is.number in
    let none = first_is.count in
    record {
      fields = node.fields;
      outer = [];
      stack = first_is.stack;
      regions = tt;
      within = omega arith;
      left = same ∙ sym (append-nil (rows_of_fields node.fields));
      ends = let e = ap length same in omega (arith, e);
      faults = ap₂ (λ c ys. first_there (map (node_fault g) (numbered 0 (standing
          (interface_number g g.root) c node.fields ∷ ys)))) name others
          ∙ ap (λ n. first_there (map (node_fault g) (numbered n (standing (interface_number g g.root) class node.fields
          ∷ (nodes_in g (class_number g class) node.fields ++ []))))) (sym zero);
      nodes = omega (arith, counted, length_same, zero);
      few = omega (arith, equal, few);
      count = omega (arith, first, width_same, sum_same, none);
      small = omega (arith, none);
      node_rows = rows_first g class node p.rows.items p.number first_is.rows zero name;
      inputs = ap (λ (ys : List ℤ). ys ++ (inputs_in g (class_number g class) node.fields
          ++ (node_inputs_in g node.fields ++ []))) first_is.inputs
          ∙ ap (λ (ys : List ℤ). inputs_in g (class_number g class) node.fields ++ ys)
          (append-nil (node_inputs_in g node.fields))
          ∙ ap (λ c. inputs_in g (class_number g c) node.fields ++ node_inputs_in g node.fields) (sym name);
      kids = tt;
    }

-- the same where the wanted interface is known as another number
pub root_next : (g : Grammar) (xs : List WrittenRow) (class : NameText) (p : Progress) → IsFirst p
    → (w node : WrittenNode) → AreRowsOf w (document_rows class xs) → node_count w ≤ most_nodes
    → AreRowsOf node (document_rows class xs) → (wanted : ℕ) → wanted ≡ interface_number g g.root
    → IsNext g node xs p class wanted 0 (length xs) 0 root_place
root_next g xs class p first_is w node known few is wanted same =
    subst (λ i. IsNext g node xs p class i 0 (length xs) 0 root_place) (sym same)
    (first_next g xs class p first_is w node known few is)
