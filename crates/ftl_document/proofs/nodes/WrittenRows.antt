-- The rows and the inputs of a document's nodes are those of its tree, where no node has a fault.
use Rattle.std.proofs.Common.{◌≡◌, ℕ, suc, ◌+◌, ◌==◌, ◌||◌, Bool, true, false, if◌then◌else◌, refl, sym, ap, ap₂, ◌∙◌}
use Rattle.std.proofs.Common.{subst, arith, List, [], ◌∷◌, ◌++◌, append_assoc, None}
use Rattle.std.specs.List.{list_any}
use Rattle.std.specs.Str.{bytes_eq}
use Rattle.std.proofs.lemmas.Bool.{eq-eqb, ne_eqb, or_parts, true≢false}
use Rattle.std.proofs.lemmas.List.{map-append}
use Rattle.std.proofs.lemmas.List.Folds.{list_any-append}
use Rattle.ftl_model.specs.layout.Path.{one_more}
use Rattle.ftl_model.specs.layout.Tree.{Forest, size}
use Rattle.ftl_grammar.specs.declared.syntax.rules.Grammar.{Grammar}
use Rattle.ftl_meaning.specs.faults.Numbering.{child_at, is_among}
use Rattle.ftl_document.specs.syntax.Sizes.{nodes_in_fields, nodes_in_list}
use Rattle.ftl_document.specs.syntax.Written.{NameText, WrittenFields, WrittenNode, WrittenNodes, list_field, no_fields}
use Rattle.ftl_document.specs.syntax.Written.{no_nodes, node_and, node_field, number_field}
use Rattle.ftl_document.specs.faults.DocumentTree.{inputs_in, tree_of, trees_before, trees_in}
use Rattle.ftl_document.specs.faults.FirstFault.{first_node_fault, names_of}
use Rattle.ftl_document.specs.faults.Nodes.{FieldHead, StandingNode, child_number, class_number, field_heads, head_of}
use Rattle.ftl_document.specs.faults.Nodes.{list_form, node_form, nodes_beside, nodes_in, nodes_of, number_form, wanted_in}
use Rattle.ftl_meaning.proofs.names.Names.{name_itself}
use Rattle.ftl_document.proofs.faults.NoDocFault.{AreRight, IsRight, all_back, all_front, each_right, field_right}
use Rattle.ftl_document.proofs.faults.NoDocFault.{later_right}
use Rattle.ftl_document.proofs.faults.RightChildren.{AreFine, list_child, node_child}
use Rattle.ftl_tree.specs.declared.rows.row.NodeRow.{NodeRow}
use Rattle.ftl_tree.specs.rows.Rows.{all_inputs, rows_of}
use Rattle.ftl_document.specs.nodes.NodeRows.{node_inputs_beside, node_inputs_in, node_inputs_of, node_row}
use Rattle.ftl_document.specs.nodes.NodeRows.{node_rows_beside, node_rows_in, node_rows_of}
use Rattle.ftl_document.proofs.nodes.PreorderRows.{forest_inputs, forest_rows, inputs_by_tree, rows_by_tree}

-- ---- how many trees

mutual
  pub trees_counted : (g : Grammar) (k : ℕ) (fields : WrittenFields) → size (trees_in g k fields) ≡ nodes_in_fields fields
  trees_counted g k no_fields = refl
  trees_counted g k (number_field name x later) = trees_counted g k later
  trees_counted g k (node_field name class fields later) =
      ap₂ (λ m n. suc (m + n)) (trees_counted g (class_number g class) fields) (trees_counted g k later)
  trees_counted g k (list_field name nodes later) =
      before_counted g (child_number g k name) nodes (trees_in g k later)
      ∙ ap (λ n. nodes_in_list nodes + n) (trees_counted g k later)

  before_counted : (g : Grammar) (c : ℕ) (nodes : WrittenNodes) (later : Forest)
      → size (trees_before g c nodes later) ≡ nodes_in_list nodes + size later
  before_counted g c no_nodes later = omega arith
  before_counted g c (node_and class fields nodes) later =
      let below = trees_counted g (class_number g class) fields in
      let beside = before_counted g c nodes later in
      omega (arith, below, beside)

-- ---- inputs

mutual
  inputs_written : (g : Grammar) (k : ℕ) (fields : WrittenFields)
      → forest_inputs (trees_in g k fields) ≡ node_inputs_in g fields
  inputs_written g k no_fields = refl
  inputs_written g k (number_field name x later) = inputs_written g k later
  inputs_written g k (node_field name class fields later) =
      ap₂ (λ xs ys. inputs_in g (class_number g class) fields ++ (xs ++ ys))
      (inputs_written g (class_number g class) fields) (inputs_written g k later)
  inputs_written g k (list_field name nodes later) =
      inputs_before g (child_number g k name) nodes (trees_in g k later)
      ∙ ap (λ xs. node_inputs_beside g nodes ++ xs) (inputs_written g k later)

  inputs_before : (g : Grammar) (c : ℕ) (nodes : WrittenNodes) (later : Forest)
      → forest_inputs (trees_before g c nodes later) ≡ node_inputs_beside g nodes ++ forest_inputs later
  inputs_before g c no_nodes later = refl
  inputs_before g c (node_and class fields nodes) later =
      let own = inputs_in g (class_number g class) fields in
      let below = node_inputs_in g fields in
      let beside = node_inputs_beside g nodes in
      ap₂ (λ xs ys. own ++ (xs ++ ys)) (inputs_written g (class_number g class) fields) (inputs_before g c nodes later)
      ∙ sym
      (append_assoc own (below ++ beside) (forest_inputs later)
      ∙ ap (λ xs. own ++ xs) (append_assoc below beside (forest_inputs later)))

-- the inputs of a document's nodes are those of its tree
pub inputs_of_tree : (g : Grammar) (node : WrittenNode) → all_inputs (tree_of g node) ≡ node_inputs_of g node
inputs_of_tree g node =
    inputs_by_tree (tree_of g node)
    ∙ ap (λ xs. inputs_in g (class_number g node.class) node.fields ++ xs)
    (inputs_written g (class_number g node.class) node.fields)

-- ---- rows

-- no kid has come of a child whose name doesn't stand among these fields
abbrev IsFresh : Grammar → (class : ℕ) → List FieldHead → (ℕ → ℕ) → Type 0
IsFresh g k earlier seen = (c : ℕ) → is_among (names_of earlier) (child_at g k c).name ≡ false → seen c ≡ 0

-- one field more
names_more : (earlier : List FieldHead) (f : FieldHead) (name : NameText)
    → is_among (names_of (earlier ++ f ∷ [])) name ≡ (is_among (names_of earlier) name || is_among (names_of (f ∷ [])) name)
names_more earlier f name =
    ap (list_any (bytes_eq name)) (map-append (λ (x : FieldHead). x.name) earlier (f ∷ []))
    ∙ list_any-append (bytes_eq name) (names_of earlier) (names_of (f ∷ []))

-- a field of no child that is looked at
still_fresh : (g : Grammar) (k : ℕ) (earlier : List FieldHead) (f : FieldHead) (seen : ℕ → ℕ)
    → IsFresh g k earlier seen → IsFresh g k (earlier ++ f ∷ []) seen
still_fresh g k earlier f seen fresh c none =
    fresh c (or_parts (is_among (names_of earlier) (child_at g k c).name)
    (is_among (names_of (f ∷ [])) (child_at g k c).name)
    (sym (names_more earlier f (child_at g k c).name) ∙ none)).0

-- after the field of a child, where only kids of this child have come
fresh_behind : (g : Grammar) (k d : ℕ) (earlier : List FieldHead) (f : FieldHead) (seen after : ℕ → ℕ)
    → IsFresh g k earlier seen → f.name ≡ (child_at g k d).name
    → ((c : ℕ) → (d == c) ≡ false → after c ≡ seen c) → IsFresh g k (earlier ++ f ∷ []) after
fresh_behind g k d earlier f seen after fresh called others c none =
    others c (ne_eqb d c (λ same. true≢false (sym (here same) ∙ none))) ∙ still_fresh g k earlier f seen fresh c none
  where
    or_true : (b : Bool) → (b || (true || false)) ≡ true
    or_true true = refl
    or_true false = refl

    here : d ≡ c → is_among (names_of (earlier ++ f ∷ [])) (child_at g k c).name ≡ true
    here same =
        let name = (child_at g k c).name in
        let itself : bytes_eq name f.name ≡ true =
        subst (λ x. bytes_eq name x ≡ true) (sym (called ∙ ap (λ e. (child_at g k e).name) same)) (name_itself name) in
        names_more earlier f name
        ∙ ap (λ b. is_among (names_of earlier) name || (b || false)) itself
        ∙ or_true (is_among (names_of earlier) name)

-- a kid more of another child
more_of_another : (d c : ℕ) (seen : ℕ → ℕ) → (d == c) ≡ false → one_more d seen c ≡ seen c
more_of_another d c seen e = ap (λ b. if b then suc (seen c) else seen c) e

-- a kid more of this child
more_of_this : (c : ℕ) (seen : ℕ → ℕ) → one_more c seen c ≡ suc (seen c)
more_of_this c seen = ap (λ b. if b then suc (seen c) else seen c) (eq-eqb c c refl)

-- the rows of trees in one child, and then those of the later trees, where more kids of this child have come
record HasPassed (n c before many : ℕ) (seen : ℕ → ℕ) (own all : List NodeRow) (later : Forest) : Type 0 where
  after : ℕ → ℕ
  others : (d : ℕ) → (c == d) ≡ false → after d ≡ seen d
  rows : all ≡ own ++ forest_rows n (before + many) after later

-- nothing is wrong with a node
abbrev Right : Grammar → StandingNode → Type 0
Right g x = IsRight g x.wanted (class_number g x.class) x.fields

mutual
  rows_written : (g : Grammar) (a k n m : ℕ) (earlier : List FieldHead) (seen : ℕ → ℕ) (fields : WrittenFields)
      → AreFine g a k earlier (field_heads fields) → AreRight g (nodes_in g k fields) → IsFresh g k earlier seen
      → forest_rows n m seen (trees_in g k fields) ≡ node_rows_in g k n m fields
  rows_written g a k n m earlier seen no_fields fine right fresh = refl
  rows_written g a k n m earlier seen (number_field name x later) fine right fresh =
      let f = head_of name number_form in
      rows_written g a k n m (earlier ++ f ∷ []) seen later
      (later_right g a k earlier f (field_heads later) fine) right (still_fresh g k earlier f seen fresh)
  rows_written g a k n m earlier seen (node_field name class fields later) fine right fresh =
      let f = head_of name node_form in
      let j = class_number g class in
      let c = child_number g k name in
      let child = node_child g a k earlier name (field_heads later) fine in
      let once = (field_right g a k earlier f (field_heads later) fine).once in
      let node = right.0 in
      let below = all_front (Right g) (nodes_in g j fields) (nodes_in g k later) right.1 in
      let beside = all_back (Right g) (nodes_in g j fields) (nodes_in g k later) right.1 in
      let first : seen c ≡ 0 =
      fresh c (subst (λ x. is_among (names_of earlier) x ≡ false) child.called once) in
      let under = rows_written g node.node j m (suc m) [] (λ d. 0) fields node.fields below (λ d _. refl) in
      let rest =
      rows_written g a k n (suc m + nodes_in_fields fields) (earlier ++ f ∷ []) (one_more c seen) later
      (later_right g a k earlier f (field_heads later) fine) beside
      (fresh_behind g k c earlier f seen (one_more c seen) fresh child.called (λ d. more_of_another c d seen)) in
      ap₂ (λ i (xs : List NodeRow). node_row j n c i ∷ xs) first
      (ap₂ (λ (xs ys : List NodeRow). xs ++ ys) under
      (ap (λ s. forest_rows n (suc m + s) (one_more c seen) (trees_in g k later)) (trees_counted g j fields) ∙ rest))
  rows_written g a k n m earlier seen (list_field name nodes later) fine right fresh =
      let f = head_of name list_form in
      let c = child_number g k name in
      let child = list_child g a k earlier name (field_heads later) fine in
      let once = (field_right g a k earlier f (field_heads later) fine).once in
      let i = wanted_in g k name in
      let own = all_front (Right g) (nodes_beside g i nodes) (nodes_in g k later) right in
      let beside = all_back (Right g) (nodes_beside g i nodes) (nodes_in g k later) right in
      let first : seen c ≡ 0 =
      fresh c (subst (λ x. is_among (names_of earlier) x ≡ false) child.called once) in
      let p = rows_before g i n c m 0 seen nodes (trees_in g k later) own first in
      let rest =
      rows_written g a k n (m + nodes_in_list nodes) (earlier ++ f ∷ []) p.after later
      (later_right g a k earlier f (field_heads later) fine) beside
      (fresh_behind g k c earlier f seen p.after fresh child.called p.others) in
      p.rows ∙ ap (λ (xs : List NodeRow). node_rows_beside g n c 0 m nodes ++ xs) rest

  rows_before : (g : Grammar) (i n c m kid : ℕ) (seen : ℕ → ℕ) (nodes : WrittenNodes) (later : Forest)
      → AreRight g (nodes_beside g i nodes) → seen c ≡ kid
      → HasPassed n c m (nodes_in_list nodes) seen (node_rows_beside g n c kid m nodes)
      (forest_rows n m seen (trees_before g c nodes later)) later
  rows_before g i n c m kid seen no_nodes later right come =
      record {
        after = seen;
        others = λ d _. refl;
        rows = ap (λ x. forest_rows n x seen later) (let z : m ≡ m + 0 = omega arith in z);
      }
  rows_before g i n c m kid seen (node_and class fields nodes) later right come =
      let j = class_number g class in
      let node = right.0 in
      let below = all_front (Right g) (nodes_in g j fields) (nodes_beside g i nodes) right.1 in
      let beside = all_back (Right g) (nodes_in g j fields) (nodes_beside g i nodes) right.1 in
      let under = rows_written g node.node j m (suc m) [] (λ d. 0) fields node.fields below (λ d _. refl) in
      let next = suc m + nodes_in_fields fields in
      let p = rows_before g i n c next (suc kid) (one_more c seen) nodes later beside
      (more_of_this c seen ∙ ap suc come) in
      let ends : next + nodes_in_list nodes ≡ m + nodes_in_list (node_and class fields nodes) = omega arith in
      let inner = node_rows_in g j m (suc m) fields in
      let rest = node_rows_beside g n c (suc kid) next nodes in
      record {
        after = p.after;
        others = λ d apart. p.others d apart ∙ more_of_another c d seen apart;
        rows =
            ap₂ (λ x (xs : List NodeRow). node_row j n c x ∷ xs) come
            (ap₂ (λ (xs ys : List NodeRow). xs ++ ys) under
            (ap (λ s. forest_rows n (suc m + s) (one_more c seen) (trees_before g c nodes later)) (trees_counted g j fields)
            ∙ p.rows
            ∙ ap (λ x. rest ++ forest_rows n x p.after later) ends)
            ∙ sym (append_assoc inner rest (forest_rows n (m + nodes_in_list (node_and class fields nodes)) p.after later)));
      }

-- the rows of the nodes of a document without a fault are those of its tree
pub rows_of_tree : (g : Grammar) (node : WrittenNode) → first_node_fault g node ≡ None
    → rows_of (tree_of g node) ≡ node_rows_of g node
rows_of_tree g node fine =
    let k = class_number g node.class in
    let right = each_right g 0 (nodes_of g node) fine in
    let own = right.0 in
    rows_by_tree (tree_of g node)
    ∙ ap (λ (xs : List NodeRow). node_row k 0 0 0 ∷ xs)
    (rows_written g own.node k 0 1 [] (λ c. 0) node.fields own.fields right.1 (λ c _. refl))
