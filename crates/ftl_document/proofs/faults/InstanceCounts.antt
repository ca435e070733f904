-- A document's count of attributes is that of the instances of its tree.
use Rattle.std.proofs.Common.{◌≡◌, ℕ, suc, ◌+◌, refl, sym, ◌∙◌, ap, ap₂, arith, ◌∷◌, length, map, sum_by, length-append}
use Rattle.std.proofs.lemmas.List.{length-map}
use Rattle.std.proofs.lemmas.List.Sums.{sum_by-append, sum_by-cons}
use Rattle.ftl_model.specs.layout.AttributeGrammar.{AttributeGrammar, attributes_of}
use Rattle.ftl_model.specs.layout.Path.{Path, down, nodes_below, one_more, top}
use Rattle.ftl_model.specs.layout.Table.{instance_count, width_at}
use Rattle.ftl_model.specs.layout.Tree.{Forest, below_of, class_of, none, size, tree}
use Rattle.ftl_model.proofs.layout.Numbering.{Left, at-left, left_all, left_below, left_next}
use Rattle.ftl_grammar.specs.declared.syntax.rules.AttrDecl.{AttrDecl}
use Rattle.ftl_grammar.specs.declared.syntax.rules.Grammar.{Grammar}
use Rattle.ftl_document.specs.syntax.Written.{WrittenFields, WrittenNode, WrittenNodes, list_field, no_fields, no_nodes, node_and, node_field, number_field}
use Rattle.ftl_meaning.specs.faults.Numbering.{class_attributes, interface_number, interface_of, own_attributes, shared_attributes}
use Rattle.ftl_meaning.specs.grammars.GrammarOf.{grammar_of}
use Rattle.ftl_document.specs.faults.DocumentTree.{tree_of, trees_before, trees_in}
use Rattle.ftl_document.specs.faults.FirstFault.{instance_count_of}
use Rattle.ftl_document.specs.faults.Nodes.{StandingNode, child_number, class_number, nodes_beside, nodes_in, standing, wanted_in}

-- the widths of all classes of some trees, by the width of a class
abbrev weight : (ℕ → ℕ) → Forest → ℕ
weight w none = 0
weight w (tree class child inputs below beside) = (w class + weight w below) + weight w beside

-- ---- trees

module _ (g : AttributeGrammar) (t : Forest) where
  abbrev width : ℕ → ℕ
  width k = length (attributes_of g k)

  below_weight : (p : Path) (seen : ℕ → ℕ) (f : Forest) (passed : ℕ) → Left t p seen f passed
      → sum_by (width_at g t) (nodes_below p seen f) ≡ weight width f
  below_weight p seen none passed left = refl
  below_weight p seen (tree k d i b s) passed left =
      let q = down d (seen d) p in
      let here : width_at g t q ≡ width k = ap (λ f. width (class_of f)) (at-left t p seen passed k d i b s left) in
      let below = below_weight q (λ c. 0) b 0 (left_below t p seen passed k d i b s left) in
      let beside =
      below_weight p (one_more d seen) s (passed + suc (size b)) (left_next t p seen passed k d i b s left) in
      sum_by-append (width_at g t) (q ∷ nodes_below q (λ c. 0) b) (nodes_below p (one_more d seen) s)
      ∙ ap₂ (λ m n. m + n)
      (sum_by-cons (width_at g t) q (nodes_below q (λ c. 0) b) ∙ ap₂ (λ m n. m + n) here below) beside

  tree_weight : instance_count g t ≡ width (class_of t) + weight width (below_of t)
  tree_weight =
      sum_by-cons (width_at g t) top (nodes_below top (λ c. 0) (below_of t))
      ∙ ap (λ n. width (class_of t) + n) (below_weight top (λ c. 0) (below_of t) 0 (left_all t top))

-- ---- documents

sums : (a b c d : ℕ) → ((a + b) + c) + d ≡ (a + b) + (c + d)
sums a b c d = omega arith

module _ (g : Grammar) where
  -- how many attributes a class has, as it is written
  abbrev written_width : ℕ → ℕ
  written_width k = length (class_attributes g k)

  abbrev width_of : StandingNode → ℕ
  width_of x = written_width (class_number g x.class)

  mutual
    fields_weight : (k : ℕ) (fields : WrittenFields)
        → sum_by width_of (nodes_in g k fields) ≡ weight written_width (trees_in g k fields)
    fields_weight k no_fields = refl
    fields_weight k (number_field name n later) = fields_weight k later
    fields_weight k (node_field name class fields later) =
        sum_by-append width_of
        (standing (wanted_in g k name) class fields ∷ nodes_in g (class_number g class) fields) (nodes_in g k later)
        ∙ ap (λ m. m + sum_by width_of (nodes_in g k later))
        (sum_by-cons width_of (standing (wanted_in g k name) class fields) (nodes_in g (class_number g class) fields))
        ∙ ap₂ (λ m n. (written_width (class_number g class) + m) + n)
        (fields_weight (class_number g class) fields) (fields_weight k later)
    fields_weight k (list_field name nodes later) =
        sum_by-append width_of (nodes_beside g (wanted_in g k name) nodes) (nodes_in g k later)
        ∙ ap (λ n. sum_by width_of (nodes_beside g (wanted_in g k name) nodes) + n) (fields_weight k later)
        ∙ nodes_weight (child_number g k name) (wanted_in g k name) nodes (trees_in g k later)

    nodes_weight : (c wanted : ℕ) (nodes : WrittenNodes) (later : Forest)
        → sum_by width_of (nodes_beside g wanted nodes) + weight written_width later
        ≡ weight written_width (trees_before g c nodes later)
    nodes_weight c wanted no_nodes later = omega arith
    nodes_weight c wanted (node_and class fields nodes) later =
        let first =
        sum_by-append width_of
        (standing wanted class fields ∷ nodes_in g (class_number g class) fields) (nodes_beside g wanted nodes)
        ∙ ap (λ m. m + sum_by width_of (nodes_beside g wanted nodes))
        (sum_by-cons width_of (standing wanted class fields) (nodes_in g (class_number g class) fields)) in
        let below = fields_weight (class_number g class) fields in
        let beside = nodes_weight c wanted nodes later in
        ap (λ n. n + weight written_width later) first
        ∙ sums (written_width (class_number g class)) (sum_by width_of (nodes_in g (class_number g class) fields))
        (sum_by width_of (nodes_beside g wanted nodes)) (weight written_width later)
        ∙ ap₂ (λ m n. (written_width (class_number g class) + m) + n) below beside

  -- as many attributes of a class by number
  same_width : (greatest k : ℕ) → length (attributes_of (grammar_of greatest g) k) ≡ written_width k
  same_width greatest k =
      let shared = length-map (shared_attributes g (interface_of g k)) (λ (x : ℕ × AttrDecl). x.0) in
      let own = length-map (own_attributes g k) (λ (x : ℕ × AttrDecl). x.0) in
      length-append (map (λ (x : ℕ × AttrDecl). x.0) (shared_attributes g (interface_of g k))) (map (λ (x : ℕ × AttrDecl). x.0) (own_attributes g k))
      ∙ ap₂ (λ m n. m + n) shared own
      ∙ sym (length-append (shared_attributes g (interface_of g k)) (own_attributes g k))

  -- and of trees
  same_weight : (v w : ℕ → ℕ) → ((k : ℕ) → v k ≡ w k) → (f : Forest) → weight v f ≡ weight w f
  same_weight v w same none = refl
  same_weight v w same (tree class child inputs below beside) =
      ap₂ (λ m n. m + n) (ap₂ (λ m n. m + n) (same class) (same_weight v w same below)) (same_weight v w same beside)

  pub instances_counted : (greatest : ℕ) (node : WrittenNode)
      → instance_count_of g node ≡ instance_count (grammar_of greatest g) (tree_of g node)
  instances_counted greatest node =
      let k = class_number g node.class in
      let v : ℕ → ℕ = λ c. length (attributes_of (grammar_of greatest g) c) in
      sum_by-cons width_of (standing (interface_number g g.root) node.class node.fields) (nodes_in g k node.fields)
      ∙ ap (λ n. written_width k + n) (fields_weight k node.fields)
      ∙ sym
      (tree_weight (grammar_of greatest g) (tree_of g node)
      ∙ ap₂ (λ m n. m + n) (same_width greatest k) (same_weight v written_width (same_width greatest) (trees_in g k node.fields)))
