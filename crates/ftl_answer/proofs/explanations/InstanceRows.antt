-- The rows of the instances of a tree, node by node, and what stands in the row of a number.
use Rattle.std.proofs.Common.{◌≡◌, ℕ, ◌+◌, ◌<◌, List, [], ◌∷◌, ◌++◌, length, map, flat_map, take, get_or, refl, sym, ◌∙◌, ap, ap₂, subst}
use Rattle.std.proofs.Common.{append_assoc, arith, Contains}
use Rattle.std.specs.Fmt.{decimal}
use Rattle.std.specs.Prelude.{codes}
use Rattle.std.proofs.lemmas.List.{flat_map_more, get_or-map, length-map, map-append, take_all, take_more}
use Rattle.ftl_checked.proofs.lookup.AttrInfos.{attribute_count_is}
use Rattle.ftl_deps.specs.reads.Meant.{meant}
use Rattle.ftl_step_value.proofs.limits.reads.Entries.{Entry, attribute_in_range, class_entry}
use Rattle.ftl_meaning.specs.faults.Checked.{all_attributes, attribute_at}
use Rattle.ftl_meaning.specs.lawful.Faultless.{IsFaultless}
use Rattle.ftl_meaning.proofs.lawful.Lawfulness.{faultless_lawful}
use Rattle.ftl_model.specs.layout.AttributeGrammar.{attributes_of}
use Rattle.ftl_model.specs.layout.Path.{Path, class_at, node_at, number_of, preorder, top}
use Rattle.ftl_model.specs.layout.Solves.{Instance, instance_of}
use Rattle.ftl_model.specs.layout.Table.{instances}
use Rattle.ftl_model.specs.layout.Tree.{size}
use Rattle.ftl_model.specs.layout.TreeOf.{IsTreeOf}
use Rattle.ftl_model.proofs.layout.Numbering.{length-preorder}
use Rattle.ftl_model.proofs.layout.Standing.{node_at-number_of, number_of-lt}
use Rattle.ftl_order.specs.orders.Lawful.{IsLawful}
use Rattle.ftl_order.proofs.orders.Instances.{instance_here, length-instances}
use Rattle.ftl_tree.specs.trees.CheckedTree.{CheckedTree}
use Rattle.ftl_tree.proofs.rows.Access.{number_at, size-one}
use Rattle.ftl_visit.specs.rule_tables.RuleTables.{by_number}
use Rattle.ftl_answer.specs.declared.explanations.rows.InstanceRow.{InstanceRow}
use Rattle.ftl_answer.specs.explanations.Rows.{IsNumber, attributes_at, instance_at, instance_rows, node_rows}
use Rattle.ftl_answer.specs.explanations.Rows.{numbered_line, row_of, rows_of}

-- a row of zeros
abbrev pub no_row : InstanceRow
no_row = record { node = 0; attr = 0 }

-- the instances of a node
abbrev instances_at : CheckedTree → Path → List Instance
instances_at t p = map (instance_of p) (attributes_of (meant t.checked) (class_at t.tree p))

-- the rows of the first nodes
abbrev pub rows_up_to : CheckedTree → (nodes : ℕ) → List InstanceRow
rows_up_to t n = rows_of t (flat_map (instances_at t) (take n (preorder t.tree)))

module _ (t : CheckedTree) (fits : IsTreeOf (meant t.checked) t.tree) where
  nodes_long : length (preorder t.tree) ≡ size t.tree
  nodes_long = omega (arith, size-one (meant t.checked) t.tree fits, length-preorder t.tree)

  rows_of_node : (n : ℕ) (p : Path) → number_of t.tree p ≡ n → (these : List ℕ)
      → rows_of t (map (instance_of p) these) ≡ node_rows n these
  rows_of_node n p e [] = refl
  rows_of_node n p e (a ∷ these) =
      ap₂ (λ (k : ℕ) (rest : List InstanceRow). record { node = k; attr = a } ∷ rest) e (rows_of_node n p e these)

  -- those of one node more
  pub rows_more : (n : ℕ) → n < size t.tree → rows_up_to t n ++ node_rows n (attributes_at t n) ≡ rows_up_to t (n + 1)
  rows_more n within =
      let p = node_at t.tree n in
      let f = instances_at t in
      let known : n < length (preorder t.tree) = omega (arith, nodes_long, within) in
      ap (λ rows. rows_up_to t n ++ rows)
      (sym (rows_of_node n p (number_at (meant t.checked) t.tree n fits within) (attributes_at t n)))
      ∙ sym (map-append (row_of t) (flat_map f (take n (preorder t.tree))) (f p))
      ∙ ap (rows_of t)
      (flat_map_more f [] (take n (preorder t.tree)) p
      ∙ ap (flat_map f) (sym (take_more (preorder t.tree) n top known)))

  -- those of all nodes
  pub rows_all : (n : ℕ) → n ≡ size t.tree → rows_up_to t n ≡ instance_rows t
  rows_all n all =
      ap (λ ps. rows_of t (flat_map (instances_at t) ps))
      (take_all n (preorder t.tree) (omega (arith, nodes_long, all)))

  module _ (faultless : IsFaultless t.checked.grammar) where
    law : IsLawful (meant t.checked)
    law = faultless_lawful t.checked.grammar t.checked.width faultless

    -- the attributes of the class of a node, in the table of all classes
    pub attributes_entry : (node class : ℕ) (attrs : List (List ℕ)) → node < size t.tree
        → class ≡ class_at t.tree (node_at t.tree node)
        → attrs ≡ by_number (attributes_of (meant t.checked)) (meant t.checked).class_count
        → Entry (attributes_of (meant t.checked)) (meant t.checked).class_count attrs class
    attributes_entry node class attrs known is are =
        class_entry (meant t.checked) law t.tree fits (attributes_of (meant t.checked)) node known is are

    pub rows_long : length (instance_rows t) ≡ length (instances (meant t.checked) t.tree)
    rows_long = length-map (instances (meant t.checked) t.tree) (row_of t)

    -- the row of a number is that of the instance of the number
    pub record IsRow (n : ℕ) (row : InstanceRow) : Type 0 where
      pub node : row.node ≡ number_of t.tree (instance_at t n).node
      pub attr : row.attr ≡ (instance_at t n).attribute
      pub known : row.attr < length (all_attributes t.checked.grammar)

    pub row_within : (n : ℕ) (rows : List InstanceRow) → rows ≡ instance_rows t → IsNumber t n → n < length rows
    row_within n rows are within =
        let long = ap length are in
        let count = length-instances (meant t.checked) t.tree in
        omega (arith, long, rows_long, count, within)

    pub row_at : (n : ℕ) (rows : List InstanceRow) (d row : InstanceRow) → rows ≡ instance_rows t → IsNumber t n
        → row ≡ get_or rows n d → IsRow n row
    row_at n rows d row are within is =
        let g = meant t.checked in
        let count = length-instances g t.tree in
        let here = instance_here g t.tree law fits n (instance_of top 0) within in
        let i = instance_at t n in
        let same : row ≡ row_of t i =
        is
        ∙ ap (λ rs. get_or rs n d) are
        ∙ get_or-map (row_of t) (instances g t.tree) n (instance_of top 0) d (omega (arith, count, within)) in
        let node_known : number_of t.tree i.node < size t.tree =
        omega (arith, number_of-lt t.tree i.node here.0.0, size-one g t.tree fits) in
        let there = node_at-number_of t.tree i.node here.0.0 in
        let attribute_known =
        attribute_in_range g law t.tree fits (number_of t.tree i.node) i.attribute node_known
        (subst (λ p. Contains (attributes_of g (class_at t.tree p)) i.attribute) (sym there) here.0.1) in
        let attribute_same = ap (λ (r : InstanceRow). r.attr) same in
        let all = attribute_count_is t.checked.grammar in
        record {
          node = ap (λ (r : InstanceRow). r.node) same;
          attr = attribute_same;
          known = omega (arith, attribute_same, attribute_known, all);
        }

    -- the line of a number, from the row of the number
    pub line_of_row : (n : ℕ) (row : InstanceRow) → IsRow n row → (before numbered name : List ℕ)
        → numbered ≡ before ++ decimal row.node → name ≡ (attribute_at t.checked.grammar row.attr).decl.name
        → numbered ++ (codes " " ++ (name ++ codes "\n")) ≡ before ++ numbered_line t n
    line_of_row n row is before numbered name numbered_is name_is =
        let g = t.checked.grammar in
        let rest = codes " " ++ (name ++ codes "\n") in
        let same = name_is ∙ ap (λ (a : ℕ). (attribute_at g a).decl.name) is.attr in
        ap (λ xs. xs ++ rest) numbered_is
        ∙ append_assoc before (decimal row.node) rest
        ∙ ap₂ (λ (k : ℕ) (xs : List ℕ). before ++ (decimal k ++ (codes " " ++ (xs ++ codes "\n")))) is.node same
