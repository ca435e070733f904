-- The next node of a walk: its fault is the document's, and without one the walk goes on before its fields.
use Rattle.std.proofs.Common.{◌≡◌, ℕ, suc, ◌+◌, ◌≤◌, Bool, true, false, cond, sym, subst, ◌∙◌, ap, ap₂, arith, List}
use Rattle.std.proofs.Common.{[], ◌∷◌, ◌++◌, length, map, drop, append_assoc, Some, None}
use Rattle.std.specs.List.{sum_by}
use Rattle.std.proofs.lemmas.Option.{none-some, same_Some}
use Rattle.ftl_meaning.specs.faults.Checked.{class_named}
use Rattle.ftl_meaning.specs.faults.Numbering.{class_attributes, numbered}
use Rattle.ftl_grammar.specs.declared.syntax.rules.Grammar.{Grammar}
use Rattle.ftl_document.specs.syntax.Sizes.{nodes_in_fields}
use Rattle.ftl_document.specs.syntax.Written.{NameText, WrittenNode}
use Rattle.ftl_document.specs.declared.syntax.row.WrittenRow.{WrittenRow}
use Rattle.ftl_document.specs.faults.DocumentTree.{inputs_in}
use Rattle.ftl_document.specs.faults.FirstFault.{field_faults, first_node_fault, first_there, node_fault}
use Rattle.ftl_document.specs.faults.Nodes.{StandingNode, class_number, field_heads, nodes_in, standing}
use Rattle.ftl_document.specs.declared.faults.fault.DocFault.{DocFault}
use Rattle.ftl_document.proofs.faults.NoDocFault.{IsRight, each_right}
use Rattle.ftl_document.specs.fields.Placed.{IsClassOf}
use Rattle.ftl_tree.specs.declared.rows.row.Place.{Place}
use Rattle.ftl_document.specs.nodes.NodeRows.{node_inputs_of, node_row, node_rows_in, node_rows_of}
use Rattle.ftl_document.specs.nodes.Steps.{fields_region}
use Rattle.ftl_document.specs.nodes.Walk.{AreRegions, HaveFewKids, IsNext, IsWalked, Left, all_node_inputs}
use Rattle.ftl_document.specs.nodes.Walk.{all_node_rows, all_nodes, fields_left, width_of}
use Rattle.ftl_document.specs.declared.nodes.stack.Region.{Region}
use Rattle.ftl_document.specs.declared.nodes.progress.Progress.{Progress}

-- the number that is found
found_number : (b : Bool) (n k : ℕ) → cond b (Some n) None ≡ Some k → n ≡ k
found_number true n k h = same_Some n k h
found_number false n k h = absurd (none-some k h)

pub number_is : (g : Grammar) (name : NameText) (k : ℕ) → class_named g name ≡ Some k → class_number g name ≡ k
number_is g name k named = found_number _ (class_number g name) k named

module _ (g : Grammar) (node : WrittenNode) (rows : List WrittenRow) (p : Progress) (name : NameText)
    (wanted from end parent : ℕ) (place : Place) (h : IsNext g node rows p name wanted from end parent place) where
  others : List StandingNode
  others = nodes_in g (class_number g name) h.fields ++ all_nodes g h.outer

  pub node_wrong : (e : DocFault) → node_fault g (p.number, standing wanted name h.fields) ≡ Some e
      → first_node_fault g node ≡ Some e
  node_wrong e is =
      h.faults
      ∙ ap (λ o. first_there (o ∷ map (node_fault g) (numbered (suc p.number) (nodes_in g
      (class_number g name) h.fields ++ all_nodes g h.outer)))) is

  -- the walk behind the node, where its class is this one and its fields have no fault
  pub record IsBehind (k : ℕ) (q : Progress) : Type 0 where
    pub stack : q.stack ≡ fields_region end k p.number ∷ p.stack
    pub at : q.at ≡ from
    pub number : q.number ≡ suc p.number
    pub count : q.count ≡ p.count + length (class_attributes g k)
    pub few : length (class_attributes g k) ≤ 128
    pub node_rows : q.rows.items ≡ p.rows.items ++ node_row k parent place.child place.kid ∷ []
    pub inputs : q.inputs.items ≡ p.inputs.items ++ inputs_in g k h.fields

  module _ (q : Progress) (k : ℕ) (class : IsClassOf g wanted name k) (e : IsBehind k q)
      (fine : node_fault g (p.number, standing wanted name h.fields) ≡ None) where
    number : class_number g name ≡ k
    number = number_is g name k class.named

    right : IsRight g wanted (class_number g name) (field_heads h.fields)
    right =
        (each_right g p.number (standing wanted name h.fields ∷ []) (ap (λ o. first_there (o ∷ [])) fine)).0

    abbrev lefts : List Left
    lefts = fields_left (fields_region end k p.number) right.node [] h.fields ∷ h.outer

    regions : AreRegions g from lefts
    regions = (
      class.known,
      subst (λ m. first_there (field_faults g right.node m [] (field_heads h.fields)) ≡ None) number right.fields,
      h.ends,
      h.regions,
    )

    -- the row of the node goes to the rows that are there
    rows_on : q.rows.items ++ all_node_rows g q.number lefts ≡ node_rows_of g node
    rows_on =
        ap₂ (λ ys n. ys ++ all_node_rows g n lefts) e.node_rows e.number
        ∙ append_assoc p.rows.items (node_row k parent place.child place.kid ∷ []) (all_node_rows g (suc p.number) lefts)
        ∙ ap (λ m. p.rows.items
        ++ (node_row m parent place.child place.kid
        ∷ (node_rows_in g m p.number (suc p.number) h.fields
        ++ all_node_rows g (suc p.number + nodes_in_fields h.fields) h.outer))) (sym number)
        ∙ h.node_rows

    -- and its inputs to the inputs
    inputs_on : q.inputs.items ++ all_node_inputs g lefts ≡ node_inputs_of g node
    inputs_on =
        ap (λ ys. ys ++ all_node_inputs g lefts) e.inputs
        ∙ append_assoc p.inputs.items (inputs_in g k h.fields) (all_node_inputs g lefts)
        ∙ ap (λ m. p.inputs.items ++ (inputs_in g m h.fields ++ all_node_inputs g lefts)) (sym number)
        ∙ h.inputs

    pub node_entered : IsWalked g node rows q
    node_entered =
        let same_length = ap (λ m. length (nodes_in g m h.fields ++ all_nodes g h.outer)) number in
        let same_sum = ap (λ m. sum_by (width_of g) (nodes_in g m h.fields ++ all_nodes g h.outer)) number in
        let same_width = ap (λ m. length (class_attributes g m)) number in
        let up = e.number in
        let more = e.count in
        let all = h.nodes in
        let sum = h.count in
        let small = h.small in
        let few = e.few in
        record {
          lefts = lefts;
          stack = e.stack ∙ ap (λ (rs : List Region). fields_region end k p.number ∷ rs) h.stack;
          regions = subst (λ n. AreRegions g n lefts) (sym e.at) regions;
          left = ap (λ n. drop n rows) e.at ∙ h.left;
          faults =
              h.faults
              ∙ ap (λ o. first_there (o ∷ map (node_fault g) (numbered (suc p.number) (nodes_in g
              (class_number g name) h.fields ++ all_nodes g h.outer)))) fine
              ∙ ap₂ (λ n m. first_there (map (node_fault g) (numbered n
              (nodes_in g m h.fields ++ all_nodes g h.outer)))) (sym up) number;
          nodes = omega (arith, same_length, up, all);
          few = h.few;
          count = omega (arith, same_sum, same_width, more, sum);
          small = omega (arith, up, more, small, few);
          node_rows = rows_on;
          inputs = inputs_on;
          kids = subst (λ n. HaveFewKids n lefts) (sym up) (let z : 0 ≤ suc p.number = omega arith in (z, h.kids));
        }
