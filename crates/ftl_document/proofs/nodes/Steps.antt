-- What a walk does at the next row, by what the row is.
use Rattle.std.proofs.Common.{◌≡◌, ℕ, suc, ◌+◌, ◌<◌, ◌≤◌, refl, sym, subst, ◌∙◌, ap, ap₂, arith, List, [], ◌∷◌, ◌++◌}
use Rattle.std.proofs.Common.{length, map, drop, append_assoc, length-append, length-drop, ℤ}
use Rattle.std.specs.List.{sum_by}
use Rattle.std.proofs.lemmas.List.Sums.{sum_by-cons}
use Rattle.ftl_meaning.specs.faults.Numbering.{class_at, numbered}
use Rattle.ftl_grammar.specs.declared.syntax.rules.Grammar.{Grammar}
use Rattle.ftl_document.specs.syntax.Rows.{rows_of_fields, rows_of_nodes}
use Rattle.ftl_document.specs.syntax.Sizes.{nodes_in_fields, nodes_in_list}
use Rattle.ftl_document.specs.syntax.Written.{WrittenFields, WrittenNode, list_field, no_fields, no_nodes}
use Rattle.ftl_document.specs.syntax.Written.{node_and, node_field, number_field}
use Rattle.ftl_document.specs.declared.syntax.row.WrittenRow.{WrittenRow}
use Rattle.ftl_document.specs.declared.syntax.row.WrittenRow.TheVariants as rows
use Rattle.ftl_document.specs.faults.DocumentTree.{inputs_in}
use Rattle.ftl_document.specs.faults.FirstFault.{first_there, node_fault}
use Rattle.ftl_document.specs.faults.Nodes.{child_number, class_number, head_of, field_heads, list_form, node_form}
use Rattle.ftl_document.specs.faults.Nodes.{nodes_beside, nodes_in, number_form, standing}
use Rattle.ftl_document.proofs.faults.NoDocFault.{later_right}
use Rattle.ftl_document.proofs.faults.RightChildren.{list_child, node_child}
use Rattle.ftl_tree.specs.declared.rows.row.NodeRow.{NodeRow}
use Rattle.ftl_tree.specs.declared.rows.row.Place.{Place}
use Rattle.ftl_document.specs.nodes.NodeRows.{node_inputs_beside, node_inputs_in, node_row, node_rows_beside}
use Rattle.ftl_document.specs.nodes.NodeRows.{node_rows_in}
use Rattle.ftl_document.specs.nodes.Steps.{HasPassed, list_region}
use Rattle.ftl_document.specs.nodes.Walk.{AreRegions, HaveFewKids, IsNext, IsRightLeft, IsWalked, Left}
use Rattle.ftl_document.specs.nodes.Walk.{all_node_inputs, all_node_rows, all_nodes, all_rows, count_left, fields_left}
use Rattle.ftl_document.specs.nodes.Walk.{node_inputs_left, node_rows_left, nodes_left, nodes_left_in, region_of}
use Rattle.ftl_document.specs.nodes.Walk.{rows_left, wanted_of, width_of}
use Rattle.ftl_document.specs.declared.nodes.stack.Region.{Region}
use Rattle.ftl_document.specs.declared.nodes.progress.Progress.{Progress}
use Rattle.ftl_document.proofs.nodes.LeftRows.{few_kids_more, inputs_behind, rows_behind, rows_beside}
use Rattle.ftl_document.proofs.nodes.Regions.{IsInside}

-- the child is one of the class
abbrev pub IsDeclared : Grammar → (class child : ℕ) → Type 0
IsDeclared g k c = c < length (class_at g k).children

length-cons : (x : WrittenRow) (ys : List WrittenRow) → length (x ∷ ys) ≡ suc (length ys)
length-cons x ys = refl

-- the place of a single child, and of the next kid of a list
abbrev pub single_place : (child : ℕ) → Place
single_place c = record { child = c; kid = 0 }

abbrev pub kid_place : Region → Place
kid_place r = record { child = r.child; kid = r.kid }

-- the region of a list once one more kid has come
abbrev pub next_kid : Region → Region
next_kid r = record r { kid = suc r.kid }

module _ (g : Grammar) (node : WrittenNode) (xs : List WrittenRow) (p : Progress) where
  -- what follows of a row in a region
  abbrev pub Follows : Region → List Region → WrittenRow → Type 0
  Follows r outer (rows.Number x n) = (q : Progress) → HasPassed p (r ∷ outer) q → IsWalked g node xs q
  Follows r outer (rows.Single x c n) =
      IsDeclared g r.class (child_number g r.class x)
      × IsNext g node xs p c (wanted_of g r.class (child_number g r.class x)) (suc p.at) (suc p.at + n) r.node
      (single_place (child_number g r.class x))
  Follows r outer (rows.List x n) =
      IsDeclared g r.class (child_number g r.class x)
      × ((q : Progress)
      → HasPassed p (list_region (suc p.at + n) r (child_number g r.class x) ∷ r ∷ outer) q
      → IsWalked g node xs q)
  Follows r outer (rows.Kid c n) =
      IsDeclared g r.class r.child × (r.kid ≤ p.number)
      × ((rs : List Region) → rs ≡ next_kid r ∷ outer
      → IsNext g node xs (record p { stack = rs }) c (wanted_of g r.class r.child) (suc p.at) (suc p.at + n) r.node
      (kid_place r))

  module _ (r : Region) (outer : List Region) (x : Left) (b : IsInside g node xs p r outer x) (row : WrittenRow)
      (stack : p.stack ≡ r ∷ outer) (more : p.at < r.end) (next : drop p.at xs ≡ row ∷ drop (suc p.at) xs) where
    row_there : suc p.at ≤ length xs
    row_there =
        let many = length-drop p.at xs in
        let some = ap length next in
        let one = length-cons row (drop (suc p.at) xs) in
        omega (arith, many, some, one)

    -- the rows in the tree that are left, and the inputs
    abbrev rows_of_left : List NodeRow
    rows_of_left = node_rows_left g p.number x ++ all_node_rows g (p.number + count_left x) b.others

    abbrev inputs_of_left : List ℤ
    inputs_of_left = node_inputs_left g x ++ all_node_inputs g b.others

    -- the walk with what is left behind a row that is no node
    passed : (q : Progress) (regions : List Region) (lefts : List Left) → HasPassed p regions q
        → regions ≡ map region_of lefts → AreRegions g (suc p.at) lefts → drop (suc p.at) xs ≡ all_rows lefts
        → nodes_left_in g x ++ all_nodes g b.others ≡ all_nodes g lefts → rows_of_left ≡ all_node_rows g p.number lefts
        → inputs_of_left ≡ all_node_inputs g lefts → HaveFewKids p.number lefts → IsWalked g node xs q
    passed q regions lefts h stands ends left same rows_same inputs_same kids =
        let at = h.at in
        let number = h.number in
        let many = h.count in
        let length_same = ap length same in
        let sum_same = ap (sum_by (width_of g)) same in
        let nodes = b.nodes in
        let count = b.count in
        let small = b.small in
        record {
          lefts = lefts;
          stack = h.stack ∙ stands;
          regions = subst (λ n. AreRegions g n lefts) (sym at) ends;
          left = ap (λ n. drop n xs) at ∙ left;
          faults = b.faults
              ∙ ap₂ (λ n ys. first_there (map (node_fault g) (numbered n ys))) (sym number) same;
          nodes = omega (arith, number, length_same, nodes);
          few = b.few;
          count = omega (arith, many, sum_same, count);
          small = omega (arith, many, number, small);
          node_rows = ap₂ (λ ys n. ys ++ all_node_rows g n lefts) h.rows number
              ∙ ap (λ (ys : List NodeRow). p.rows.items ++ ys) (sym rows_same)
              ∙ b.node_rows;
          inputs = ap (λ ys. ys ++ all_node_inputs g lefts) h.inputs
              ∙ ap (λ (ys : List ℤ). p.inputs.items ++ ys) (sym inputs_same)
              ∙ b.inputs;
          kids = subst (λ n. HaveFewKids n lefts) (sym number) kids;
        }

    -- the walk before a node
    node_next : (rs : List Region) (name : _) (wanted parent : ℕ) (place : Place) (fields : WrittenFields)
        (lefts : List Left) → rs ≡ map region_of lefts
        → AreRegions g (suc p.at + length (rows_of_fields fields)) lefts
        → drop (suc p.at) xs ≡ rows_of_fields fields ++ all_rows lefts
        → nodes_left_in g x ++ all_nodes g b.others
        ≡ standing wanted name fields ∷ (nodes_in g (class_number g name) fields ++ all_nodes g lefts)
        → rows_of_left
        ≡ node_row (class_number g name) parent place.child place.kid
        ∷ (node_rows_in g (class_number g name) p.number (suc p.number) fields
        ++ all_node_rows g (suc p.number + nodes_in_fields fields) lefts)
        → inputs_of_left
        ≡ inputs_in g (class_number g name) fields ++ (node_inputs_in g fields ++ all_node_inputs g lefts)
        → HaveFewKids (suc p.number) lefts
        → IsNext g node xs (record p { stack = rs }) name wanted (suc p.at)
        (suc p.at + length (rows_of_fields fields)) parent place
    node_next rs name wanted parent place fields lefts stands ends left same rows_same inputs_same kids =
        let length_same = ap length same in
        let sum_same = ap (sum_by (width_of g)) same in
        let nodes = b.nodes in
        let count = b.count in
        let one_more = sum_by-cons (width_of g) (standing wanted name fields) (nodes_in g
        (class_number g name) fields ++ all_nodes g lefts) in
        record {
          fields = fields;
          outer = lefts;
          stack = stands;
          regions = ends;
          within = row_there;
          left = left;
          ends = refl;
          faults = b.faults ∙ ap (λ ys. first_there (map (node_fault g) (numbered p.number ys))) same;
          nodes = sym (ap (λ n. p.number + n) length_same) ∙ nodes;
          few = b.few;
          count = omega (arith, one_more, sum_same, count);
          small = b.small;
          node_rows = ap (λ (ys : List NodeRow). p.rows.items ++ ys) (sym rows_same) ∙ b.node_rows;
          inputs = ap (λ (ys : List ℤ). p.inputs.items ++ ys) (sym inputs_same) ∙ b.inputs;
          kids = kids;
        }

    -- the row and what stands behind it, by what is left
    abbrev IsFront : Left → Type 0
    IsFront y =
        (r ≡ region_of y) × (r.class < length g.classes) × (IsRightLeft g y) × ((region_of y).end ≡ p.at + length
        (rows_left y))
        × (row ∷ drop (suc p.at) xs ≡ rows_left y ++ all_rows b.others)
        × (nodes_left_in g x ++ all_nodes g b.others ≡ nodes_left_in g y ++ all_nodes g b.others)
        × (AreRegions g (region_of y).end b.others)
        × (rows_of_left ≡ node_rows_left g p.number y ++ all_node_rows g (p.number + count_left y) b.others)
        × (inputs_of_left ≡ node_inputs_left g y ++ all_node_inputs g b.others) × ((region_of y).kid ≤ p.number)

    front : IsFront x
    front = (
      sym b.same,
      subst (λ (y : Region). y.class < length g.classes) b.same b.known,
      b.right,
      b.ends,
      sym next
          ∙ b.left,
      refl,
      b.regions,
      refl,
      refl,
      b.kid,
    )

    at_end : {A : Type 0} (s : Region) → r ≡ s → s.end ≡ p.at + 0 → A
    at_end s same ends =
        let e = ap (λ (y : Region). y.end) same in
        absurd (let z : ⊥ = omega (arith, ends, more, e) in z)

    by_left : (y : Left) → IsFront y → Follows (region_of y) outer row
    by_left (fields_left s m e no_fields) f = at_end s f.0 f.3
    by_left (nodes_left s no_nodes) f = at_end s f.0 f.3
    by_left (fields_left s m e (number_field name n later)) f =
        let is : row ≡ rows.Number name n = cc f.4 in
        let tail : drop (suc p.at) xs ≡ rows_of_fields later ++ all_rows b.others = cc f.4 in
        let ends = f.3 in
        subst (Follows s outer) (sym is)
        (λ q h.
        passed q (s ∷ outer) (fields_left s m (e ++ head_of name number_form ∷ []) later ∷ b.others) h
        (ap (λ (rs : List Region). s ∷ rs) b.around) (
          subst (λ (y : Region). y.class < length g.classes) f.0 f.1,
          later_right g m s.class e (head_of name number_form) (field_heads later) f.2,
          omega (arith, ends),
          f.6,
        )
        tail f.5 f.7 f.8 (f.9, b.kids))
    by_left (fields_left s m e (node_field name class fields later)) f =
        let is : row ≡ rows.Single name class (length (rows_of_fields fields)) = cc f.4 in
        let tail : drop (suc p.at) xs ≡ (rows_of_fields fields ++ rows_of_fields later) ++ all_rows b.others = cc f.4 in
        let ends = f.3 in
        let both = length-append (rows_of_fields fields) (rows_of_fields later) in
        let child = node_child g m s.class e name (field_heads later) f.2 in
        let inner = node_rows_in g (class_number g class) p.number (suc p.number) fields in
        let rest = node_rows_in g s.class s.node (suc p.number + nodes_in_fields fields) later in
        let before = suc p.number + nodes_in_fields fields + nodes_in_fields later in
        subst (Follows s outer) (sym is) (
          child.below,
          node_next p.stack class (wanted_of g s.class (child_number g s.class name)) s.node
              (single_place (child_number g s.class name)) fields
              (fields_left s m (e ++ head_of name node_form ∷ []) later ∷ b.others)
              (stack ∙ ap₂ (λ y (rs : List Region). y ∷ rs) f.0 b.around) (
                subst (λ (y : Region). y.class < length g.classes) f.0 f.1,
                later_right g m s.class e (head_of name node_form) (field_heads later) f.2,
                omega (arith, ends, both),
                f.6,
              )
              (tail ∙ append_assoc (rows_of_fields fields) (rows_of_fields later) (all_rows b.others))
              (f.5
              ∙ ap (λ ys. standing (wanted_of g s.class (child_number g s.class name)) class fields ∷ ys)
              (append_assoc (nodes_in g (class_number g class) fields) (nodes_in g s.class later)
              (all_nodes g b.others)))
              (f.7
              ∙ rows_behind g b.others (node_row (class_number g class) s.node (child_number g s.class name) 0) inner rest
              (p.number + suc (nodes_in_fields fields + nodes_in_fields later)) before (omega arith))
              (f.8
              ∙ inputs_behind (inputs_in g (class_number g class) fields) (node_inputs_in g fields)
              (node_inputs_in g later) (all_node_inputs g b.others))
              (let kid = f.9 in omega (arith, kid), few_kids_more p.number (suc p.number) b.others (omega arith) b.kids),
        )
    by_left (fields_left s m e (list_field name nodes later)) f =
        let is : row ≡ rows.List name (length (rows_of_nodes nodes)) = cc f.4 in
        let tail : drop (suc p.at) xs ≡ (rows_of_nodes nodes ++ rows_of_fields later) ++ all_rows b.others = cc f.4 in
        let ends = f.3 in
        let both = length-append (rows_of_nodes nodes) (rows_of_fields later) in
        let child = list_child g m s.class e name (field_heads later) f.2 in
        let known = subst (λ (y : Region). y.class < length g.classes) f.0 f.1 in
        let inner = list_region (suc p.at + length (rows_of_nodes nodes)) s (child_number g s.class name) in
        let kids = node_rows_beside g s.node (child_number g s.class name) 0 p.number nodes in
        let rest = node_rows_in g s.class s.node (p.number + nodes_in_list nodes) later in
        subst (Follows s outer) (sym is) (
          child.below,
          λ q h.
              passed q (inner ∷ s ∷ outer)
              (nodes_left inner nodes ∷ fields_left s m (e ++ head_of name list_form ∷ []) later ∷ b.others) h
              (ap (λ (rs : List Region). inner ∷ s ∷ rs) b.around) (
                known,
                child.below,
                refl,
                (
                  known,
                  later_right g m s.class e (head_of name list_form) (field_heads later) f.2,
                  omega (arith, ends, both),
                  f.6,
                ),
              )
              (tail ∙ append_assoc (rows_of_nodes nodes) (rows_of_fields later) (all_rows b.others))
              (f.5
              ∙ append_assoc (nodes_beside g (wanted_of g s.class (child_number g s.class name)) nodes)
              (nodes_in g s.class later) (all_nodes g b.others))
              (f.7
              ∙ rows_beside g b.others kids rest (p.number + (nodes_in_list nodes + nodes_in_fields later))
              (p.number + nodes_in_list nodes + nodes_in_fields later) (omega arith))
              (f.8
              ∙ append_assoc (node_inputs_beside g nodes) (node_inputs_in g later) (all_node_inputs g b.others))
              (let z : 0 ≤ p.number = omega arith in z, (f.9, b.kids)),
        )
    by_left (nodes_left s (node_and class fields later)) f =
        let is : row ≡ rows.Kid class (length (rows_of_fields fields)) = cc f.4 in
        let tail : drop (suc p.at) xs ≡ (rows_of_fields fields ++ rows_of_nodes later) ++ all_rows b.others = cc f.4 in
        let ends = f.3 in
        let both = length-append (rows_of_fields fields) (rows_of_nodes later) in
        let inner = node_rows_in g (class_number g class) p.number (suc p.number) fields in
        let rest = node_rows_beside g s.node s.child (suc s.kid) (suc p.number + nodes_in_fields fields) later in
        let before = suc p.number + nodes_in_fields fields + nodes_in_list later in
        subst (Follows s outer) (sym is) (
          f.2,
          f.9,
          λ rs stands.
              node_next rs class (wanted_of g s.class s.child) s.node (kid_place s) fields
              (nodes_left (next_kid s) later ∷ b.others)
              (stands ∙ ap (λ (ys : List Region). next_kid s ∷ ys) b.around)
              (subst (λ (y : Region). y.class < length g.classes) f.0 f.1, f.2, omega (arith, ends, both), f.6)
              (tail ∙ append_assoc (rows_of_fields fields) (rows_of_nodes later) (all_rows b.others))
              (f.5
              ∙ ap (λ ys. standing (wanted_of g s.class s.child) class fields ∷ ys)
              (append_assoc (nodes_in g (class_number g class) fields) (nodes_beside g
              (wanted_of g s.class s.child) later) (all_nodes g b.others)))
              (f.7
              ∙ rows_behind g b.others (node_row (class_number g class) s.node s.child s.kid) inner rest
              (p.number + suc (nodes_in_fields fields + nodes_in_list later)) before (omega arith))
              (f.8
              ∙ inputs_behind (inputs_in g (class_number g class) fields) (node_inputs_in g fields)
              (node_inputs_beside g later) (all_node_inputs g b.others))
              (let kid = f.9 in omega (arith, kid), few_kids_more p.number (suc p.number) b.others (omega arith) b.kids),
        )

    pub follows : Follows r outer row
    follows = subst (λ y. Follows y outer row) b.same (by_left x front)
