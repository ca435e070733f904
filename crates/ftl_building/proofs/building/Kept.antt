-- What a builder keeps, once something was added.
use Rattle.std.proofs.Common.{◌≡◌, ℕ, suc, ◌+◌, ◌<◌, ◌≤◌, ℤ, false, true, List, [], ◌∷◌, ◌++◌, refl, sym, ap, subst}
use Rattle.std.proofs.Common.{◌∙◌, length, length-append, arith}
use Rattle.ftl_model.specs.layout.Limits.{most_nodes}
use Rattle.ftl_document.specs.declared.syntax.row.WrittenRow.{WrittenRow}
use Rattle.ftl_document.specs.declared.syntax.row.WrittenRow.TheVariants as rows
use Rattle.ftl_document.specs.syntax.Rows.{rows_of_fields}
use Rattle.ftl_document.specs.syntax.Written.{NameText, WrittenFields, no_fields, number_field}
use Rattle.ftl_building.specs.building.Calls.{with_fields, with_number, with_open_kid, with_open_list, with_open_node}
use Rattle.ftl_building.specs.building.PartDocument.{PartDocument, in_list, in_node, takes_fields}
use Rattle.ftl_building.specs.building.PartInside.{IsKept}
use Rattle.ftl_building.specs.building.PartRows.{class_of, places_by_list, places_by_open, places_of, rows_of}
use Rattle.ftl_building.specs.building.PartSizes.{HasRoom, TakesField, TakesKid, TakesNode, most_entries, nodes_in}
use Rattle.ftl_building.specs.building.RowsRead.{part_of_rows, part_read}
use Rattle.ftl_building.proofs.building.MoreFields.{class-with_fields, levels-with_fields, nodes-with_fields}
use Rattle.ftl_building.proofs.building.MoreFields.{places-with_fields, rows-with_fields}

-- what is kept gives the document
pub kept_view : (p : PartDocument) (name : NameText) (at : List ℕ) (all : List WrittenRow) (l n : ℕ)
    → IsKept p name at all l n → part_of_rows name at all ≡ p
kept_view p name at all l n h =
    ap (λ x. part_of_rows x at all) (sym h.class)
    ∙ ap (λ x. part_of_rows (class_of p) x all) (sym h.places)
    ∙ ap (λ x. part_of_rows (class_of p) (places_of p) x) (sym h.rows)
    ∙ part_read p

-- the same of places and rows that are these
pub view_at : (p : PartDocument) (name : NameText) (at : List ℕ) (all : List WrittenRow) (l n : ℕ)
    → IsKept p name at all l n → (places : List ℕ) (more : List WrittenRow) → places ≡ at → more ≡ all
    → part_of_rows name places more ≡ p
view_at p name at all l n h places more same_places same_rows =
    ap (λ x. part_of_rows name x more) same_places
    ∙ ap (λ x. part_of_rows name at x) same_rows
    ∙ kept_view p name at all l n h

-- and that is kept of the document that they give
pub kept_at : (p : PartDocument) (name : NameText) (at : List ℕ) (all : List WrittenRow) (l n : ℕ)
    → IsKept p name at all l n → (places : List ℕ) (more : List WrittenRow) → places ≡ at → more ≡ all
    → IsKept (part_of_rows name places more) name places more l n
kept_at p name at all l n h places more same_places same_rows =
    subst (λ (q : PartDocument). IsKept q name places more l n)
    (sym (view_at p name at all l n h places more same_places same_rows))
    (subst (λ (x : List ℕ). IsKept p name x more l n) (sym same_places)
    (subst (λ (x : List WrittenRow). IsKept p name at x l n) (sym same_rows) h))

-- what is kept of a document is kept of the one that it is
pub kept_of : (p q : PartDocument) (name : NameText) (at : List ℕ) (all : List WrittenRow) (l n : ℕ) → p ≡ q
    → IsKept p name at all l n → IsKept q name at all l n
kept_of p q name at all l n same h = subst (λ (x : PartDocument). IsKept x name at all l n) same h

module _ (p : PartDocument) (name : NameText) (at : List ℕ) (all : List WrittenRow) (l n : ℕ)
    (h : IsKept p name at all l n) where
  -- one more row is not too many
  one_more : (row : WrittenRow) → HasRoom p → length (all ++ (row ∷ [])) ≤ most_entries
  one_more row room =
      let count : length (rows_of p) ≡ length all = ap length h.rows in
      omega (arith, room, count, length-append all (row ∷ []))

  one_more_node : nodes_in p < most_nodes → n + 1 ≤ most_nodes
  one_more_node few = let count = h.nodes in omega (arith, few, count)

  pub number_kept : (x : NameText) (v : ℤ) → TakesField p
      → IsKept (with_number x v p) name at (all ++ (rows.Number x v ∷ [])) l n
  number_kept x v takes = by_open p h takes.0
    where
      by_open : (p : PartDocument) → IsKept p name at all l n → takes_fields p ≡ true
          → IsKept (with_number x v p) name at (all ++ (rows.Number x v ∷ [])) l n
      by_open (in_list y) k is = absurd cc
      by_open (in_node y) k is =
          let f = number_field x v no_fields in
          let count = nodes-with_fields y f in
          let same = k.nodes in
          record {
            class = class-with_fields y f ∙ k.class;
            places = places-with_fields y f ∙ k.places;
            rows = rows-with_fields y f ∙ ap (λ r. r ++ (rows.Number x v ∷ [])) k.rows;
            levels = levels-with_fields y f ∙ k.levels;
            nodes = omega (arith, count, same);
            few = k.few;
            short = one_more (rows.Number x v) takes.1;
          }

  pub node_kept : (x class : NameText) → TakesNode p
      → IsKept (with_open_node x class p) name (length all ∷ at) (all ++ (rows.Single x class 0 ∷ [])) (l + 1) (n + 1)
  node_kept x class takes = by_open p h takes.0.0
    where
      by_open : (p : PartDocument) → IsKept p name at all l n → takes_fields p ≡ true
          → IsKept (with_open_node x class p) name (length all ∷ at) (all ++ (rows.Single x class 0 ∷ [])) (l + 1) (n + 1)
      by_open (in_list y) k is = absurd cc
      by_open (in_node y) k is =
          let levels = k.levels in
          let nodes = k.nodes in
          record {
            class = k.class;
            places = ap (λ r. length r ∷ places_by_open y) k.rows ∙ ap (λ r. length all ∷ r) k.places;
            rows = ap (λ r. r ++ (rows.Single x class 0 ∷ [])) k.rows;
            levels = omega (arith, levels);
            nodes = omega (arith, nodes);
            few = one_more_node takes.1.1;
            short = one_more (rows.Single x class 0) takes.0.1;
          }

  pub list_kept : (x : NameText) → TakesField p
      → IsKept (with_open_list x p) name (length all ∷ at) (all ++ (rows.List x 0 ∷ [])) l n
  list_kept x takes = by_open p h takes.0
    where
      by_open : (p : PartDocument) → IsKept p name at all l n → takes_fields p ≡ true
          → IsKept (with_open_list x p) name (length all ∷ at) (all ++ (rows.List x 0 ∷ [])) l n
      by_open (in_list y) k is = absurd cc
      by_open (in_node y) k is =
          let nodes = k.nodes in
          record {
            class = k.class;
            places = ap (λ r. length r ∷ places_by_open y) k.rows ∙ ap (λ r. length all ∷ r) k.places;
            rows = ap (λ r. r ++ (rows.List x 0 ∷ [])) k.rows;
            levels = k.levels;
            nodes = omega (arith, nodes);
            few = k.few;
            short = one_more (rows.List x 0) takes.1;
          }

  pub kid_kept : (class : NameText) → TakesKid p
      → IsKept (with_open_kid class p) name (length all ∷ at) (all ++ (rows.Kid class 0 ∷ [])) (l + 1) (n + 1)
  kid_kept class takes = by_open p h takes.0
    where
      by_open : (p : PartDocument) → IsKept p name at all l n → takes_fields p ≡ false
          → IsKept (with_open_kid class p) name (length all ∷ at) (all ++ (rows.Kid class 0 ∷ [])) (l + 1) (n + 1)
      by_open (in_node y) k is = absurd cc
      by_open (in_list y) k is =
          let levels = k.levels in
          let nodes = k.nodes in
          record {
            class = k.class;
            places = ap (λ r. length r ∷ places_by_list y) k.rows ∙ ap (λ r. length all ∷ r) k.places;
            rows = ap (λ r. r ++ (rows.Kid class 0 ∷ [])) k.rows;
            levels = omega (arith, levels);
            nodes = omega (arith, nodes);
            few = one_more_node takes.2.1;
            short = one_more (rows.Kid class 0) takes.1;
          }
