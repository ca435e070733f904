-- One row more of a walk, or the end of a region.
use Rattle.std.proofs.Common.{◌≡◌, ◌+◌, ◌*◌, ◌<◌, ◌≤◌, sym, subst, ◌∙◌, ap, arith, List, [], ◌∷◌, ◌++◌, length, map}
use Rattle.std.proofs.Common.{drop, ap₂, append-nil}
use Rattle.std.specs.List.{sum_by}
use Rattle.ftl_meaning.specs.faults.Numbering.{numbered}
use Rattle.ftl_grammar.specs.declared.syntax.rules.Grammar.{Grammar}
use Rattle.ftl_model.specs.layout.Limits.{most_nodes}
use Rattle.ftl_document.specs.syntax.Sizes.{node_count}
use Rattle.ftl_document.specs.syntax.Written.{WrittenNode, list_field, no_fields, no_nodes, node_and, node_field}
use Rattle.ftl_document.specs.syntax.Written.{number_field}
use Rattle.ftl_document.specs.declared.syntax.row.WrittenRow.{WrittenRow}
use Rattle.ftl_document.specs.faults.FirstFault.{first_node_fault, first_there, instance_count_of, node_fault}
use Rattle.ftl_document.specs.nodes.NodeRows.{node_inputs_of, node_rows_of}
use Rattle.ftl_document.specs.nodes.Walk.{AreRegions, HaveFewKids, IsRightLeft, IsWalked, IsWhole, Left, all_node_inputs}
use Rattle.ftl_document.specs.nodes.Walk.{all_node_rows, all_nodes, all_rows, count_left, fields_left, node_inputs_left}
use Rattle.ftl_document.specs.nodes.Walk.{node_rows_left, nodes_left, nodes_left_in, region_of, rows_left, width_of}
use Rattle.ftl_document.specs.declared.nodes.stack.Region.{Region}
use Rattle.ftl_document.specs.declared.nodes.progress.Progress.{Progress}

-- the innermost region is this one, with what is left of it
pub record IsInside (g : Grammar) (node : WrittenNode) (xs : List WrittenRow) (p : Progress) (r : Region)
    (outer : List Region)
    (x : Left) : Type 0 where
  pub others : List Left
  pub same : region_of x ≡ r
  pub around : outer ≡ map region_of others
  pub known : (region_of x).class < length g.classes
  pub right : IsRightLeft g x
  pub ends : (region_of x).end ≡ p.at + length (rows_left x)
  pub regions : AreRegions g (region_of x).end others
  pub left : drop p.at xs ≡ rows_left x ++ all_rows others
  pub faults : first_node_fault g node
      ≡ first_there (map (node_fault g) (numbered p.number (nodes_left_in g x ++ all_nodes g others)))
  pub nodes : p.number + length (nodes_left_in g x ++ all_nodes g others) ≡ node_count node
  pub few : node_count node ≤ most_nodes
  pub count : p.count + sum_by (width_of g) (nodes_left_in g x ++ all_nodes g others) ≡ instance_count_of g node
  pub small : p.count ≤ 128 * p.number
  pub node_rows : p.rows.items ++ (node_rows_left g p.number x ++ all_node_rows g (p.number + count_left x) others)
      ≡ node_rows_of g node
  pub inputs : p.inputs.items ++ (node_inputs_left g x ++ all_node_inputs g others) ≡ node_inputs_of g node
  pub kid : (region_of x).kid ≤ p.number
  pub kids : HaveFewKids p.number others

module _ (g : Grammar) (node : WrittenNode) (xs : List WrittenRow) (p : Progress) where
  pub inside : (r : Region) (outer : List Region) → IsWalked g node xs p → p.stack ≡ r ∷ outer
      → (x : Left) × IsInside g node xs p r outer x
  inside r outer h stack =
      by_lefts h.lefts (sym stack ∙ h.stack) h.regions h.left h.faults h.nodes h.count h.node_rows h.inputs h.kids
    where
      by_lefts : (lefts : List Left) → r ∷ outer ≡ map region_of lefts → AreRegions g p.at lefts
          → drop p.at xs ≡ all_rows lefts
          → first_node_fault g node ≡ first_there (map (node_fault g) (numbered p.number (all_nodes g lefts)))
          → p.number + length (all_nodes g lefts) ≡ node_count node
          → p.count + sum_by (width_of g) (all_nodes g lefts) ≡ instance_count_of g node
          → p.rows.items ++ all_node_rows g p.number lefts ≡ node_rows_of g node
          → p.inputs.items ++ all_node_inputs g lefts ≡ node_inputs_of g node → HaveFewKids p.number lefts
          → (x : Left) × IsInside g node xs p r outer x
      by_lefts [] is regions left faults nodes count node_rows inputs kids = absurd (let z : ⊥ = cc is in z)
      by_lefts (x ∷ others) is regions left faults nodes count node_rows inputs kids = (
        x,
        record {
          others = others;
          same = let z : region_of x ≡ r = cc is in z;
          around = let z : outer ≡ map region_of others = cc is in z;
          known = regions.0;
          right = regions.1;
          ends = regions.2;
          regions = regions.3;
          left = left;
          faults = faults;
          nodes = nodes;
          few = h.few;
          count = count;
          small = h.small;
          node_rows = node_rows;
          inputs = inputs;
          kid = kids.0;
          kids = kids.1;
        },
      )

  -- ---- the end of a region

  -- a walk that left a region
  pub record HasLeft (outer : List Region) (q : Progress) : Type 0 where
    pub stack : q.stack ≡ outer
    pub at : q.at ≡ p.at
    pub number : q.number ≡ p.number
    pub count : q.count ≡ p.count
    pub rows : q.rows.items ≡ p.rows.items
    pub inputs : q.inputs.items ≡ p.inputs.items

  pub region_ended : (r : Region) (outer : List Region) (x : Left) (q : Progress) → IsInside g node xs p r outer x
      → r.end ≤ p.at → HasLeft outer q → IsWalked g node xs q
  region_ended r outer x q b past l =
      by_left x b.ends b.left b.faults b.nodes b.count (ap (λ (y : Region). y.end) b.same) b.regions b.node_rows b.inputs
    where
      out : (region_of x).end ≡ p.at → drop p.at xs ≡ all_rows b.others
          → first_node_fault g node ≡ first_there (map (node_fault g) (numbered p.number (all_nodes g b.others)))
          → p.number + length (all_nodes g b.others) ≡ node_count node
          → p.count + sum_by (width_of g) (all_nodes g b.others) ≡ instance_count_of g node
          → p.rows.items ++ all_node_rows g (p.number + 0) b.others ≡ node_rows_of g node
          → p.inputs.items ++ all_node_inputs g b.others ≡ node_inputs_of g node
          → IsWalked g node xs q
      out end left faults nodes count node_rows inputs =
          let up = l.number in
          let more = l.count in
          let small = b.small in
          record {
            lefts = b.others;
            stack = l.stack ∙ b.around;
            regions = subst (λ n. AreRegions g n b.others) (end ∙ sym l.at) b.regions;
            left = ap (λ n. drop n xs) l.at ∙ left;
            faults = faults ∙ ap (λ n. first_there (map (node_fault g) (numbered n (all_nodes g b.others)))) (sym up);
            nodes = omega (arith, up, nodes);
            few = b.few;
            count = omega (arith, more, count);
            small = omega (arith, up, more, small);
            node_rows = ap₂ (λ ys n. ys ++ all_node_rows g n b.others) l.rows
                (let z : q.number ≡ p.number + 0 = omega (arith, up) in z) ∙ node_rows;
            inputs = ap (λ ys. ys ++ all_node_inputs g b.others) l.inputs ∙ inputs;
            kids = subst (λ n. HaveFewKids n b.others) (sym up) b.kids;
          }

      by_left : (y : Left) → (region_of x).end ≡ p.at + length (rows_left y) → drop p.at xs
          ≡ rows_left y ++ all_rows b.others
          → first_node_fault g node ≡ first_there (map (node_fault g) (numbered p.number
          (nodes_left_in g y ++ all_nodes g b.others)))
          → p.number + length (nodes_left_in g y ++ all_nodes g b.others) ≡ node_count node
          → p.count + sum_by (width_of g) (nodes_left_in g y ++ all_nodes g b.others) ≡ instance_count_of g node
          → (region_of x).end ≡ r.end → AreRegions g (region_of x).end b.others
          → p.rows.items ++ (node_rows_left g p.number y ++ all_node_rows g (p.number + count_left y) b.others)
          ≡ node_rows_of g node
          → p.inputs.items ++ (node_inputs_left g y ++ all_node_inputs g b.others) ≡ node_inputs_of g node
          → IsWalked g node xs q
      by_left (fields_left s n e no_fields) ends left faults nodes count same regions node_rows inputs =
          out (omega (arith, ends)) left faults nodes count node_rows inputs
      by_left (fields_left s n e (number_field y m later)) ends left faults nodes count same regions node_rows inputs =
          absurd (let z : ⊥ = omega (arith, ends, same, past) in z)
      by_left (fields_left s n e (node_field y c fs later)) ends left faults nodes count same regions node_rows inputs =
          absurd (let z : ⊥ = omega (arith, ends, same, past) in z)
      by_left (fields_left s n e (list_field y ns later)) ends left faults nodes count same regions node_rows inputs =
          absurd (let z : ⊥ = omega (arith, ends, same, past) in z)
      by_left (nodes_left s no_nodes) ends left faults nodes count same regions node_rows inputs =
          out (omega (arith, ends)) left faults nodes count node_rows inputs
      by_left (nodes_left s (node_and c fs later)) ends left faults nodes count same regions node_rows inputs =
          absurd (let z : ⊥ = omega (arith, ends, same, past) in z)

module _ (g : Grammar) (node : WrittenNode) (xs : List WrittenRow) (p : Progress) (h : IsWalked g node xs p) where
  -- at the end nothing is left
  pub walk_ended : p.stack ≡ [] → IsWhole g node p
  walk_ended empty = by_lefts h.lefts (sym empty ∙ h.stack) h.faults h.count h.node_rows h.inputs
    where
      by_lefts : (lefts : List Left) → [] ≡ map region_of lefts
          → first_node_fault g node ≡ first_there (map (node_fault g) (numbered p.number (all_nodes g lefts)))
          → p.count + sum_by (width_of g) (all_nodes g lefts) ≡ instance_count_of g node
          → p.rows.items ++ all_node_rows g p.number lefts ≡ node_rows_of g node
          → p.inputs.items ++ all_node_inputs g lefts ≡ node_inputs_of g node → IsWhole g node p
      by_lefts [] same faults count node_rows inputs =
          record {
            none = faults;
            count = omega (arith, count);
            node_rows = sym (append-nil p.rows.items) ∙ node_rows;
            inputs = sym (append-nil p.inputs.items) ∙ inputs;
          }
      by_lefts (x ∷ others) same faults count node_rows inputs = absurd (let z : ⊥ = cc same in z)
