use Rattle.std.proofs.Common.{◌≡◌, ◌-◌, List, ℕ, length, get_or, ap, ap₂, ◌∙◌, sym, arith}
use Rattle.ftl_model.specs.layout.AttributeGrammar.{attributes_of}
use Rattle.ftl_model.specs.layout.Path.{class_at, node_at}
use Rattle.ftl_deps.specs.reads.Meant.{meant}
use Rattle.ftl_step_value.proofs.limits.reads.Entries.{class_in_range, entry}
use Rattle.ftl_plan.proofs.cells.CellPlaces.{attribute_here}
use Rattle.ftl_plan.proofs.cells.node.attr_of_cell.Goals as goal

pub bounds-rows-class : goal.bounds-rows-class
bounds-rows-class c =
    let t = c.args.tree.now in
    let g = meant t.checked in
    let is = c.node_of_cell-node.ensures.node in
    let range = class_in_range g c.requires.sound.law t.tree c.node_count-nodes.ensures.is_tree
    c.node_of_cell-node.result is.known in
    let class = c.class.ensures.class in
    (entry (attributes_of g) g.class_count c.as_slice-rows.result.now c.class.result
    (c.as_slice-rows.ensures ∙ c.requires.tables.attributes) (omega (arith, range, class))).within

pub bounds-attrs-cell : goal.bounds-attrs-cell
bounds-attrs-cell c =
    let t = c.args.tree.now in
    let g = meant t.checked in
    let n = c.node_of_cell-node.result in
    let is = c.node_of_cell-node.ensures.node in
    let range = class_in_range g c.requires.sound.law t.tree c.node_count-nodes.ensures.is_tree n is.known in
    let class = c.class.ensures.class in
    let at = entry (attributes_of g) g.class_count c.as_slice-rows.result.now c.class.result
    (c.as_slice-rows.ensures ∙ c.requires.tables.attributes) (omega (arith, range, class)) in
    let row : c.as_slice-attrs.result.now ≡ attributes_of g (class_at t.tree (node_at t.tree n)) =
    c.as_slice-attrs.ensures ∙ c.index-rows-class.is ∙ at.is c.index-rows-class.result ∙ ap (attributes_of g) class in
    let long = ap length row in
    let first = c.first_instance.ensures.first in
    let from = is.from in
    let to = is.to in
    omega (arith, long, first, from, to)

pub returns : goal.returns
returns c =
    let t = c.args.tree.now in
    let g = meant t.checked in
    let n = c.node_of_cell-node.result in
    let is = c.node_of_cell-node.ensures.node in
    let fits = c.node_count-nodes.ensures.is_tree in
    let range = class_in_range g c.requires.sound.law t.tree fits n is.known in
    let class = c.class.ensures.class in
    let at = entry (attributes_of g) g.class_count c.as_slice-rows.result.now c.class.result
    (c.as_slice-rows.ensures ∙ c.requires.tables.attributes) (omega (arith, range, class)) in
    let row : c.as_slice-attrs.result.now ≡ attributes_of g (class_at t.tree (node_at t.tree n)) =
    c.as_slice-attrs.ensures ∙ c.index-rows-class.is ∙ at.is c.index-rows-class.result ∙ ap (attributes_of g) class in
    record {
      attr =
          ap₂ (λ (xs : List ℕ) (k : ℕ). get_or xs k 0) row (ap (λ (k : ℕ). c.args.cell - k) c.first_instance.ensures.first)
          ∙ sym (attribute_here g t.tree fits c.requires.sound.law n c.args.cell is);
    }
