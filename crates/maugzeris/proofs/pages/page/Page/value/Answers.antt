use Rattle.std.proofs.Common.{◌≡◌, ◌<◌, ◌∙◌, ap, sym, subst, arith, get_or, length, List, Contains}
use Rattle.std.proofs.lemmas.List.{get_or_read}
use Rattle.ftl_deps.specs.reads.Meant.{meant}
use Rattle.ftl_model.specs.layout.AttributeGrammar.{attributes_of}
use Rattle.ftl_model.specs.layout.Path.{class_at, node_at}
use Rattle.ftl_model.specs.layout.Solves.{instance_of}
use Rattle.ftl_model.specs.layout.Table.{instance_number, value_in}
use Rattle.ftl_model.specs.layout.Values.{Value, overflow}
use Rattle.ftl_tree.specs.trees.CheckedTree.{CheckedTree}
use Rattle.maugzeris.proofs.pages.NodeAttributes.{instance_within}
use Rattle.maugzeris.proofs.pages.page.Page.value.Goals as goal

pub instance-cell-requires-clause-attr : goal.instance-cell-requires-clause-attr
instance-cell-requires-clause-attr c =
    subst
    (λ (t : CheckedTree).
    Contains (attributes_of (meant t.checked) (class_at t.tree (node_at t.tree c.args.node))) c.args.attr)
    (sym c.tree.ensures.tree) c.requires.attribute

pub bounds-cells-cell : goal.bounds-cells-cell
bounds-cells-cell c =
    let p = c.args.self.now in
    let is =
    c.instance-cell.ensures.instance
    ∙ ap
    (λ (t : CheckedTree).
    instance_number (meant t.checked) t.tree (instance_of (node_at t.tree c.args.node) c.args.attr))
    c.tree.ensures.tree in
    let inside =
    instance_within p.checked c.tree.ensures.lawful p.tree c.tree.ensures.is_tree c.args.node c.requires.node
    c.args.attr c.requires.attribute in
    let count = c.cells.ensures.count in
    omega (arith, is, inside, count)

pub returns : goal.returns
returns c =
    let p = c.args.self.now in
    let here = instance_of (node_at p.tree c.args.node) c.args.attr in
    let cells = c.cells.result.now in
    let is : c.instance-cell.result ≡ instance_number (meant p.checked) p.tree here =
    c.instance-cell.ensures.instance
    ∙ ap
    (λ (t : CheckedTree).
    instance_number (meant t.checked) t.tree (instance_of (node_at t.tree c.args.node) c.args.attr))
    c.tree.ensures.tree in
    let inside =
    instance_within p.checked c.tree.ensures.lawful p.tree c.tree.ensures.is_tree c.args.node c.requires.node
    c.args.attr c.requires.attribute in
    let count = c.cells.ensures.count in
    let within : c.instance-cell.result < length cells = omega (arith, is, inside, count) in
    record {
      value =
          get_or_read cells c.instance-cell.result c.index-cells-cell.result within c.index-cells-cell.is overflow
          ∙ (ap (λ n. get_or cells n overflow) is
          ∙ ap (λ (vs : List Value). value_in (meant p.checked) p.tree vs here) c.cells.ensures.values);
    }
