use Rattle.std.proofs.Common.{◌∙◌, ap, arith, sym, subst, Contains}
use Rattle.ftl_deps.specs.reads.Meant.{meant}
use Rattle.ftl_model.specs.layout.AttributeGrammar.{attributes_of}
use Rattle.ftl_model.specs.layout.Path.{class_at, node_at}
use Rattle.ftl_model.specs.layout.Solves.{instance_of}
use Rattle.ftl_model.specs.layout.Table.{instance_number}
use Rattle.ftl_tree.specs.trees.CheckedTree.{CheckedTree}
use Rattle.maugzeris.proofs.pages.NodeAttributes.{instance_within}
use Rattle.maugzeris.proofs.pages.page.Page.instance.Goals as goal

pub instance-requires-clause-attr : goal.instance-requires-clause-attr
instance-requires-clause-attr c =
    subst
    (λ (t : CheckedTree).
    Contains (attributes_of (meant t.checked) (class_at t.tree (node_at t.tree c.args.node))) c.args.attr)
    (sym c.tree.ensures.tree) c.requires.attribute

pub returns-clause-number : goal.returns-clause-number
returns-clause-number c =
    c.instance.ensures.instance
    ∙ ap
    (λ (t : CheckedTree).
    instance_number (meant t.checked) t.tree (instance_of (node_at t.tree c.args.node) c.args.attr))
    c.tree.ensures.tree

pub returns-clause-within : goal.returns-clause-within
returns-clause-within c =
    let p = c.args.self.now in
    let is =
    c.instance.ensures.instance
    ∙ ap
    (λ (t : CheckedTree).
    instance_number (meant t.checked) t.tree (instance_of (node_at t.tree c.args.node) c.args.attr))
    c.tree.ensures.tree in
    let inside =
    instance_within p.checked c.tree.ensures.lawful p.tree c.tree.ensures.is_tree c.args.node c.requires.node
    c.args.attr c.requires.attribute in
    omega (arith, is, inside)
