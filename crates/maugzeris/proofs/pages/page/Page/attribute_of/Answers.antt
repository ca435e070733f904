use Rattle.std.proofs.Common.{◌≡◌, ◌<◌, ◌-◌, ◌∙◌, ap, arith, List, ℕ, get_or, length, subst, sym, Contains}
use Rattle.ftl_deps.specs.reads.Meant.{meant}
use Rattle.ftl_model.specs.layout.AttributeGrammar.{attributes_of}
use Rattle.ftl_model.specs.layout.Path.{class_at, node_at, top}
use Rattle.ftl_model.specs.layout.Solves.{instance_of}
use Rattle.ftl_model.specs.layout.Table.{first_instance}
use Rattle.ftl_tree.specs.trees.CheckedTree.{CheckedTree}
use Rattle.maugzeris.specs.pages.PageState.{PageState}
use Rattle.maugzeris.proofs.pages.InstanceNumbers.{place_of}
use Rattle.maugzeris.proofs.pages.page.Page.attribute_of.Goals as goal

-- where the instances of the node begin
first_is : (t : CheckedTree) (p : PageState) (n first : ℕ) → t ≡ record { checked = p.checked; tree = p.tree }
    → first ≡ first_instance (meant t.checked) t.tree (node_at t.tree n)
    → first ≡ first_instance (meant p.checked) p.tree (node_at p.tree n)
first_is t p n first is e =
    e ∙ ap (λ (u : CheckedTree). first_instance (meant u.checked) u.tree (node_at u.tree n)) is

pub overflow_sub-result : goal.overflow_sub-result
overflow_sub-result c =
    let p = c.args.self.now in
    let at = place_of (meant p.checked) c.tree-known.ensures.lawful p.tree c.tree-known.ensures.is_tree
    c.node_of-node.result c.args.instance (instance_of top 0) c.requires.instance c.node_of-node.ensures.node in
    let first = first_is c.tree.result.now p c.node_of-node.result c.first_instance-first.result c.tree.ensures.tree
    c.first_instance-first.ensures.first in
    let from = at.from in
    omega (arith, first, from)

pub bounds-attributes-instance : goal.bounds-attributes-instance
bounds-attributes-instance c =
    let p = c.args.self.now in
    let at = place_of (meant p.checked) c.tree-known.ensures.lawful p.tree c.tree-known.ensures.is_tree
    c.node_of-node.result c.args.instance (instance_of top 0) c.requires.instance c.node_of-node.ensures.node in
    let first = first_is c.tree.result.now p c.node_of-node.result c.first_instance-first.result c.tree.ensures.tree
    c.first_instance-first.ensures.first in
    let within = at.within in
    let long = ap length c.attributes.ensures.attributes in
    omega (arith, first, within, long)

pub returns : goal.returns
returns c =
    let p = c.args.self.now in
    let n = c.node_of-node.result in
    let i = c.args.instance in
    let at = place_of (meant p.checked) c.tree-known.ensures.lawful p.tree c.tree-known.ensures.is_tree n i
    (instance_of top 0) c.requires.instance c.node_of-node.ensures.node in
    let first = first_is c.tree.result.now p n c.first_instance-first.result c.tree.ensures.tree
    c.first_instance-first.ensures.first in
    let these = attributes_of (meant p.checked) (class_at p.tree (node_at p.tree n)) in
    let is =
    ap (λ (xs : List ℕ). get_or xs (i - c.first_instance-first.result) 0) c.attributes.ensures.attributes
    ∙ ap (λ (k : ℕ). get_or these (i - k) 0) first
    ∙ at.is 0 in
    record {
      attribute = is;
      known =
          subst
          (λ (m : ℕ). Contains (attributes_of (meant p.checked) (class_at p.tree (node_at p.tree m)))
          (get_or c.attributes.result.now (i - c.first_instance-first.result) 0))
          c.node_of-node.ensures.node
          (subst (Contains these) (sym is) at.has);
    }
