use Rattle.std.proofs.Common.{◌≡◌, ◌<◌, ◌∙◌, ap, sym, subst, arith, Some, length}
use Rattle.ftl_grammar.specs.declared.syntax.rules.Child.{Child}
use Rattle.ftl_meaning.specs.faults.Numbering as numbering
use Rattle.ftl_model.specs.layout.Path.{child_at, node_at}
use Rattle.ftl_tree.specs.trees.CheckedTree.{CheckedTree}
use Rattle.maugzeris.specs.pages.PageState.{class_on}
use Rattle.maugzeris.proofs.pages.Parents.{stands_below}
use Rattle.maugzeris.proofs.pages.page.Page.child.Goals as goal

-- the parent has a smaller number
pub class-class-requires : goal.class-class-requires
class-class-requires c =
    let below =
    stands_below c.args.self.now c.tree-known.ensures.is_tree c.args.node c.in_ok-parent.parent c.requires.node
    c.in_ok-parent.ensures.parent in
    let less = below.before in
    record { node = omega (arith, less, c.requires.node) }

-- its class declares the child
pub declared_child-requires : goal.declared_child-requires
declared_child-requires c =
    let p = c.args.self.now in
    let g = p.checked.grammar in
    let below =
    stands_below p c.tree-known.ensures.is_tree c.args.node c.in_ok-parent.parent c.requires.node
    c.in_ok-parent.ensures.parent in
    let class = sym c.class-class.ensures.class in
    let place : c.place-child.result.child ≡ child_at (node_at p.tree c.args.node) =
    c.place-child.ensures.child ∙ ap (λ (t : CheckedTree). child_at (node_at t.tree c.args.node)) c.tree.ensures.tree in
    record {
      class = subst (λ n. n < length g.classes) class below.class;
      child =
          subst (λ d. d < length (numbering.class_at g c.class-class.result).children) (sym place)
          (subst (λ n. child_at (node_at p.tree c.args.node) < length (numbering.class_at g n).children) class
          below.declared);
    }

-- and it is the one that the node stands in
pub returns-clause-child : goal.returns-clause-child
returns-clause-child c =
    let p = c.args.self.now in
    let g = p.checked.grammar in
    let below =
    stands_below p c.tree-known.ensures.is_tree c.args.node c.in_ok-parent.parent c.requires.node
    c.in_ok-parent.ensures.parent in
    let place : c.place-child.result.child ≡ child_at (node_at p.tree c.args.node) =
    c.place-child.ensures.child ∙ ap (λ (t : CheckedTree). child_at (node_at t.tree c.args.node)) c.tree.ensures.tree in
    ap (λ (x : Child). Some x) c.declared_child.ensures.child
    ∙ (ap (λ n. Some (numbering.child_at g n c.place-child.result.child)) c.class-class.ensures.class
    ∙ (ap (λ d. Some (numbering.child_at g (class_on p c.in_ok-parent.parent) d)) place
    ∙ sym below.child))
