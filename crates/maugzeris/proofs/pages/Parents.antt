-- A node and its parent.
use Rattle.std.proofs.Common.{◌≡◌, ℕ, suc, ◌+◌, ◌<◌, Option, Some, length, refl, sym, ap, ◌∙◌, subst, arith}
use Rattle.std.specs.Option.{option_map}
use Rattle.ftl_deps.specs.reads.Meant.{meant}
use Rattle.ftl_meaning.specs.faults.Numbering as numbering
use Rattle.ftl_model.specs.layout.Path.{Has, Path, at, child_at, class_at, down, node_at, number_of, parent_of, top}
use Rattle.ftl_model.specs.layout.Tree.{below_of, nodes_before, size}
use Rattle.ftl_model.specs.layout.TreeOf.{IsTreeOf}
use Rattle.ftl_model.proofs.layout.Fits.{kid_stands}
use Rattle.ftl_model.proofs.layout.Standing.{has_parent, node_at-number_of}
use Rattle.ftl_order.proofs.orders.Kids.{class_known}
use Rattle.ftl_tree.proofs.rows.Access.{has_at, number_at}
use Rattle.maugzeris.specs.pages.PageState.{PageState, class_on}
use Rattle.maugzeris.specs.pages.Places.{child_along, child_on}

-- the node of this number stands in a child that the class of the node of that number declares
pub record StandsBelow (p : PageState) (node parent : ℕ) : Type 0 where
  pub before : parent < node
  pub class : class_on p parent < length p.checked.grammar.classes
  pub declared :
      child_at (node_at p.tree node) < length (numbering.class_at p.checked.grammar (class_on p parent)).children
  pub child :
      child_on p node
      ≡ Some (numbering.child_at p.checked.grammar (class_on p parent) (child_at (node_at p.tree node)))

-- by what tells the parent of a node
pub stands_below : (p : PageState) → IsTreeOf (meant p.checked) p.tree → (node parent : ℕ) → node < size p.tree
    → Some parent ≡ option_map (number_of p.tree) (parent_of (node_at p.tree node)) → StandsBelow p node parent
stands_below p is node parent known told =
    go (node_at p.tree node) refl (number_at (meant p.checked) p.tree node is known)
    (has_at (meant p.checked) p.tree node is known) told
  where
    go : (q : Path) → node_at p.tree node ≡ q → number_of p.tree q ≡ node → Has p.tree q
        → Some parent ≡ option_map (number_of p.tree) (parent_of q) → StandsBelow p node parent
    go top here number has said = absurd (cc)
    go (down c k above) here number has said =
        let up : parent ≡ number_of p.tree above = cc in
        let steps : suc (number_of p.tree above + nodes_before c k (below_of (at p.tree above))) ≡ node = number in
        let there : Has p.tree above = has_parent p.tree c k above has in
        let back : above ≡ node_at p.tree parent =
        sym (ap (node_at p.tree) up ∙ node_at-number_of p.tree above there) in
        let class : class_at p.tree above ≡ class_on p parent = ap (class_at p.tree) back in
        let child : c ≡ child_at (node_at p.tree node) = ap child_at (sym here) in
        record {
          before = omega (arith, steps, up);
          class =
              subst (λ n. n < length p.checked.grammar.classes) class
              (class_known (meant p.checked) p.tree is above there);
          declared =
              subst (λ d. d < length (numbering.class_at p.checked.grammar (class_on p parent)).children) child
              (subst (λ n. c < length (numbering.class_at p.checked.grammar n).children) class
              (kid_stands (meant p.checked) p.tree c k above is has).declared);
          child =
              ap (child_along p) here
              ∙ ap (λ n. Some (numbering.child_at p.checked.grammar n c)) class
              ∙ ap (λ d. Some (numbering.child_at p.checked.grammar (class_on p parent) d)) child;
        }
