-- The class of the parent has the rule, or none.
use Rattle.std.proofs.Common.{◌≡◌, ◌<◌, ◌∙◌, ℕ, Some, ap, sym, subst, arith}
use Rattle.std.specs.Option.{option_map}
use Rattle.ftl_deps.specs.reads.Meant.{meant}
use Rattle.ftl_step_value.proofs.limits.reads.Entries.{attribute_in_range, parent_is, there}
use Rattle.ftl_model.proofs.layout.Fits.{kid_stands}
use Rattle.ftl_model.specs.layout.Path.{Has, at, child_at, down, kid_at, kids_at, node_at, number_of, parent_of}
use Rattle.ftl_model.specs.layout.Tree.{below_of, size}
use Rattle.ftl_model.specs.layout.TreeOf.{IsTreeOf}
use Rattle.ftl_order.proofs.orders.Kids.{kid_counted}
use Rattle.ftl_order.specs.orders.Lawful.{IsLawful}
use Rattle.ftl_tree.specs.trees.CheckedTree.{CheckedTree}
use Rattle.maugzeris.specs.pages.PageState.{PageState, class_on}
use Rattle.maugzeris.proofs.pages.Parents.{stands_below}
use Rattle.maugzeris.proofs.pages.Rules.{kid_computes, kid_has_none}
use Rattle.maugzeris.proofs.pages.reads.step_from.Goals as goal

-- the node stands there below its parent
record Stands (p : PageState) (node parent child kid : ℕ) : Type 0 where
  pub above : node_at p.tree node ≡ down child kid (node_at p.tree parent)
  pub known : parent < size p.tree
  pub declared : child < (meant p.checked).child_count (class_on p parent)
  pub among : kid < kids_at p.tree (node_at p.tree parent) child

stands : (p : PageState) → IsLawful (meant p.checked) → IsTreeOf (meant p.checked) p.tree → (node parent child kid : ℕ)
    → node < size p.tree → Some parent ≡ option_map (number_of p.tree) (parent_of (node_at p.tree node))
    → child ≡ child_at (node_at p.tree node) → kid ≡ kid_at (node_at p.tree node) → Stands p node parent child kid
stands p law fits node parent child kid known told child_is kid_is =
    let t = p.tree in
    let g = meant p.checked in
    let up = parent_is g law t fits node parent known (sym told) in
    let q = node_at t node in
    let above = node_at t parent in
    let is : q ≡ down child kid above =
    up.node_is
    ∙ ap (λ n. down n (kid_at q) above) (sym child_is)
    ∙ ap (λ n. down child n above) (sym kid_is) in
    let here : Has t (down child kid above) = subst (Has t) is (there g law t fits node known) in
    record {
      above = is;
      known = up.known;
      declared = (kid_stands g t child kid above fits here).declared;
      among = kid_counted child kid (below_of (at t above)) here;
    }

pub place-place-requires : goal.place-place-requires
place-place-requires c =
    let p = c.args.page.now in
    let below = stands_below p c.tree-known.ensures.is_tree c.args.node c.args.parent c.requires.node c.requires.parent in
    let less = below.before in
    let size_is = ap (λ (t : CheckedTree). size t.tree) c.tree.ensures.tree in
    let known = c.requires.node in
    record { not_root = omega (arith, less); node = omega (arith, known, size_is) }

pub kid_rule-requires : goal.kid_rule-requires
kid_rule-requires c =
    let p = c.args.page.now in
    let at = stands p c.tree-known.ensures.lawful c.tree-known.ensures.is_tree c.args.node c.args.parent
    c.place-place.result.child c.place-place.result.kid c.requires.node c.requires.parent
    (c.place-place.ensures.child ∙ ap (λ (t : CheckedTree). child_at (node_at t.tree c.args.node)) c.tree.ensures.tree)
    (c.place-place.ensures.kid ∙ ap (λ (t : CheckedTree). kid_at (node_at t.tree c.args.node)) c.tree.ensures.tree) in
    record {
      tables = c.requires.tables;
      node = at.known;
      child = at.declared;
      attr =
          attribute_in_range (meant p.checked) c.tree-known.ensures.lawful p.tree c.tree-known.ensures.is_tree c.args.node
          c.args.attr c.requires.node c.requires.attribute;
    }

pub returns-in-Some : goal.returns-in-Some
returns-in-Some c =
    let p = c.args.page.now in
    let at = stands p c.tree-known.ensures.lawful c.tree-known.ensures.is_tree c.args.node c.args.parent
    c.place-place.result.child c.place-place.result.kid c.requires.node c.requires.parent
    (c.place-place.ensures.child ∙ ap (λ (t : CheckedTree). child_at (node_at t.tree c.args.node)) c.tree.ensures.tree)
    (c.place-place.ensures.kid ∙ ap (λ (t : CheckedTree). kid_at (node_at t.tree c.args.node)) c.tree.ensures.tree) in
    record {
      step =
          kid_computes p c.tree-known.ensures.lawful c.tree-known.ensures.is_tree c.args.node c.args.attr c.requires.node
          c.args.parent c.place-place.result.child c.place-place.result.kid at.above c.requires.none c.in-Some.rule
          at.known at.among c.in-Some.ensures.rule;
    }

pub returns-in-None : goal.returns-in-None
returns-in-None c =
    let p = c.args.page.now in
    let at = stands p c.tree-known.ensures.lawful c.tree-known.ensures.is_tree c.args.node c.args.parent
    c.place-place.result.child c.place-place.result.kid c.requires.node c.requires.parent
    (c.place-place.ensures.child ∙ ap (λ (t : CheckedTree). child_at (node_at t.tree c.args.node)) c.tree.ensures.tree)
    (c.place-place.ensures.kid ∙ ap (λ (t : CheckedTree). kid_at (node_at t.tree c.args.node)) c.tree.ensures.tree) in
    record {
      step =
          kid_has_none p c.tree-known.ensures.lawful c.tree-known.ensures.is_tree c.args.node c.args.attr c.requires.node
          c.args.parent c.place-place.result.child c.place-place.result.kid at.above c.requires.none c.in-None.ensures.rule;
    }
