use Rattle.std.proofs.Common.{◌≡◌, ◌+◌, ◌<◌, ℕ, ap, ap₂, arith, get_or, length, subst, sym, ◌∙◌, Contains}
use Rattle.std.proofs.lemmas.List.FromFn.{get_or-map-range_with_len, length-map-range_with_len}
use Rattle.ftl_model.specs.lists.Lists.{place_in}
use Rattle.ftl_model.specs.layout.AttributeGrammar.{attributes_of}
use Rattle.ftl_model.specs.layout.Path.{Path, class_at, down, kids_at, node_at, number_of}
use Rattle.ftl_model.specs.layout.Table.{first_instance}
use Rattle.ftl_deps.specs.reads.Meant.{meant}
use Rattle.ftl_tree.specs.trees.CheckedTree.{CheckedTree}
use Rattle.ftl_tree.specs.declared.trees.tree.Tree.TheInside.{Inside}
use Rattle.ftl_tree.proofs.trees.KidInstances.{kid_known, kid_stands}
use Rattle.ftl_tree.proofs.trees.Known.{Known, class_within, instance_room, known, place_is, place_known}
use Rattle.ftl_tree.proofs.trees.tree.Tree.kid_instance.Goals as goal

-- an attribute of a kid
module _ (i : Inside) (t : CheckedTree) (h : Known i t) (node child k a : ℕ) where
  abbrev kid : Path
  kid = down child k (node_at t.tree node)

  record Found : Type 0 where
    known : class_at t.tree kid < (meant t.checked).class_count
    room : first_instance (meant t.checked) t.tree kid + place_in (attributes_of (meant t.checked) (class_at t.tree kid)) a < 33554432

  found : k < kids_at t.tree (node_at t.tree node) child
      → Contains (attributes_of (meant t.checked) (class_at t.tree kid)) a → Found
  found counted has =
      let n = number_of t.tree kid in
      let there = kid_known i t h node child k counted in
      let stands : node_at t.tree n ≡ kid = kid_stands i t h node child k counted in
      record {
        known =
            subst (λ p. class_at t.tree p < (meant t.checked).class_count) stands (class_within i t h n there);
        room =
            subst
            (λ p. first_instance (meant t.checked) t.tree p
            + place_in (attributes_of (meant t.checked) (class_at t.tree p)) a < 33554432)
            stands
            (instance_room i t h n a there
            (subst (λ p. Contains (attributes_of (meant t.checked) (class_at t.tree p)) a) (sym stands) has));
      }

pub bounds-kids_first_instances-k : goal.bounds-kids_first_instances-k
bounds-kids_first_instances-k c =
    let t = c.args.self.now in
    let p = node_at t.tree c.args.node in
    omega (
      arith,
      c.requires.k,
      ap length c.kids_first_instances.ensures.firsts,
      length-map-range_with_len (λ k. first_instance (meant t.checked) t.tree (down c.args.child k p)) 0
          (kids_at t.tree p c.args.child),
    )

pub index-requires : goal.index-requires
index-requires c =
    let i = c.self.inside in
    let t = c.args.self.now in
    let h = known i t c.self.invariant c.self.view_is in
    let f = found i t h c.args.node c.args.child c.args.k c.args.attr c.requires.k c.requires.attr in
    let within = place_known i t h (class_at t.tree (down c.args.child c.args.k (node_at t.tree c.args.node)))
    c.args.attr f.known c.requires.attr in
    omega (arith, within)

pub overflow_add-result : goal.overflow_add-result
overflow_add-result c =
    let i = c.self.inside in
    let t = c.args.self.now in
    let h = known i t c.self.invariant c.self.view_is in
    let p = node_at t.tree c.args.node in
    let f = found i t h c.args.node c.args.child c.args.k c.args.attr c.requires.k c.requires.attr in
    let first = ap (λ xs. get_or xs c.args.k 0) c.kids_first_instances.ensures.firsts
    ∙ get_or-map-range_with_len (λ k. first_instance (meant t.checked) t.tree (down c.args.child k p)) 0
    (kids_at t.tree p c.args.child) c.args.k c.args.k 0 c.requires.k (omega arith) in
    let place = c.index.ensures
    ∙ place_is i t h (class_at t.tree (down c.args.child c.args.k p)) c.args.attr c.index.result.now f.known
    c.requires.attr in
    omega (arith, first, place, f.room)

pub returns : goal.returns
returns c =
    let i = c.self.inside in
    let t = c.args.self.now in
    let h = known i t c.self.invariant c.self.view_is in
    let p = node_at t.tree c.args.node in
    let f = found i t h c.args.node c.args.child c.args.k c.args.attr c.requires.k c.requires.attr in
    let first = ap (λ xs. get_or xs c.args.k 0) c.kids_first_instances.ensures.firsts
    ∙ get_or-map-range_with_len (λ k. first_instance (meant t.checked) t.tree (down c.args.child k p)) 0
    (kids_at t.tree p c.args.child) c.args.k c.args.k 0 c.requires.k (omega arith) in
    let place = c.index.ensures
    ∙ place_is i t h (class_at t.tree (down c.args.child c.args.k p)) c.args.attr c.index.result.now f.known
    c.requires.attr in
    record { instance = ap₂ (λ m n. m + n) first place }
