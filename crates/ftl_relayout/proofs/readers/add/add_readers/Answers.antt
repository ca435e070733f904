-- What reads an attribute runs at its node or at the parent.
use Rattle.std.proofs.Common.{◌≡◌, ap, sym, ◌∙◌, subst, ⊎_elim, arith}
use Rattle.ftl_step_value.proofs.limits.reads.Entries.{parent_is, root_is, there}
use Rattle.ftl_model.proofs.layout.Fits.{kid_stands}
use Rattle.ftl_model.proofs.layout.Standing.{has_parent}
use Rattle.ftl_model.specs.layout.AttributeGrammar.{kid, own}
use Rattle.ftl_model.specs.layout.Path.{Has, at as tree_at, down, kid_at, node_at, top}
use Rattle.ftl_model.specs.layout.Solves.{IsInstance, instance_of}
use Rattle.ftl_model.specs.layout.Tree.{below_of}
use Rattle.ftl_order.proofs.orders.Kids.{kid_counted}
use Rattle.ftl_relayout.proofs.readers.KidCounts.{kids_few}
use Rattle.ftl_relayout.specs.queue.Nets.{IsReaderBy}
use Rattle.ftl_relayout.specs.readers.Readers.{IsReaderKey}
use Rattle.ftl_relayout.specs.readers.Sites.{IsReaderKeyAt, cell_of, site_grammar, site_net, site_placing}
use Rattle.ftl_relayout.proofs.queue.Trails.{on_ok}
use Rattle.ftl_relayout.proofs.readers.CellReaders.{here_or_above, kid_in, own_in}
use Rattle.ftl_relayout.proofs.readers.Inserts.{adds_both, adds_into}
use Rattle.ftl_relayout.proofs.readers.add.add_readers.Goals as goal

pub returns-in_err-add_at-clause-adds : goal.returns-in_err-add_at-clause-adds
returns-in_err-add_at-clause-adds c =
    let x = c.args.site.now in
    let t = x.tree.now in
    let g = site_grammar x in
    let law = c.requires.site.law in
    let at = site_placing x in
    let small = c.requires.site.small in
    let fits = c.node_count-nodes.ensures.is_tree in
    let node = c.args.node in
    let a = c.args.attr in
    let valid : IsInstance g t.tree (instance_of (node_at t.tree node) a) =
    (there g law t.tree fits node c.requires.attribute.node_known, c.requires.attribute.attribute_known) in
    adds_into c.args.waiting.now.keys c.add_at.new.waiting.keys (IsReaderBy (site_net x) (cell_of t node a))
    (IsReaderKeyAt x node (own a)) (own_in g law at t.tree fits small node a valid) c.in_err-add_at.ensures.adds

pub returns-in_default-clause-adds : goal.returns-in_default-clause-adds
returns-in_default-clause-adds c =
    let x = c.args.site.now in
    let t = x.tree.now in
    let g = site_grammar x in
    let law = c.requires.site.law in
    let at = site_placing x in
    let small = c.requires.site.small in
    let fits = c.node_count-nodes.ensures.is_tree in
    let node = c.args.node in
    let a = c.args.attr in
    let valid : IsInstance g t.tree (instance_of (node_at t.tree node) a) =
    (there g law t.tree fits node c.requires.attribute.node_known, c.requires.attribute.attribute_known) in
    adds_into c.args.waiting.now.keys c.add_at.new.waiting.keys (IsReaderBy (site_net x) (cell_of t node a))
    (IsReaderKeyAt x node (own a)) (own_in g law at t.tree fits small node a valid) c.in_ok-add_at.ensures.adds

pub returns-in_default-clause-all : goal.returns-in_default-clause-all
returns-in_default-clause-all c = λ k r.
    let x = c.args.site.now in
    let t = x.tree.now in
    let g = site_grammar x in
    let law = c.requires.site.law in
    let at = site_placing x in
    let small = c.requires.site.small in
    let fits = c.node_count-nodes.ensures.is_tree in
    let node = c.args.node in
    let a = c.args.attr in
    let valid : IsInstance g t.tree (instance_of (node_at t.tree node) a) =
    (there g law t.tree fits node c.requires.attribute.node_known, c.requires.attribute.attribute_known) in
    let is : node_at t.tree node ≡ top = root_is g law t.tree fits node (grind (arith, c.in_default)) in
    ⊎_elim (λ h. c.in_ok-add_at.ensures.all k h)
    (λ ab. absurd (let e = ab.is in let z : ⊥ = cc (e, is) in z))
    (here_or_above g law at t.tree fits small node a valid k r)

pub add_at-requires-2-clause-node : goal.add_at-requires-2-clause-node
add_at-requires-2-clause-node c =
    let x = c.args.site.now in
    let t = x.tree.now in
    let g = site_grammar x in
    let law = c.requires.site.law in
    let at = site_placing x in
    let small = c.requires.site.small in
    let fits = c.node_count-nodes.ensures.is_tree in
    let node = c.args.node in
    let a = c.args.attr in
    let valid : IsInstance g t.tree (instance_of (node_at t.tree node) a) =
    (there g law t.tree fits node c.requires.attribute.node_known, c.requires.attribute.attribute_known) in
    let up = parent_is g law t.tree fits node c.in-Some.parent c.requires.attribute.node_known (sym c.in-Some.ensures.parent) in
    let p = node_at t.tree node in
    let child = c.place-place.result.child in
    let number = c.place-place.result.kid in
    let above = node_at t.tree c.in-Some.parent in
    let is : p ≡ down child number above =
    up.node_is
    ∙ ap (λ n. down n (kid_at p) above) (sym c.place-place.ensures.child)
    ∙ ap (λ n. down child n above) (sym c.place-place.ensures.kid) in
    up.known

pub add_at-requires-2-clause-place : goal.add_at-requires-2-clause-place
add_at-requires-2-clause-place c =
    let x = c.args.site.now in
    let t = x.tree.now in
    let g = site_grammar x in
    let law = c.requires.site.law in
    let at = site_placing x in
    let small = c.requires.site.small in
    let fits = c.node_count-nodes.ensures.is_tree in
    let node = c.args.node in
    let a = c.args.attr in
    let valid : IsInstance g t.tree (instance_of (node_at t.tree node) a) =
    (there g law t.tree fits node c.requires.attribute.node_known, c.requires.attribute.attribute_known) in
    let up = parent_is g law t.tree fits node c.in-Some.parent c.requires.attribute.node_known (sym c.in-Some.ensures.parent) in
    let p = node_at t.tree node in
    let child = c.place-place.result.child in
    let number = c.place-place.result.kid in
    let above = node_at t.tree c.in-Some.parent in
    let is : p ≡ down child number above =
    up.node_is
    ∙ ap (λ n. down n (kid_at p) above) (sym c.place-place.ensures.child)
    ∙ ap (λ n. down child n above) (sym c.place-place.ensures.kid) in
    let here = subst (Has t.tree) is valid.0 in
    let size_few = c.node_count-nodes.ensures.bound in
    let size_is = c.node_count-nodes.ensures.count in
    let few = kids_few g t.tree fits above (has_parent t.tree child number above here) child in
    record {
      child = record { known = up.known; declared = (kid_stands g t.tree child number above fits here).declared };
      kid = kid_counted child number (below_of (tree_at t.tree above)) here;
      few = omega (arith, few, size_few, size_is);
    }

pub returns-clause-adds : goal.returns-clause-adds
returns-clause-adds c =
    let x = c.args.site.now in
    let t = x.tree.now in
    let g = site_grammar x in
    let law = c.requires.site.law in
    let at = site_placing x in
    let small = c.requires.site.small in
    let fits = c.node_count-nodes.ensures.is_tree in
    let node = c.args.node in
    let a = c.args.attr in
    let valid : IsInstance g t.tree (instance_of (node_at t.tree node) a) =
    (there g law t.tree fits node c.requires.attribute.node_known, c.requires.attribute.attribute_known) in
    let up = parent_is g law t.tree fits node c.in-Some.parent c.requires.attribute.node_known (sym c.in-Some.ensures.parent) in
    let p = node_at t.tree node in
    let child = c.place-place.result.child in
    let number = c.place-place.result.kid in
    let above = node_at t.tree c.in-Some.parent in
    let is : p ≡ down child number above =
    up.node_is
    ∙ ap (λ n. down n (kid_at p) above) (sym c.place-place.ensures.child)
    ∙ ap (λ n. down child n above) (sym c.place-place.ensures.kid) in
    let P = IsReaderBy (site_net x) (cell_of t node a) in
    adds_both c.args.waiting.now.keys c.add_at.new.waiting.keys c.add_at-2.new.waiting.keys P P
    (adds_into c.args.waiting.now.keys c.add_at.new.waiting.keys P
    (IsReaderKeyAt x node (own a)) (own_in g law at t.tree fits small node a valid) c.in_ok-add_at.ensures.adds)
    (λ k h. h)
    (adds_into c.add_at.new.waiting.keys c.add_at-2.new.waiting.keys P
    (IsReaderKeyAt x c.in-Some.parent (kid child number a))
    (kid_in g law at t.tree fits small node a valid child number above is) c.add_at-2.ensures.adds)

pub returns-clause-all : goal.returns-clause-all
returns-clause-all c =
    let x = c.args.site.now in
    let t = x.tree.now in
    let g = site_grammar x in
    let law = c.requires.site.law in
    let at = site_placing x in
    let small = c.requires.site.small in
    let fits = c.node_count-nodes.ensures.is_tree in
    let node = c.args.node in
    let a = c.args.attr in
    let valid : IsInstance g t.tree (instance_of (node_at t.tree node) a) =
    (there g law t.tree fits node c.requires.attribute.node_known, c.requires.attribute.attribute_known) in
    let up = parent_is g law t.tree fits node c.in-Some.parent c.requires.attribute.node_known (sym c.in-Some.ensures.parent) in
    let p = node_at t.tree node in
    let child = c.place-place.result.child in
    let number = c.place-place.result.kid in
    let above = node_at t.tree c.in-Some.parent in
    let is : p ≡ down child number above =
    up.node_is
    ∙ ap (λ n. down n (kid_at p) above) (sym c.place-place.ensures.child)
    ∙ ap (λ n. down child n above) (sym c.place-place.ensures.kid) in
    on_ok c.add_at-2.result
    (λ all k r.
    ⊎_elim (λ h. c.add_at-2.ensures.adds.kept k (c.in_ok-add_at.ensures.all k h))
    (λ ab.
    let e : down ab.child ab.kid_number ab.parent ≡ down child number above = sym ab.is ∙ is in
    let ce : ab.child ≡ child = cc e in
    let ke : ab.kid_number ≡ number = cc e in
    let pe : ab.parent ≡ above = cc e in
    all k
    (subst (λ q. IsReaderKey g at t.tree q (kid child number a) k) pe
    (subst (λ n. IsReaderKey g at t.tree ab.parent (kid child n a) k) ke
    (subst (λ n. IsReaderKey g at t.tree ab.parent (kid n ab.kid_number a) k) ce ab.key_there))))
    (here_or_above g law at t.tree fits small node a valid k r))
    c.add_at-2.ensures.all
