use Rattle.std.proofs.Common.{ap₂, arith, ◌+◌, ◌∙◌}
use Rattle.ftl_model.specs.layout.Path.{class_at, node_at}
use Rattle.ftl_tree.proofs.trees.Known.{class_within, first_is, instance_room, known, length_first_instances, place_is}
use Rattle.ftl_tree.proofs.trees.Known.{place_known}
use Rattle.ftl_tree.proofs.trees.tree.Tree.instance.Goals as goal

pub index-requires : goal.index-requires
index-requires c =
    let k = known c.self.inside c.args.self.now c.self.invariant c.self.view_is in
    omega (arith, length_first_instances c.self.inside c.args.self.now k, c.requires.node)

pub index-requires-2 : goal.index-requires-2
index-requires-2 c =
    let i = c.self.inside in
    let t = c.args.self.now in
    let k = known i t c.self.invariant c.self.view_is in
    let within = place_known i t k (class_at t.tree (node_at t.tree c.args.node)) c.args.attr
    (class_within i t k c.args.node c.requires.node) c.requires.attr in
    omega (arith, within)

pub overflow_add-result : goal.overflow_add-result
overflow_add-result c =
    let i = c.self.inside in
    let t = c.args.self.now in
    let k = known i t c.self.invariant c.self.view_is in
    let first = c.index.ensures ∙ first_is i t k c.args.node c.index.result.now c.requires.node in
    let place = c.index-2.ensures
    ∙ place_is i t k (class_at t.tree (node_at t.tree c.args.node)) c.args.attr c.index-2.result.now
    (class_within i t k c.args.node c.requires.node) c.requires.attr in
    omega (arith, first, place, instance_room i t k c.args.node c.args.attr c.requires.node c.requires.attr)

pub returns : goal.returns
returns c =
    let i = c.self.inside in
    let t = c.args.self.now in
    let k = known i t c.self.invariant c.self.view_is in
    let first = c.index.ensures ∙ first_is i t k c.args.node c.index.result.now c.requires.node in
    let place = c.index-2.ensures
    ∙ place_is i t k (class_at t.tree (node_at t.tree c.args.node)) c.args.attr c.index-2.result.now
    (class_within i t k c.args.node c.requires.node) c.requires.attr in
    record { instance = ap₂ (λ m n. m + n) first place }
