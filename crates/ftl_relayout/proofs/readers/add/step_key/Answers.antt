-- The rule's target is an instance of the tree.
use Rattle.std.proofs.Common.{ap, ap₂, ◌∙◌, sym, subst}
use Rattle.ftl_deps.specs.reads.Products.{name_of_info}
use Rattle.ftl_step_value.proofs.limits.reads.Entries.{attribute_in_range, there}
use Rattle.ftl_model.specs.layout.Path.{class_at, node_at}
use Rattle.ftl_model.specs.layout.Solves.{instance_of}
use Rattle.ftl_order.specs.orders.Lawful.{OfClass}
use Rattle.ftl_order.specs.steps.Steps.{target_of_rule}
use Rattle.ftl_relayout.specs.keys.Keys.{key_of}
use Rattle.ftl_relayout.specs.readers.Sites.{site_grammar, site_placing}
use Rattle.ftl_relayout.proofs.keys.KeyPlaces.{index_small, stage_small}
use Rattle.ftl_relayout.proofs.readers.ReaderKeys.{runs_by}
use Rattle.ftl_relayout.proofs.readers.Targets.{target_attribute}
use Rattle.ftl_relayout.proofs.readers.add.step_key.Goals as goal

pub key_place-at-requires-clause-attr : goal.key_place-at-requires-clause-attr
key_place-at-requires-clause-attr c =
    let x = c.args.site.now in
    let t = x.tree.now in
    let g = site_grammar x in
    let law = c.requires.site.law in
    let fits = c.node_count-nodes.ensures.is_tree in
    let p = node_at t.tree c.args.node in
    let w = name_of_info c.args.info in
    let q = target_of_rule p w c.args.kid in
    let target = c.target_node-target.result in
    let at = c.target_node-target.ensures.target in
    let r =
    runs_by g law (site_placing x) t.tree fits p w c.args.kid (there g law t.tree fits c.args.node c.requires.node)
    c.requires.rule c.requires.class c.requires.kid in
    let of : OfClass g (class_at t.tree (node_at t.tree target)) c.args.info.attr =
    subst (λ a. OfClass g (class_at t.tree (node_at t.tree target)) a)
    (target_attribute t c.args.node c.args.info c.args.kid)
    (subst (λ n. OfClass g (class_at t.tree n) q.attribute) (sym at.is) r.step.0.1) in
    attribute_in_range g law t.tree fits target c.args.info.attr at.known of

pub key_of-requires-clause-attribute : goal.key_of-requires-clause-attribute
key_of-requires-clause-attribute c =
    let x = c.args.site.now in
    let t = x.tree.now in
    let g = site_grammar x in
    let law = c.requires.site.law in
    let fits = c.node_count-nodes.ensures.is_tree in
    let p = node_at t.tree c.args.node in
    let w = name_of_info c.args.info in
    let q = target_of_rule p w c.args.kid in
    let target = c.target_node-target.result in
    let at = c.target_node-target.ensures.target in
    let r =
    runs_by g law (site_placing x) t.tree fits p w c.args.kid (there g law t.tree fits c.args.node c.requires.node)
    c.requires.rule c.requires.class c.requires.kid in
    let of : OfClass g (class_at t.tree (node_at t.tree target)) c.args.info.attr =
    subst (λ a. OfClass g (class_at t.tree (node_at t.tree target)) a)
    (target_attribute t c.args.node c.args.info c.args.kid)
    (subst (λ n. OfClass g (class_at t.tree n) q.attribute) (sym at.is) r.step.0.1) in
    record {
      node_known = at.known;
      attribute_known = of;
      counted = attribute_in_range g law t.tree fits target c.args.info.attr at.known of;
    }

pub key_of-requires-clause-stage : goal.key_of-requires-clause-stage
key_of-requires-clause-stage c =
    let x = c.args.site.now in
    stage_small x.tree.now.checked x.accepted.now.schedule x.tree.now.tree c.requires.site.small c.args.info.attr
    c.key_place-at.result c.key_place-at.ensures.place

pub key_of-requires-clause-index : goal.key_of-requires-clause-index
key_of-requires-clause-index c =
    let x = c.args.site.now in
    index_small x.tree.now.checked x.accepted.now.schedule x.tree.now.tree c.requires.site.small c.args.info.attr
    c.key_place-at.result c.key_place-at.ensures.place

pub returns : goal.returns
returns c =
    let x = c.args.site.now in
    let t = x.tree.now.tree in
    record {
      key =
          c.key_of.ensures.key x.accepted.now.schedule c.key_place-at.ensures.place
          ∙ ap (key_of (site_grammar x) (site_placing x) t)
          (ap₂ instance_of c.target_node-target.ensures.target.is
          (sym (target_attribute x.tree.now c.args.node c.args.info c.args.kid)));
    }
