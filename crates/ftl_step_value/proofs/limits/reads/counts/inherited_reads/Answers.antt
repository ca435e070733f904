use Rattle.std.proofs.Common.{◌≡◌, ◌<◌, ap, ◌∙◌, sym, subst, None, arith}
use Rattle.ftl_model.specs.layout.Path.{Has, Path, child_at, class_at, down, kid_at, node_at, top}
use Rattle.ftl_model.specs.layout.Solves.{instance_of}
use Rattle.ftl_model.proofs.layout.Fits.{kid_stands}
use Rattle.ftl_order.specs.orders.Lawful.{OfClass}
use Rattle.ftl_deps.specs.reads.Meant.{meant}
use Rattle.ftl_items.specs.stage_items.Limits.{read_count}
use Rattle.ftl_visit.specs.visits.Visits.{rule_number}
use Rattle.ftl_step_value.specs.limits.reads.ReadTables.{class_in}
use Rattle.ftl_step_value.proofs.limits.reads.Entries.{attribute_in_range, parent_is, root_is, there}
use Rattle.ftl_step_value.proofs.limits.reads.InstanceReads.{at_root, by_kid_rule, without_rules}
use Rattle.ftl_step_value.proofs.limits.reads.counts.inherited_reads.Goals as goal

pub returns-in_default-clause-count : goal.returns-in_default-clause-count
returns-in_default-clause-count c =
    let t = c.args.tree.now in
    let g = meant t.checked in
    let law = c.requires.sound.law in
    let fits = c.node_count-nodes.ensures.is_tree in
    let is : node_at t.tree c.args.node ≡ top =
    root_is g law t.tree fits c.args.node (grind (arith, c.in_default)) in
    sym
    (ap (λ (p : Path). read_count g t.tree (instance_of p c.args.attr)) is
    ∙ at_root g law t.tree fits c.args.attr (subst (Has t.tree) is (there g law t.tree fits c.args.node
    c.requires.node))
    (subst (λ p. OfClass g (class_at t.tree p) c.args.attr) is c.requires.attr)
    (subst (λ p. rule_number g (class_at t.tree p) None c.args.attr ≡ None) is c.requires.none))

pub kid_rule-requires : goal.kid_rule-requires
kid_rule-requires c =
    let t = c.args.tree.now in
    let g = meant t.checked in
    let law = c.requires.sound.law in
    let fits = c.node_count-nodes.ensures.is_tree in
    let up = parent_is g law t.tree fits c.args.node c.in-Some.parent c.requires.node (sym c.in-Some.ensures.parent) in
    let here = subst (Has t.tree) up.node_is (there g law t.tree fits c.args.node c.requires.node) in
    let stands = kid_stands g t.tree (child_at (node_at t.tree c.args.node)) (kid_at (node_at t.tree c.args.node))
    (node_at t.tree c.in-Some.parent) fits here in
    let child = c.place-place.ensures.child in
    record {
      sound = c.requires.sound;
      tables = c.requires.tables;
      node = up.known;
      child = subst (λ n. n < g.child_count (class_in t c.in-Some.parent)) (sym child) stands.declared;
      attr = attribute_in_range g law t.tree fits c.args.node c.args.attr c.requires.node c.requires.attr;
    }

pub rule_reads-requires : goal.rule_reads-requires
rule_reads-requires c =
    let t = c.args.tree.now in
    let g = meant t.checked in
    let law = c.requires.sound.law in
    let fits = c.node_count-nodes.ensures.is_tree in
    let up = parent_is g law t.tree fits c.args.node c.in-Some.parent c.requires.node (sym c.in-Some.ensures.parent) in
    let by = by_kid_rule g law t.tree fits c.place-place.result.child c.place-place.result.kid
    (node_at t.tree c.in-Some.parent) c.args.attr c.in-Some-kid_rule.rule (sym c.in-Some-kid_rule.ensures.rule) in
    record {
      sound = c.requires.sound;
      tables = c.requires.tables;
      node = up.known;
      rule = by.within;
      class = by.class;
    }

pub returns-in-Some-kid_rule-clause-count : goal.returns-in-Some-kid_rule-clause-count
returns-in-Some-kid_rule-clause-count c =
    let t = c.args.tree.now in
    let g = meant t.checked in
    let law = c.requires.sound.law in
    let fits = c.node_count-nodes.ensures.is_tree in
    let up = parent_is g law t.tree fits c.args.node c.in-Some.parent c.requires.node (sym c.in-Some.ensures.parent) in
    let child = c.place-place.result.child in
    let kid = c.place-place.result.kid in
    let above = node_at t.tree c.in-Some.parent in
    let by = by_kid_rule g law t.tree fits child kid above c.args.attr c.in-Some-kid_rule.rule
    (sym c.in-Some-kid_rule.ensures.rule) in
    let is : node_at t.tree c.args.node ≡ down child kid above =
    up.node_is
    ∙ ap (λ n. down n (kid_at (node_at t.tree c.args.node)) above) (sym c.place-place.ensures.child)
    ∙ ap (λ n. down child n above) (sym c.place-place.ensures.kid) in
    c.rule_reads.ensures.count
    ∙ sym (ap (λ (p : Path). read_count g t.tree (instance_of p c.args.attr)) is ∙ by.reads)

pub returns-in-None-clause-count : goal.returns-in-None-clause-count
returns-in-None-clause-count c =
    let t = c.args.tree.now in
    let g = meant t.checked in
    let law = c.requires.sound.law in
    let fits = c.node_count-nodes.ensures.is_tree in
    let up = parent_is g law t.tree fits c.args.node c.in-Some.parent c.requires.node (sym c.in-Some.ensures.parent) in
    let child = c.place-place.result.child in
    let kid = c.place-place.result.kid in
    let above = node_at t.tree c.in-Some.parent in
    let is : node_at t.tree c.args.node ≡ down child kid above =
    up.node_is
    ∙ ap (λ n. down n (kid_at (node_at t.tree c.args.node)) above) (sym c.place-place.ensures.child)
    ∙ ap (λ n. down child n above) (sym c.place-place.ensures.kid) in
    sym
    (ap (λ (p : Path). read_count g t.tree (instance_of p c.args.attr)) is
    ∙ without_rules g law t.tree fits child kid above c.args.attr
    (subst (Has t.tree) is (there g law t.tree fits c.args.node c.requires.node))
    (subst (λ p. OfClass g (class_at t.tree p) c.args.attr) is c.requires.attr)
    (subst (λ p. rule_number g (class_at t.tree p) None c.args.attr ≡ None) is c.requires.none)
    (sym c.in-None.ensures.rule))
