-- The key tells the instance.
use Rattle.std.proofs.Common.{◌≡◌, ap, sym, ◌∙◌, subst}
use Rattle.ftl_schedule.specs.stages.Stages.{stages_of}
use Rattle.ftl_relayout.specs.queue.Nets.{IsKeyOf, IsLawfulNet, IsStep}
use Rattle.ftl_relayout.specs.readers.Sites.{site_grammar, site_net}
use Rattle.ftl_relayout.specs.relayouter.TreeRules.{TreeRun, run_net}
use Rattle.ftl_relayout.proofs.laws.Relaid.{nets_are_lawful}
use Rattle.ftl_relayout.proofs.relayouter.tree_rules.TreeRulesRules.cell.Goals as goal

pub instance-requires-clause-node : goal.instance-requires-clause-node
instance-requires-clause-node c =
    let r = c.self.inside.readers in
    let req = subst (λ (x : TreeRun). IsKeyOf (run_net x) c.args.key) (sym c.self.view_is) c.requires.key in
    (c.told_instance-node.ensures.told req.cell (record { below = req.step.within; key_is = req.key_is })).known.node_known

pub instance-requires-clause-attr : goal.instance-requires-clause-attr
instance-requires-clause-attr c =
    let r = c.self.inside.readers in
    let req = subst (λ (x : TreeRun). IsKeyOf (run_net x) c.args.key) (sym c.self.view_is) c.requires.key in
    (c.told_instance-node.ensures.told req.cell (record { below = req.step.within; key_is = req.key_is })).known.attribute_known

pub returns-clause-step : goal.returns-clause-step
returns-clause-step c =
    let r = c.self.inside.readers in
    let req = subst (λ (x : TreeRun). IsKeyOf (run_net x) c.args.key) (sym c.self.view_is) c.requires.key in
    let told = c.told_instance-node.ensures.told req.cell (record { below = req.step.within; key_is = req.key_is }) in
    subst (λ (x : TreeRun). IsStep (run_net x) c.instance.result) c.self.view_is
    (subst (IsStep (site_net r)) (sym (c.instance.ensures.instance ∙ told.number)) req.step)

pub returns-clause-key : goal.returns-clause-key
returns-clause-key c =
    let r = c.self.inside.readers in
    let req = subst (λ (x : TreeRun). IsKeyOf (run_net x) c.args.key) (sym c.self.view_is) c.requires.key in
    let told = c.told_instance-node.ensures.told req.cell (record { below = req.step.within; key_is = req.key_is }) in
    subst (λ (x : TreeRun). (run_net x).key c.instance.result ≡ c.args.key) c.self.view_is
    (ap (site_net r).key (c.instance.ensures.instance ∙ told.number) ∙ req.key_is)

pub returns-clause-lawful : goal.returns-clause-lawful
returns-clause-lawful c =
    let r = c.self.inside.readers in
    let is = c.self.invariant in
    subst (λ (x : TreeRun). IsLawfulNet (run_net x)) c.self.view_is
    (nets_are_lawful (site_grammar r) (stages_of r.accepted.now.schedule) r.tree.now.tree is.readers.law is.ordered
    c.told_instance-node.ensures.is_tree is.readers.small)
