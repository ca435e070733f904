use Rattle.std.proofs.Common.{◌≡◌, ◌≢◌, ◌≤◌, ◌+◌, ap, sym, ◌∙◌, subst, length}
use Rattle.ftl_model.specs.layout.AttributeGrammar.{input}
use Rattle.ftl_model.specs.layout.Solves.{Instance}
use Rattle.ftl_model.specs.layout.Table.{value_in}
use Rattle.ftl_step_value.specs.value.StepValue.{value_of_equation}
use Rattle.ftl_relayout.specs.laws.TreeNets.{cost_at}
use Rattle.ftl_relayout.specs.queue.Nets.{IsStep, table}
use Rattle.ftl_relayout.specs.readers.Sites.{site_grammar, site_placing}
use Rattle.ftl_relayout.specs.relayouter.TreeRules.{TreeRun, run_net}
use Rattle.ftl_relayout.proofs.laws.TreeNets.{step_of}
use Rattle.ftl_relayout.proofs.relayouter.tree_rules.TreeRulesRules.compute.Goals as goal

pub writer-step-requires-clause-node : goal.writer-step-requires-clause-node
writer-step-requires-clause-node c =
    let step = subst (λ (x : TreeRun). IsStep (run_net x) c.args.cell) (sym c.self.view_is) c.requires.step in
    let key = subst (λ (x : TreeRun). (run_net x).key c.args.cell ≡ c.args.key) (sym c.self.view_is) c.requires.key in
    (c.told_instance-node.ensures.told c.args.cell (record { below = step.within; key_is = key })).known.node_known

pub writer-step-requires-clause-attr : goal.writer-step-requires-clause-attr
writer-step-requires-clause-attr c =
    let step = subst (λ (x : TreeRun). IsStep (run_net x) c.args.cell) (sym c.self.view_is) c.requires.step in
    let key = subst (λ (x : TreeRun). (run_net x).key c.args.cell ≡ c.args.key) (sym c.self.view_is) c.requires.key in
    (c.told_instance-node.ensures.told c.args.cell (record { below = step.within; key_is = key })).known.attribute_known

pub writer-step-requires-clause-computed : goal.writer-step-requires-clause-computed
writer-step-requires-clause-computed c =
    let r = c.self.inside.readers in
    let g = site_grammar r in
    let is = c.self.invariant in
    let step = subst (λ (x : TreeRun). IsStep (run_net x) c.args.cell) (sym c.self.view_is) c.requires.step in
    let key = subst (λ (x : TreeRun). (run_net x).key c.args.cell ≡ c.args.key) (sym c.self.view_is) c.requires.key in
    let told = c.told_instance-node.ensures.told c.args.cell (record { below = step.within; key_is = key }) in
    subst (λ (i : Instance). g.sort i.attribute ≢ input) (sym told.instance)
    (step_of g is.readers.law (site_placing r) r.tree.now.tree c.told_instance-node.ensures.is_tree is.readers.small c.args.cell
    step).1

pub value_of-requires-clause-values : goal.value_of-requires-clause-values
value_of-requires-clause-values c =
    subst (λ (x : TreeRun). length c.args.values.now ≡ (run_net x).cells) (sym c.self.view_is) c.requires.count

pub returns-clause-value : goal.returns-clause-value
returns-clause-value c =
    let r = c.self.inside.readers in
    let g = site_grammar r in
    let t = r.tree.now.tree in
    let step = subst (λ (x : TreeRun). IsStep (run_net x) c.args.cell) (sym c.self.view_is) c.requires.step in
    let key = subst (λ (x : TreeRun). (run_net x).key c.args.cell ≡ c.args.key) (sym c.self.view_is) c.requires.key in
    let told = c.told_instance-node.ensures.told c.args.cell (record { below = step.within; key_is = key }) in
    subst (λ (x : TreeRun). c.value_of.result ≡ (run_net x).value (table c.args.values.now) c.args.cell) c.self.view_is
    (c.value_of.ensures.value
    ∙ ap (value_of_equation g t (value_in g t c.args.values.now)) (c.writer-step.ensures.target ∙ told.instance))

pub returns-clause-stays : goal.returns-clause-stays
returns-clause-stays c = ap run_net c.self.view_is

pub returns-clause-grows : goal.returns-clause-grows
returns-clause-grows c =
    subst (λ (x : TreeRun). x.runs ≤ c.value_of.new.runner.runs) c.self.view_is c.value_of.ensures.grows

pub returns-clause-spent : goal.returns-clause-spent
returns-clause-spent c =
    let r = c.self.inside.readers in
    let g = site_grammar r in
    let t = r.tree.now.tree in
    let step = subst (λ (x : TreeRun). IsStep (run_net x) c.args.cell) (sym c.self.view_is) c.requires.step in
    let key = subst (λ (x : TreeRun). (run_net x).key c.args.cell ≡ c.args.key) (sym c.self.view_is) c.requires.key in
    let told = c.told_instance-node.ensures.told c.args.cell (record { below = step.within; key_is = key }) in
    subst (λ (x : TreeRun). c.value_of.new.runner.runs ≤ x.runs + (run_net x).cost c.args.cell) c.self.view_is
    (subst (λ (i : Instance). c.value_of.new.runner.runs ≤ c.self.inside.runner.runs + cost_at g t i)
    (c.writer-step.ensures.target ∙ told.instance) c.value_of.ensures.count)
