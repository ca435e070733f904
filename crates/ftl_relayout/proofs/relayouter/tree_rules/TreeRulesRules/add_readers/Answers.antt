use Rattle.std.proofs.Common.{◌≡◌, ◌<◌, sym, subst}
use Rattle.ftl_relayout.specs.queue.Nets.{IsReaderBy}
use Rattle.ftl_relayout.specs.readers.Sites.{site_net}
use Rattle.ftl_relayout.specs.relayouter.TreeRules.{TreeRun, run_net}
use Rattle.ftl_relayout.proofs.queue.Trails.{on_ok}
use Rattle.std.proofs.Common.{inl, inr, ⊎_elim}
use Rattle.ftl_relayout.proofs.relayouter.tree_rules.TreeRulesRules.add_readers.Goals as goal

pub add_readers-requires-clause-attribute : goal.add_readers-requires-clause-attribute
add_readers-requires-clause-attribute c =
    let below = subst (λ (x : TreeRun). c.args.cell < (run_net x).cells) (sym c.self.view_is) c.requires.cell in
    let key = subst (λ (x : TreeRun). (run_net x).key c.args.cell ≡ c.args.key) (sym c.self.view_is) c.requires.key in
    (c.told_instance-node.ensures.told c.args.cell (record { below = below; key_is = key })).known

pub returns-clause-readers : goal.returns-clause-readers
returns-clause-readers c =
    let r = c.self.inside.readers in
    let below = subst (λ (x : TreeRun). c.args.cell < (run_net x).cells) (sym c.self.view_is) c.requires.cell in
    let key = subst (λ (x : TreeRun). (run_net x).key c.args.cell ≡ c.args.key) (sym c.self.view_is) c.requires.key in
    let told = c.told_instance-node.ensures.told c.args.cell (record { below = below; key_is = key }) in
    on_ok c.add_readers.result
    (λ all k by.
    all k
    (subst (λ n. IsReaderBy (site_net r) n k) (sym told.number)
    (subst (λ (x : TreeRun). IsReaderBy (run_net x) c.args.cell k) (sym c.self.view_is) by)))
    c.add_readers.ensures.all

pub returns-clause-no_others : goal.returns-clause-no_others
returns-clause-no_others c = λ k h.
    let r = c.self.inside.readers in
    let below = subst (λ (x : TreeRun). c.args.cell < (run_net x).cells) (sym c.self.view_is) c.requires.cell in
    let key = subst (λ (x : TreeRun). (run_net x).key c.args.cell ≡ c.args.key) (sym c.self.view_is) c.requires.key in
    let told = c.told_instance-node.ensures.told c.args.cell (record { below = below; key_is = key }) in
    ⊎_elim (λ l. inl l)
    (λ by.
    inr
    (subst (λ (x : TreeRun). IsReaderBy (run_net x) c.args.cell k) c.self.view_is
    (subst (λ n. IsReaderBy (site_net r) n k) told.number by)))
    (c.add_readers.ensures.adds.only k h)
