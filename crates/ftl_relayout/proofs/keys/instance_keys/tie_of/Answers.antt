use Rattle.std.proofs.Common.{◌≡◌, ◌-◌, sym, subst, ap₂}
use Rattle.ftl_deps.specs.reads.Meant.{meant}
use Rattle.ftl_meaning.specs.grammars.GrammarOf.{sort_of}
use Rattle.ftl_model.specs.layout.Path.{node_at}
use Rattle.ftl_order.specs.orders.Schedule.{inorder}
use Rattle.ftl_relayout.specs.keys.Keys.{tie_of}
use Rattle.ftl_schedule.specs.stages.Stages.{kind_of}
use Rattle.ftl_relayout.proofs.keys.Here.{number_here}
use Rattle.ftl_relayout.proofs.keys.instance_keys.tie_of.Goals as goal

pub returns-in-Syn-clause-tie : goal.returns-in-Syn-clause-tie
returns-in-Syn-clause-tie c =
    let t = c.args.tree.now.tree in
    let p = node_at t c.args.node in
    subst (λ pass. c.node_count.result - c.args.node ≡ tie_of (kind_of pass) t (sort_of c.args.kind) p) (sym c.in-InOrder.is)
    (subst (λ kind. c.node_count.result - c.args.node ≡ tie_of inorder t (sort_of kind) p) (sym c.in-Syn.is)
    (ap₂ (λ s n. s - n) c.node_count.ensures.count
    (sym (number_here (meant c.args.tree.now.checked) t c.args.node c.node_count-nodes.ensures.is_tree c.requires.node))))
