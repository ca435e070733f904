use Rattle.std.proofs.Common.{◌≡◌, ◌+◌, sym, subst, ap₂, arith}
use Rattle.ftl_deps.specs.reads.Meant.{meant}
use Rattle.ftl_meaning.specs.grammars.GrammarOf.{sort_of}
use Rattle.ftl_model.specs.layout.Path.{node_at}
use Rattle.ftl_order.specs.orders.Schedule.{inorder}
use Rattle.ftl_relayout.specs.keys.Keys.{time_of}
use Rattle.ftl_schedule.specs.stages.Stages.{kind_of}
use Rattle.ftl_relayout.proofs.keys.Here.{end_here, number_here}
use Rattle.ftl_relayout.proofs.keys.instance_keys.time_of.Goals as goal

pub overflow_add-result : goal.overflow_add-result
overflow_add-result c =
    let t = c.args.tree.now.tree in
    let w =
    end_here (meant c.args.tree.now.checked) t c.args.node c.subtree_size.result c.node_count-nodes.ensures.is_tree
    c.requires.node c.subtree_size.ensures.size in
    let b = c.node_count-nodes.ensures.bound in
    let k = c.node_count-nodes.ensures.count in
    omega (arith, w, b, k)

pub returns-in-Syn-clause-small : goal.returns-in-Syn-clause-small
returns-in-Syn-clause-small c =
    let t = c.args.tree.now.tree in
    let w =
    end_here (meant c.args.tree.now.checked) t c.args.node c.subtree_size.result c.node_count-nodes.ensures.is_tree
    c.requires.node c.subtree_size.ensures.size in
    let b = c.node_count-nodes.ensures.bound in
    let k = c.node_count-nodes.ensures.count in
    omega (arith, w, b, k)

pub returns-in-Syn-clause-time : goal.returns-in-Syn-clause-time
returns-in-Syn-clause-time c =
    let t = c.args.tree.now.tree in
    let p = node_at t c.args.node in
    subst (λ pass. c.args.node + c.subtree_size.result ≡ time_of (kind_of pass) t (sort_of c.args.kind) p)
    (sym c.in-InOrder.is)
    (subst (λ kind. c.args.node + c.subtree_size.result ≡ time_of inorder t (sort_of kind) p) (sym c.in-Syn.is)
    (ap₂ (λ n s. n + s)
    (sym (number_here (meant c.args.tree.now.checked) t c.args.node c.node_count-nodes.ensures.is_tree c.requires.node))
    c.subtree_size.ensures.size))

pub returns-in-Input-clause-time : goal.returns-in-Input-clause-time
returns-in-Input-clause-time c =
    let t = c.args.tree.now.tree in
    let p = node_at t c.args.node in
    subst (λ pass. c.args.node ≡ time_of (kind_of pass) t (sort_of c.args.kind) p) (sym c.in-InOrder.is)
    (subst (λ kind. c.args.node ≡ time_of inorder t (sort_of kind) p) (sym c.in-Input.is)
    (sym (number_here (meant c.args.tree.now.checked) t c.args.node c.node_count-nodes.ensures.is_tree c.requires.node)))

pub returns-in-Inh-clause-time : goal.returns-in-Inh-clause-time
returns-in-Inh-clause-time c =
    let t = c.args.tree.now.tree in
    let p = node_at t c.args.node in
    subst (λ pass. c.args.node ≡ time_of (kind_of pass) t (sort_of c.args.kind) p) (sym c.in-InOrder.is)
    (subst (λ kind. c.args.node ≡ time_of inorder t (sort_of kind) p) (sym c.in-Inh.is)
    (sym (number_here (meant c.args.tree.now.checked) t c.args.node c.node_count-nodes.ensures.is_tree c.requires.node)))

pub returns-in-Local-clause-time : goal.returns-in-Local-clause-time
returns-in-Local-clause-time c =
    let t = c.args.tree.now.tree in
    let p = node_at t c.args.node in
    subst (λ pass. c.args.node ≡ time_of (kind_of pass) t (sort_of c.args.kind) p) (sym c.in-InOrder.is)
    (subst (λ kind. c.args.node ≡ time_of inorder t (sort_of kind) p) (sym c.in-Local.is)
    (sym (number_here (meant c.args.tree.now.checked) t c.args.node c.node_count-nodes.ensures.is_tree c.requires.node)))
