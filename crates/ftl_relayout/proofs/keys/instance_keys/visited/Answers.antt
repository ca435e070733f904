use Rattle.std.proofs.Common.{◌≡◌, sym, subst, arith}
use Rattle.ftl_deps.specs.reads.Meant.{meant}
use Rattle.ftl_meaning.specs.grammars.GrammarOf.{sort_of}
use Rattle.ftl_model.specs.layout.Path.{node_at, number_of}
use Rattle.ftl_model.specs.layout.Solves.{rule_node}
use Rattle.ftl_relayout.proofs.keys.Here.{number_here, parent_within}
use Rattle.ftl_relayout.proofs.keys.instance_keys.visited.Goals as goal

pub returns-in-Some-clause-within : goal.returns-in-Some-clause-within
returns-in-Some-clause-within c =
    let t = c.args.tree.now.tree in
    let less =
    parent_within t (node_at t c.args.node) c.in-Some.parent c.args.node
    (number_here (meant c.args.tree.now.checked) t c.args.node c.node_count-nodes.ensures.is_tree c.requires.node)
    (sym c.in-Some.ensures.parent) in
    let below = c.requires.node in
    omega (arith, less, below)

pub returns-in-Input-clause-visited : goal.returns-in-Input-clause-visited
returns-in-Input-clause-visited c =
    let t = c.args.tree.now.tree in
    subst (λ kind. c.args.node ≡ number_of t (rule_node (sort_of kind) (node_at t c.args.node))) (sym c.in-Input.is)
    (sym (number_here (meant c.args.tree.now.checked) t c.args.node c.node_count-nodes.ensures.is_tree c.requires.node))

pub returns-in-Syn-clause-visited : goal.returns-in-Syn-clause-visited
returns-in-Syn-clause-visited c =
    let t = c.args.tree.now.tree in
    subst (λ kind. c.args.node ≡ number_of t (rule_node (sort_of kind) (node_at t c.args.node))) (sym c.in-Syn.is)
    (sym (number_here (meant c.args.tree.now.checked) t c.args.node c.node_count-nodes.ensures.is_tree c.requires.node))

pub returns-in-Local-clause-visited : goal.returns-in-Local-clause-visited
returns-in-Local-clause-visited c =
    let t = c.args.tree.now.tree in
    subst (λ kind. c.args.node ≡ number_of t (rule_node (sort_of kind) (node_at t c.args.node))) (sym c.in-Local.is)
    (sym (number_here (meant c.args.tree.now.checked) t c.args.node c.node_count-nodes.ensures.is_tree c.requires.node))
