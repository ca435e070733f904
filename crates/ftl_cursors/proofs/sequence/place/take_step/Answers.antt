use Rattle.std.proofs.Common.{◌∷◌, ◌∙◌, ap, subst}
use Rattle.ftl_order.specs.declared.steps.step.Step.{Step}
use Rattle.ftl_tree.proofs.rows.Access.{number_at}
use Rattle.ftl_cursors.specs.sequence.Places.{FitOps, first_of, grammar_of, node_of, tree_of}
use Rattle.ftl_cursors.specs.sequence.SequenceRest.{rest_of_ops}
use Rattle.ftl_cursors.proofs.sequence.CursorMoves.{after_first, rule_and_rest}
use Rattle.ftl_cursors.proofs.sequence.place.take_step.Goals as goal

pub returns-clause-place : goal.returns-clause-place
returns-clause-place c =
    let x = c.args.tables in
    let at = c.args.at.now in
    record {
      node = c.requires.place.node;
      within = c.requires.place.within;
      ops =
          subst (FitOps (grammar_of x) (tree_of x) (node_of x at.node) at.kid)
          (rule_and_rest at.ops.now c.args.rule c.requires.rule) c.requires.place.ops;
    }

pub returns-clause-step : goal.returns-clause-step
returns-clause-step c =
    let x = c.args.tables in
    let at = c.args.at.now in
    let ops = at.ops.now in
    let rest = rest_of_ops (grammar_of x) (tree_of x) x.attrs.now (first_of x) (node_of x at.node) at.kid in
    ap rest (rule_and_rest ops c.args.rule c.requires.rule)
    ∙ ap
    (λ n. let made : Step = record { node = n; rule = c.args.rule; kid = at.kid } in made ∷ rest (after_first ops))
    (number_at (grammar_of x) (tree_of x) at.node c.node_count-nodes.ensures.is_tree c.requires.place.node)
