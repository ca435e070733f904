use Rattle.ftl_grammar.proofs.expressions.depth.+nested.Given as goal

abbrev pub decreases-cond : goal.decreases-cond
decreases-cond l = l.depth

abbrev pub decreases-expr : goal.decreases-expr
decreases-expr l = l.depth
