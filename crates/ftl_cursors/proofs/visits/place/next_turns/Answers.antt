use Rattle.std.proofs.Common.{◌<◌, sym, ◌∙◌, arith}
use Rattle.ftl_cursors.specs.visits.Places.{grammar_of, nodes_left, tree_of}
use Rattle.ftl_cursors.proofs.visits.LeftLemmas.{kids_taken}
use Rattle.ftl_cursors.proofs.visits.place.next_turns.Goals as goal

pub returns-clause-steps : goal.returns-clause-steps
returns-clause-steps c =
    let x = c.args.tables in
    let at = c.search.at in
    let kids = c.search.invariant.place.kids in
    let steps =
    sym c.search.invariant.left
    ∙ kids_taken (grammar_of x) (tree_of x) x.visits.now at.node at.rule at.kid at.kid_end at.ops.now (nodes_left x at) in
    let some : at.kid < at.kid_end = omega (arith, c.search-test.false) in
    (steps, some)
