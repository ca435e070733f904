use Rattle.std.proofs.Common.{◌≡◌, ℕ, ◌++◌, [], ◌∷◌, if◌then◌else◌, sym, ◌∙◌, ap, subst, arith, ◌||◌, ◌==◌, length}
use Rattle.std.proofs.lemmas.Bool.{and_parts}
use Rattle.ftl_cursors.specs.visits.VisitSteps.{AreVisits, steps_of_nodes}
use Rattle.ftl_host_cursors.specs.HostPlaces.{grammar_of, inner_left, nodes_left, steps_in, tree_of}
use Rattle.ftl_host_cursors.specs.HostSteps.{hosted_steps, inner_pass_steps, is_topdown, own_steps}
use Rattle.ftl_host_cursors.proofs.Turns.{own_turn}
use Rattle.ftl_host_cursors.proofs.place.begin_own.Goals as goal

pub new-requires-clause-visits : goal.new-requires-clause-visits
new-requires-clause-visits c =
    let x = c.args.tables in
    subst (AreVisits (grammar_of x)) (sym c.requires.tables.visits)
    (c.visits_make_steps.ensures.visits (grammar_of x) c.requires.tables.law x.pass.now.kind c.requires.tables.kind
    x.pass.now.attrs)

pub returns-clause-left : goal.returns-clause-left
returns-clause-left c =
    let x = c.args.tables in
    let g = grammar_of x in
    let t = tree_of x in
    let at = c.args.at.now in
    let rest = steps_in x (nodes_left at.nodes) in
    let own = own_steps g t x.pass.now at.node in
    let steps : c.new.result ≡ own =
    c.new.ensures.steps ∙ ap (λ v. steps_of_nodes g t v (at.node ∷ [])) c.requires.tables.visits in
    ap (λ s. s ++ (hosted_steps x.pass.now.kind [] (inner_left x at) ++ rest)) steps
    ∙ own_turn (inner_pass_steps g t at.node) own rest x.pass.now.kind at.own at.passes.now c.requires.turn

pub returns-clause-less : goal.returns-clause-less
returns-clause-less c =
    let x = c.args.tables in
    let at = c.args.at.now in
    let both = and_parts at.own (is_topdown x.pass.now.kind || (length at.passes.now == 0)) c.requires.turn in
    let one = ap {B = ℕ} (λ o. if o then 1 else 0) both.0 in
    omega (arith, one)
