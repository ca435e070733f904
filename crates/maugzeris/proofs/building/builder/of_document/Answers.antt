use Rattle.std.proofs.Common.{◌∙◌, ap, sym, subst}
use Rattle.ftl_answer.specs.answers.Stages.{hands_on}
use Rattle.ftl_deps.specs.reads.Meant.{meant}
use Rattle.ftl_step_value.specs.limits.faults.PlanFaults.{first_fault}
use Rattle.ftl_meaning.specs.faults.Checked.{CheckedGrammar}
use Rattle.ftl_model.specs.layout.Tree.{Forest}
use Rattle.ftl_nest_check.specs.check.NestAccepted.{AcceptedNestingSchedule}
use Rattle.ftl_nest_check.specs.stages.Nested.{nests_of}
use Rattle.ftl_nests.specs.Nests.{outer_schedule}
use Rattle.ftl_document.specs.syntax.Written.{WrittenNode}
use Rattle.ftl_answer.specs.reading.sections.Outcomes.{IsOutcome}
use Rattle.ftl_answer.specs.reading.sections.WrittenTrees.{built_tree}
use Rattle.ftl_tree.specs.trees.CheckedTree.{CheckedTree}
use Rattle.maugzeris.specs.pages.PageState.{PageState}
use Rattle.maugzeris.proofs.refusals.Ways.{told_end, undecided}
use Rattle.maugzeris.proofs.building.builder.of_document.Goals as goal

pub of_tree-requires-clause-fits : goal.of_tree-requires-clause-fits
of_tree-requires-clause-fits c =
    let r = c.args.rules.now in
    let k = c.checked.result.now in
    let t = c.in-Ok.tree.tree in
    ap (λ (x : CheckedGrammar). first_fault (meant x) (outer_schedule (nests_of r.schedule)) t)
    (sym (c.checked.ensures.checked ∙ c.grammar.ensures.grammar))
    ∙ (ap (λ (a : AcceptedNestingSchedule). first_fault (meant k) (outer_schedule (nests_of a.schedule)) t)
    (sym c.schedule.ensures.schedule)
    ∙ c.in-Ok.ensures.fits)

pub returns-in_ok-of_tree-in-Ok-clause-outcome : goal.returns-in_ok-of_tree-in-Ok-clause-outcome
returns-in_ok-of_tree-in-Ok-clause-outcome c node rows =
    let r = c.args.rules.now in
    let t = c.in-Ok.tree.tree in
    subst (λ (f : Forest). built_tree r.checked r.schedule node (hands_on f))
    (sym (ap (λ (p : PageState). p.tree) c.in_ok-of_tree-in-Ok.ensures.page))
    (subst (λ (a : AcceptedNestingSchedule). built_tree r.checked a.schedule node (hands_on t)) c.schedule.ensures.schedule
    (subst (λ (k : CheckedGrammar). built_tree k c.schedule.result.now.schedule node (hands_on t))
    (c.checked.ensures.checked ∙ c.grammar.ensures.grammar) (c.in-Ok.ensures.outcome node rows)))

pub returns-in-Err-clause-outcome : goal.returns-in-Err-clause-outcome
returns-in-Err-clause-outcome c node rows =
    let r = c.args.rules.now in
    let end = c.in-Err.end in
    told_end (built_tree r.checked r.schedule node) (λ (t : CheckedTree). t.tree) (λ (p : PageState). p.tree) end c.refusal_of.result
    c.refusal_of.ensures.refusal
    (subst
    (λ (a : AcceptedNestingSchedule).
    IsOutcome (built_tree r.checked a.schedule node) (λ (t : CheckedTree). t.tree) (undecided CheckedTree end))
    c.schedule.ensures.schedule
    (subst
    (λ (k : CheckedGrammar).
    IsOutcome (built_tree k c.schedule.result.now.schedule node) (λ (t : CheckedTree). t.tree) (undecided CheckedTree end))
    (c.checked.ensures.checked ∙ c.grammar.ensures.grammar) (c.in-Err.ensures.outcome node rows)))
