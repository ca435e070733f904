use Rattle.std.proofs.Common.{◌∙◌, ap}
use Rattle.ftl_deps.specs.reads.Meant.{meant}
use Rattle.ftl_step_value.specs.limits.faults.PlanFaults.{first_fault}
use Rattle.ftl_meaning.specs.faults.Checked.{CheckedGrammar}
use Rattle.ftl_nest_check.specs.stages.Nested.{nests_of}
use Rattle.ftl_nests.specs.Nests.{outer_schedule}
use Rattle.ftl_tree.specs.trees.CheckedTree.{CheckedTree}
use Rattle.maugzeris.proofs.pages.page.Page.values_alone.Goals as goal

pub words_alone-requires-clause-fits : goal.words_alone-requires-clause-fits
words_alone-requires-clause-fits c =
    let s = outer_schedule (nests_of c.schedule.result.now.schedule) in
    ap (λ (k : CheckedGrammar). first_fault (meant k) s c.tree.result.now.tree)
    (c.checked-checked.ensures.checked ∙ c.grammar-grammar.ensures.grammar)
    ∙ (ap (λ (t : CheckedTree). first_fault (meant c.args.self.now.checked) s t.tree) c.tree.ensures.tree
    ∙ c.schedule.ensures.fits c.requires.not_yet)
