-- The runner is given what the reads of the part give.
use Rattle.std.proofs.Common.{ap, ◌∙◌, sym, map, take, length}
use Rattle.ftl_meaning.specs.grammars.Meaning.{sight, value_seen}
use Rattle.ftl_model.specs.layout.AttributeGrammar.{Read, occurrences}
use Rattle.ftl_visit.specs.step_reads.StepReads.{kids_in}
use Rattle.ftl_relayout.specs.values.PartSites.{value_at}
use Rattle.ftl_relayout.proofs.values.PartRuns.{run_gives}
use Rattle.ftl_relayout.proofs.values.part.run_part.Goals as goal

pub returns-clause-value : goal.returns-clause-value
returns-clause-value c =
    let t = c.args.tree.now in
    let x = c.args.part.now in
    let is = c.requires.part in
    let s = value_at t c.args.values.now x.step.node in
    run_gives c.parts_give_the_rule.ensures.has c.parts_give_the_rule.ensures.computes t.checked c.args.runner.now.programs
    c.requires.code x.step.rule is.rule x.part is.has
    (sight (kids_in t x.step.node) x.at_hand s c.args.so_far)
    (take (length x.reads.now) c.load.new.row)
    (c.load.ensures.given ∙ ap (map (λ (r : Read). value_seen s (occurrences (kids_in t x.step.node) x.at_hand r))) (sym is.reads))
    c.run.result c.run.ensures.value
