use Rattle.std.proofs.Common.{◌≡◌, ◌<◌, ◌∙◌, sym, length, arith}
use Rattle.std.proofs.lemmas.List.{get_or_default}
use Rattle.ftl_cells.specs.work_phases.Phases.{phase_at}
use Rattle.ftl_cells.specs.declared.work_phases.phase.Phase.TheVariants.{Last}
use Rattle.ftl_lots.proofs.filling.spans.spans_of.Goals as goal

pub index-requires-in-Range : goal.index-requires-in-Range
index-requires-in-Range c =
    let t = c.args.phases.now in
    let item = c.loop-item.item in
    let there : item < length t.phases.items = omega (arith, c.loop-item-test.true, c.requires.count) in
    let at : c.index.result.now ≡ phase_at t item =
    c.index.ensures ∙ get_or_default t.phases.items item c.index.result.now Last there in
    let known = c.requires.known item c.in-Range.range (sym at ∙ c.in-Range.is) in
    omega (arith, known, c.loop-item.invariant.count)

pub index_mut-requires : goal.index_mut-requires
index_mut-requires c =
    let t = c.args.phases.now in
    let item = c.loop-item.item in
    let there : item < length t.phases.items = omega (arith, c.loop-item-test.true, c.requires.count) in
    let at : c.index.result.now ≡ phase_at t item =
    c.index.ensures ∙ get_or_default t.phases.items item c.index.result.now Last there in
    let known = c.requires.known item c.in-Range.range (sym at ∙ c.in-Range.is) in
    omega (arith, known, c.loop-item.invariant.count)
