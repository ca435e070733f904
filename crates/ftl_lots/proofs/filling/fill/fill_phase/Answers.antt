use Rattle.std.proofs.Common.{rules, ◌≡◌, ◌≢◌, ◌+◌, ◌<◌, ◌∙◌, length, subst, sym, arith}
use Rattle.std.proofs.lemmas.List.{get_or_default}
use Rattle.ftl_cells.specs.work_phases.Phases.{phase_at}
use Rattle.ftl_cells.specs.declared.work_phases.phase.Phase.TheVariants.{Last}
use Rattle.ftl_lots.specs.filling.Filled.{IsFilledIn}
use Rattle.ftl_lots.proofs.filling.Fills.{passes_by}
use Rattle.ftl_lots.proofs.filling.Spanned.{enters, goes_over, leaves}
use Rattle.ftl_lots.proofs.filling.fill.fill_phase.Goals.{then-is, else-is}
use Rattle.ftl_lots.proofs.filling.fill.fill_phase.Goals as goal

pub loop-item-init : goal.loop-item-init
loop-item-init g c =
    let m = g.W.Meant.meaning c.args.work.now in
    let t = c.args.phases.now in
    let words = g.S.WordRow.words c.args.words.now in
    let next = goes_over m t c.args.phase words c.args.first c.args.span.from c.next-item.result c.args.blocks
    c.requires.idle c.next-item.ensures.later c.next-item.ensures.passed
    (enters m t c.args.phase words c.args.first c.args.span c.requires.span c.requires.filled) in
    search rules

pub loop-item-preserved : goal.loop-item-preserved
loop-item-preserved g c =
    let m = g.W.Meant.meaning c.args.work.now in
    let t = c.args.phases.now in
    let inv = c.loop-item.invariant in
    let item = c.loop-item.item in
    let there : item < length t.phases.items =
    omega (arith, c.loop-item-test.true, c.requires.span.below, inv.filled.taken.count) in
    let at : c.index.result.now ≡ phase_at t item =
    c.index.ensures ∙ get_or_default t.phases.items item c.index.result.now Last there in
    let here : IsFilledIn m t c.args.phase (g.S.WordRow.words c.if-is.words) c.args.first (item + 1) 0 =
    elim c.if-is.branch [
      | then-is w ↦
          subst (λ ws. IsFilledIn m t c.args.phase (g.S.WordRow.words ws) c.args.first (item + 1) 0) (sym w.words-is)
          w.fill_item.ensures.filled
      | else-is w ↦
          let other : phase_at t item ≢ c.args.phase = λ same.
          let is_true = c.is.ensures.same.1 (at ∙ same) in
          absurd (cc) in
          subst (λ ws. IsFilledIn m t c.args.phase (g.S.WordRow.words ws) c.args.first (item + 1) 0) (sym w.words-is)
          (passes_by m t c.args.phase (g.S.WordRow.words c.loop-item.words) c.args.first item inv.filled other)
    ] in
    let next = goes_over m t c.args.phase (g.S.WordRow.words c.if-is.words) c.args.first (item + 1)
    c.next-item-in-loop-item.result c.args.blocks c.requires.idle c.next-item-in-loop-item.ensures.later
    c.next-item-in-loop-item.ensures.passed here in
    elim c.if-is.branch [ then-is w ↦ search rules | else-is w ↦ search rules ]

pub returns-clause-filled : goal.returns-clause-filled
returns-clause-filled g c =
    leaves (g.W.Meant.meaning c.args.work.now) c.args.phases.now c.args.phase (g.S.WordRow.words c.loop-item.words)
    c.args.first c.loop-item.item c.args.span c.requires.span c.loop-item-test.false c.loop-item.invariant.filled
