use Rattle.std.proofs.Common.{◌≡◌, ◌+◌, ◌-◌, ap, subst, sym, ◌∙◌, arith}
use Rattle.ftl_model.specs.layout.Values.{word_of_value}
use Rattle.ftl_cells.specs.shared.Work.{target_of}
use Rattle.ftl_steal.proofs.Filling.{has_step}
use Rattle.ftl_lots.specs.filling.Filled.{IsFilledIn}
use Rattle.ftl_lots.proofs.filling.Fills.{fills_on}
use Rattle.ftl_lots.proofs.filling.filler.PhaseFillerFiller.fill.Goals as goal

pub overflow_sub-place : goal.overflow_sub-place
overflow_sub-place g c =
    let me = c.args.self.now in
    let st = has_step (g.W.Meant.meaning me.work.now) me.item me.step c.requires.working.0 in
    omega (arith, c.requires.cell, (c.requires.fit.0.targets me.item me.step st c.requires.fit.1).0)

pub set_word-requires-clause-place : goal.set_word-requires-clause-place
set_word-requires-clause-place g c =
    let me = c.args.self.now in
    let st = has_step (g.W.Meant.meaning me.work.now) me.item me.step c.requires.working.0 in
    let b = c.requires.fit.0.targets me.item me.step st c.requires.fit.1 in
    omega (arith, c.requires.cell, b.0, b.1)

pub overflow_add-self : goal.overflow_add-self
overflow_add-self g c =
    let me = c.args.self.now in
    let law = c.requires.fit.0.lawful in
    let st = has_step (g.W.Meant.meaning me.work.now) me.item me.step c.requires.working.0 in
    omega (arith, c.requires.working.0, (law.counted me.item st.item).1)

pub returns-clause-fit : goal.returns-clause-fit
returns-clause-fit g c =
    let me = c.args.self.now in
    let m = g.W.Meant.meaning me.work.now in
    let st = has_step m me.item me.step c.requires.working.0 in
    let b = c.requires.fit.0.targets me.item me.step st c.requires.fit.1 in
    let at : target_of m me.item me.step ≡ me.first + (c.args.cell - me.first) =
    omega (arith, c.requires.cell, b.0) in (
      subst (λ ws. IsFilledIn m me.phases.now me.phase ws me.first me.item (me.step + 1)) (sym c.set_word.ensures.words)
          (fills_on m me.phases.now me.phase (g.S.WordRow.words me.words.now) me.first me.item me.step
          (c.args.cell - me.first) c.word_of.result c.requires.fit.0 c.requires.fit.1 st at
          (c.word_of.ensures.word ∙ ap word_of_value c.requires.working.2)),
      c.requires.fit.1,
      c.set_word.ensures.fit,
    )
