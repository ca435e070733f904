use Rattle.std.proofs.Common.{rules, arith, ◌≡◌, ◌+◌, ◌-◌, ◌∙◌}
use Rattle.ftl_steal.proofs.Filling.{has_step}
use Rattle.ftl_lots.proofs.filling.Fills.{read_gives}
use Rattle.ftl_lots.proofs.filling.filler.PhaseFillerFiller.read.Goals as goal

pub overflow_sub-cell : goal.overflow_sub-cell
overflow_sub-cell g c =
    let me = c.args.self.now in
    let st = has_step (g.W.Meant.meaning me.work.now) me.item me.step c.requires.working.0 in
    omega (
      arith,
      c.requires.cell,
      (c.requires.fit.0.reads me.item me.step me.reads st c.requires.working.1 c.requires.fit.1).0,
    )

pub word-word-requires-clause-place : goal.word-word-requires-clause-place
word-word-requires-clause-place g c =
    let me = c.args.self.now in
    let st = has_step (g.W.Meant.meaning me.work.now) me.item me.step c.requires.working.0 in
    let b = c.requires.fit.0.reads me.item me.step me.reads st c.requires.working.1 c.requires.fit.1 in
    omega (arith, c.requires.cell, b.0, b.1)

pub overflow_add-self : goal.overflow_add-self
overflow_add-self g c =
    let me = c.args.self.now in
    let law = c.requires.fit.0.lawful in
    let st = has_step (g.W.Meant.meaning me.work.now) me.item me.step c.requires.working.0 in
    omega (arith, c.requires.working.1, law.reads_counted me.item me.step st)

pub unwrap-requires : goal.unwrap-requires
unwrap-requires g c =
    let me = c.args.self.now in
    let st = has_step (g.W.Meant.meaning me.work.now) me.item me.step c.requires.working.0 in
    let b = c.requires.fit.0.reads me.item me.step me.reads st c.requires.working.1 c.requires.fit.1 in
    let at : c.args.cell ≡ me.first + (c.args.cell - me.first) = omega (arith, c.requires.cell, b.0) in
    let is = read_gives (g.W.Meant.meaning me.work.now) me.phases.now me.phase (g.S.WordRow.words me.words.now) me.first me.item me.step
    me.reads c.args.cell (c.args.cell - me.first) c.val_of.result c.requires.fit.0 c.requires.fit.1 st
    c.requires.working.1 c.requires.cell at (λ v known e. c.val_of.ensures.only v known (c.word-word.ensures.word ∙ e)) in
    search rules

pub returns-clause-value : goal.returns-clause-value
returns-clause-value g c =
    let me = c.args.self.now in
    let st = has_step (g.W.Meant.meaning me.work.now) me.item me.step c.requires.working.0 in
    let b = c.requires.fit.0.reads me.item me.step me.reads st c.requires.working.1 c.requires.fit.1 in
    let at : c.args.cell ≡ me.first + (c.args.cell - me.first) = omega (arith, c.requires.cell, b.0) in
    let is = read_gives (g.W.Meant.meaning me.work.now) me.phases.now me.phase (g.S.WordRow.words me.words.now) me.first me.item me.step
    me.reads c.args.cell (c.args.cell - me.first) c.val_of.result c.requires.fit.0 c.requires.fit.1 st
    c.requires.working.1 c.requires.cell at (λ v known e. c.val_of.ensures.only v known (c.word-word.ensures.word ∙ e)) in
    search rules
