use Rattle.std.proofs.Common.{ap, sym, subst, ◌∙◌, ◌+◌, set, arith}
use Rattle.ftl_model.specs.layout.Values.{word_of_value}
use Rattle.ftl_steal.specs.Alone.{IsFilledTo}
use Rattle.ftl_steal.proofs.Filling.{has_step, fills_on}
use Rattle.ftl_steal.proofs.alone.PlainFillerFiller.fill.Goals as goal

pub index_mut-requires : goal.index_mut-requires
index_mut-requires g c =
    let me = c.args.self.now in
    let law = c.requires.fit.lawful in
    let st = has_step (g.W.Meant.meaning me.work.now) me.item me.step c.requires.working.0 in
    omega (arith, c.requires.cell, c.requires.fit.count, law.target_in_range me.item me.step st)

pub overflow_add-self : goal.overflow_add-self
overflow_add-self g c =
    let me = c.args.self.now in
    let law = c.requires.fit.lawful in
    let st = has_step (g.W.Meant.meaning me.work.now) me.item me.step c.requires.working.0 in
    omega (arith, c.requires.working.0, (law.counted me.item st.item).1)

pub returns-clause-fit : goal.returns-clause-fit
returns-clause-fit g c =
    let me = c.args.self.now in
    let m = g.W.Meant.meaning me.work.now in
    let st = has_step m me.item me.step c.requires.working.0 in
    subst (λ at. IsFilledTo m (set me.words.items at c.word_of.result) me.item (me.step + 1)) (sym c.requires.cell)
    (fills_on m me.words.items me.item me.step c.word_of.result c.requires.fit st
    (c.word_of.ensures.word ∙ ap word_of_value c.requires.working.2))
