use Rattle.std.proofs.Common.{rules, arith}
use Rattle.ftl_steal.proofs.Filling.{has_step, read_gives}
use Rattle.ftl_steal.proofs.alone.PlainFillerFiller.read.Goals as goal

pub index-word-requires : goal.index-word-requires
index-word-requires g c =
    let me = c.args.self.now in
    let law = c.requires.fit.lawful in
    let st = has_step (g.W.Meant.meaning me.work.now) me.item me.step c.requires.working.0 in
    omega (
      arith,
      c.requires.cell,
      c.requires.fit.count,
      law.read_in_range me.item me.step me.reads st c.requires.working.1,
    )

pub overflow_add-self : goal.overflow_add-self
overflow_add-self g c =
    let me = c.args.self.now in
    let law = c.requires.fit.lawful in
    let st = has_step (g.W.Meant.meaning me.work.now) me.item me.step c.requires.working.0 in
    omega (arith, c.requires.working.1, law.reads_counted me.item me.step st)

pub unwrap-requires : goal.unwrap-requires
unwrap-requires g c =
    let me = c.args.self.now in
    let st = has_step (g.W.Meant.meaning me.work.now) me.item me.step c.requires.working.0 in
    let is = read_gives (g.W.Meant.meaning me.work.now) me.words.items me.item me.step me.reads c.args.cell
    c.index-word.result.now c.val_of.result c.requires.fit st c.requires.working.1 c.requires.cell c.index-word.ensures
    c.val_of.ensures.only in
    search rules

pub returns-clause-value : goal.returns-clause-value
returns-clause-value g c =
    let me = c.args.self.now in
    let st = has_step (g.W.Meant.meaning me.work.now) me.item me.step c.requires.working.0 in
    let is = read_gives (g.W.Meant.meaning me.work.now) me.words.items me.item me.step me.reads c.args.cell
    c.index-word.result.now c.val_of.result c.requires.fit st c.requires.working.1 c.requires.cell c.index-word.ensures
    c.val_of.ensures.only in
    search rules
