use Rattle.std.proofs.Common.{arith, length}
use Rattle.ftl_cursors.specs.items.StageItems.{passes_in}
use Rattle.ftl_cursors.proofs.items.RowsByHost.{cut_is, number_known}
use Rattle.ftl_cursors.proofs.items.view.StageItems.rows_of.Goals as goal

pub bounds-self-pass : goal.bounds-self-pass
bounds-self-pass c =
    let long = c.args.self.now.numbers.count_is in
    let known = c.requires.known in
    omega (arith, long, known)

pub numbered-requires : goal.numbered-requires
numbered-requires c =
    let s = c.args.self.now in
    record { known = number_known s.rows.now (length s.passes.now) s.cuts.now s.numbers c.args.pass c.requires.known }

pub returns : goal.returns
returns c =
    let s = c.args.self.now in
    let long = s.numbers.count_is in
    let known = c.requires.known in
    record {
      rows =
          cut_is s.rows.now (passes_in s) s.cuts.now c.args.pass c.numbered.result.now (omega (arith, long, known))
          c.numbered.ensures.rows;
    }
