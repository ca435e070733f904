use Rattle.std.proofs.Common.{length, map, sym, subst, List, ℕ}
use Rattle.ftl_schedule.specs.stages.Stages.{pass_of}
use Rattle.ftl_cursors.specs.items.HostRows.{AreNumbers, cut_in}
use Rattle.ftl_cursors.specs.items.RowsFit.{AreStarts}
use Rattle.ftl_cursors.proofs.stages.rows.StageRows.new.Goals as goal

pub pass_starts-requires-clause-numbers : goal.pass_starts-requires-clause-numbers
pass_starts-requires-clause-numbers c =
    subst (AreNumbers c.args.items.now (length c.args.passes.now)) (sym c.as_slice.ensures.value)
    (subst (λ n. AreNumbers c.args.items.now n c.in_ok-cuts.cuts.items) c.requires.count
    c.in_ok-cuts.ensures.numbers.numbers_are)

pub returns : goal.returns
returns c =
    let items = c.args.items.now in
    let ps = map pass_of c.args.passes.now in
    record {
      rows = record {
        numbers = c.in_ok-cuts.ensures.numbers;
        starts =
            subst
            (λ (cuts : List ℕ). AreStarts (length ps) (cut_in items ps cuts) items.tree.now.tree c.in_ok-starts.starts.items)
            c.as_slice.ensures.value c.in_ok-starts.ensures.starts;
        tables = c.in_ok-tables.ensures.tables;
      };
    }
