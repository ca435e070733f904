use Rattle.std.proofs.Common.{length, ap, sym, ◌∙◌}
use Rattle.std.proofs.lemmas.List.{length-reverse}
use Rattle.ftl_items.specs.numbers.ItemNumbers.{first_nodes_by}
use Rattle.ftl_schedule.specs.declared.syntax.kind.PassKind.{PassKind}
use Rattle.ftl_cursors.specs.items.RowsCut.{is_whole_in}
use Rattle.ftl_cursors.specs.items.StageItems.{tops_of}
use Rattle.ftl_cursors.proofs.items.columns.ItemRows.count.Goals as goal

pub returns-in-BottomUp : goal.returns-in-BottomUp
returns-in-BottomUp c =
    let s = c.args.self.now in
    record {
      count =
          c.begin_count-in-BottomUp.ensures.count
          ∙ sym (length-reverse (first_nodes_by (is_whole_in s) s.tree.now.tree))
          ∙ ap (λ (k : PassKind). length (tops_of s k)) (sym c.in-BottomUp.is);
      bound = c.begin_count-in-BottomUp.ensures.bound;
    }
