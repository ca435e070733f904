use Rattle.std.proofs.Common.{◌+◌, arith}
use Rattle.std.specs.Slots.{slots_items}
use Rattle.ftl_cells.proofs.shared.KeptSteps.{elem_is}
use Rattle.ftl_cells.proofs.shared.Closing.{copied_more}
use Rattle.ftl_cells.proofs.shared.open.copy_cells.Goals as goal

pub loop-cell-preserved : goal.loop-cell-preserved
loop-cell-preserved c = copied_more (slots_items c.args.closed.now.words) c.loop-cell.word-items c.loop-cell.cell
    c.word.result (omega arith) c.loop-cell.invariant
    (elem_is (slots_items c.args.closed.now.words) (1 + c.loop-cell.cell) c.word.result 0 c.word.ensures)
