-- The cell is among those that a tree may have.
use Rattle.std.proofs.Common.{◌+◌, ◌<◌, arith, subst, sym}
use Rattle.ftl_model.specs.layout.Limits.{most_instances}
use Rattle.ftl_step_value.proofs.neighbours.cursor.neighbour_cell.Goals as goal

pub overflow_add-result : goal.overflow_add-result
overflow_add-result c =
    let room = subst (λ n. n + c.args.read.place < most_instances) (sym c.first_cell.ensures.cell) c.requires.neighbours in
    omega (arith, room)
