-- The cursor goes on by a read, or to the next kid.
use Rattle.std.proofs.Common.{◌∙◌}
use Rattle.ftl_step_value.proofs.neighbours.NeighbourCursor.{first_neighbour, kid_cells, kid_neighbour}
use Rattle.ftl_step_value.proofs.neighbours.NeighbourCursor.{other_neighbours}
use Rattle.ftl_step_value.proofs.neighbours.cursor.NeighbourCells.next.Goals as goal

pub neighbour_cell-requires : goal.neighbour_cell-requires
neighbour_cell-requires c =
    let i = c.loop-self.self-inside in
    record {
      neighbours =
          first_neighbour i.own i.kid i.before i.each.now i.reads.now i.kids.now _ c.in-len1-up.len_at_least
          c.loop-self.invariant.cursor;
    }

pub invariant_of-self : goal.invariant_of-self
invariant_of-self c =
    let i = c.loop-self.self-inside in
    other_neighbours i.own i.kid i.before i.each.now i.reads.now i.kids.now c.in-len1-up.len_at_least
    c.loop-self.invariant.cursor

pub loop-self-preserved : goal.loop-self-preserved
loop-self-preserved c =
    let i = c.loop-self.self-inside in
    record {
      cursor =
          kid_neighbour i.own i.kid i.before i.each.now i.reads.now i.kids.now c.in-len1-up-kids.len_at_least
          c.loop-self.invariant.cursor;
      left =
          kid_cells i.own i.kid i.before i.each.now i.reads.now i.kids.now c.in_default.len_below
          c.in-len1-up-kids.len_at_least
          ∙ c.loop-self.invariant.left;
    }
