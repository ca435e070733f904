-- The cells of neighbours, by the first cells of their nodes; and a cursor over what a step reads: these first cells, the
-- reads at hand, and the kids to which a fold has yet to come.
use Rattle.std.specs.Prelude.{ℕ, ◌+◌, ◌<◌, List, ◌++◌, flat_map, map, Contains}
use Rattle.ftl_model.specs.layout.Limits.{most_instances}
use Rattle.ftl_step_value.specs.declared.neighbours.cursor.NeighbourCells.TheInside.{Inside}
use Rattle.ftl_step_value.specs.declared.neighbours.reads.NeighbourRead.{NeighbourRead}
use Rattle.ftl_step_value.specs.declared.neighbours.reads.NeighbourSite.{NeighbourSite}
use Rattle.ftl_step_value.specs.declared.neighbours.reads.NeighbourSite.TheVariants.{Before, Kid, Own}

-- the first cell of the node of a site, of these three
abbrev pub first_cell : (own kid before : ℕ) → NeighbourSite → ℕ
first_cell own kid before Own = own
first_cell own kid before Kid = kid
first_cell own kid before Before = before

-- the cell of a read
abbrev pub neighbour_cell : (own kid before : ℕ) → NeighbourRead → ℕ
neighbour_cell own kid before n = first_cell own kid before n.site + n.place

-- the cells of some reads
abbrev pub neighbour_cells : (own kid before : ℕ) → List NeighbourRead → List ℕ
neighbour_cells own kid before reads = map (neighbour_cell own kid before) reads

-- the cell of a read is among those that a tree may have
abbrev pub IsNeighbour : (own kid before : ℕ) → NeighbourRead → Type 0
IsNeighbour own kid before n = neighbour_cell own kid before n < most_instances

-- each of some reads is
abbrev pub AreNeighbours : (own kid before : ℕ) → List NeighbourRead → Type 0
AreNeighbours own kid before reads = (n : NeighbourRead) → Contains reads n → IsNeighbour own kid before n

-- the cells of the reads at hand, and then those of a step at each of these kids
abbrev pub cells_from_here : (own kid before : ℕ) → (reads each : List NeighbourRead) → (kids : List ℕ) → List ℕ
cells_from_here own kid before reads each kids =
    neighbour_cells own kid before reads ++ flat_map (λ k. neighbour_cells own k before each) kids

-- all that is there
pub record AreNeighboursFromHere (own kid before : ℕ) (reads each : List NeighbourRead) (kids : List ℕ) : Type 0 where
  pub here : AreNeighbours own kid before reads
  pub later : (k : ℕ) → Contains kids k → AreNeighbours own k before each

-- the cells that are left
abbrev pub cells_left : Inside → List ℕ
cells_left c = cells_from_here c.own c.kid c.before c.reads.now c.each.now c.kids.now

-- what is left is there
abbrev pub IsCursor : Inside → Type 0
IsCursor c = AreNeighboursFromHere c.own c.kid c.before c.reads.now c.each.now c.kids.now
