-- Rows of what is open.
use Rattle.std.specs.Prelude.{ℕ}
use Rattle.ftl_document.specs.declared.syntax.row.WrittenRow.{WrittenRow}
use Rattle.ftl_document.specs.declared.syntax.row.WrittenRow.TheVariants as rows

-- the row with so many below it
abbrev pub with_below : (below : ℕ) → WrittenRow → WrittenRow
with_below n (rows.Number name x) = rows.Number name x
with_below n (rows.Single name class below) = rows.Single name class n
with_below n (rows.List name below) = rows.List name n
with_below n (rows.Kid class below) = rows.Kid class n

-- how many nodes the row is: none of a number or a list
abbrev pub nodes_of_row : WrittenRow → ℕ
nodes_of_row (rows.Number name x) = 0
nodes_of_row (rows.Single name class below) = 1
nodes_of_row (rows.List name below) = 0
nodes_of_row (rows.Kid class below) = 1
