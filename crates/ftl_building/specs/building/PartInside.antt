-- The fields of a builder.
use Rattle.std.specs.Prelude.{◌≡◌, ℕ, ◌≤◌, List, length}
use Rattle.ftl_model.specs.layout.Limits.{most_nodes}
use Rattle.ftl_document.specs.declared.syntax.row.WrittenRow.{WrittenRow}
use Rattle.ftl_document.specs.syntax.Written.{NameText}
use Rattle.ftl_building.specs.building.PartDocument.{PartDocument}
use Rattle.ftl_building.specs.building.PartRows.{class_of, places_of, rows_of}
use Rattle.ftl_building.specs.building.PartSizes.{most_entries, nodes_in, nodes_open}
use Rattle.ftl_building.specs.building.RowsRead.{part_of_rows}
use Rattle.ftl_building.specs.declared.building.builder.DocumentBuilder.TheInside.{Inside}

-- this is the document's class, these are the places of what is open in it and its rows, and so many of its nodes are
-- open, of so many in all
pub record IsKept (p : PartDocument) (name : NameText) (at : List ℕ) (all : List WrittenRow) (levels_open count : ℕ)
    : Type 0 where
  pub class : class_of p ≡ name
  pub places : places_of p ≡ at
  pub rows : rows_of p ≡ all
  pub levels : nodes_open p ≡ levels_open
  pub nodes : nodes_in p ≡ count
  pub few : count ≤ most_nodes
  pub short : length all ≤ most_entries

-- the document of a builder
abbrev pub part_inside : Inside → PartDocument
part_inside b = part_of_rows b.class b.places b.rows.items

-- what a builder keeps is right
abbrev pub IsPart : Inside → Type 0
IsPart b = IsKept (part_inside b) b.class b.places b.rows.items b.levels b.nodes
