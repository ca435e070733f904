-- How a document that is written is told from another: by its class, the places of what is open, and its rows.
use Rattle.std.specs.Prelude.{◌≡◌, ℕ, zero, suc, ℤ, pos, List, [], refl}
use Rattle.std.specs.Coded.{Coded, code_by, coded×, coded_ℕ, coded_ℤ, coded_list}
use Rattle.ftl_document.specs.declared.syntax.row.WrittenRow.{WrittenRow}
use Rattle.ftl_document.specs.declared.syntax.row.WrittenRow.TheVariants as rows
use Rattle.ftl_document.specs.syntax.Written.{NameText}
use Rattle.ftl_building.specs.building.PartDocument.{PartDocument}
use Rattle.ftl_building.specs.building.PartRows.{class_of, places_of, rows_of}
use Rattle.ftl_building.specs.building.RowsRead.{part_of_rows, part_read}

-- a row as its kind and four parts, of which each kind has some
abbrev pub RowParts : Type 0
RowParts = ℕ × (NameText × (NameText × (ℤ × ℕ)))

-- the parts of a row
abbrev pub parts_of_row : WrittenRow → RowParts
parts_of_row (rows.Number name n) = (0, (name, ([], (n, 0))))
parts_of_row (rows.Single name class below) = (1, (name, (class, (pos 0, below))))
parts_of_row (rows.List name below) = (2, (name, ([], (pos 0, below))))
parts_of_row (rows.Kid class below) = (3, ([], (class, (pos 0, below))))

-- the row of this kind with these parts, where kinds are numbered from 0
abbrev pub row_by : (kind : ℕ) (name class : NameText) (n : ℤ) (below : ℕ) → WrittenRow
row_by zero name class n below = rows.Number name n
row_by (suc zero) name class n below = rows.Single name class below
row_by (suc (suc zero)) name class n below = rows.List name below
row_by (suc (suc (suc kind))) name class n below = rows.Kid class below

-- the row of parts
abbrev pub row_of_parts : RowParts → WrittenRow
row_of_parts t = row_by t.0 t.1.0 t.1.1.0 t.1.1.1.0 t.1.1.1.1

-- a row is the one of its parts
pub row_of_parts-of_row : (r : WrittenRow) → row_of_parts (parts_of_row r) ≡ r
row_of_parts-of_row (rows.Number name n) = refl
row_of_parts-of_row (rows.Single name class below) = refl
row_of_parts-of_row (rows.List name below) = refl
row_of_parts-of_row (rows.Kid class below) = refl

-- a row, by its parts
abbrev pub row_code : Coded WrittenRow
row_code =
    code_by RowParts (coded× coded_ℕ (coded× (coded_list coded_ℕ) (coded× (coded_list coded_ℕ) (coded× coded_ℤ coded_ℕ))))
    parts_of_row row_of_parts row_of_parts-of_row

-- the class, the places and the rows
abbrev pub PartParts : Type 0
PartParts = NameText × (List ℕ × List WrittenRow)

-- a document, by these
abbrev pub part_code : Coded PartDocument
part_code =
    code_by PartParts (coded× (coded_list coded_ℕ) (coded× (coded_list coded_ℕ) (coded_list row_code)))
    (λ p. (class_of p, (places_of p, rows_of p))) (λ t. part_of_rows t.0 t.1.0 t.1.1) part_read
