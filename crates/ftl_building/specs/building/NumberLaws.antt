-- What calls do with the numbers of a document.
use Rattle.std.specs.Prelude.{◌≡◌, ℕ, ℤ, true}
use Rattle.std.specs.List.{All}
use Rattle.ftl_model.specs.layout.TreeOf.{IsInput}
use Rattle.ftl_document.specs.nodes.Found.{AreRowsOf}
use Rattle.ftl_document.specs.syntax.Rows.{DocumentRows}
use Rattle.ftl_document.specs.syntax.Sizes.{RowIsWithin}
use Rattle.ftl_document.specs.syntax.Written.{NameText}
use Rattle.ftl_building.specs.building.PartDocument.{PartDocument, document_so_far, is_whole}
use Rattle.ftl_building.specs.building.PartWithin.{PartIsWithin}

-- the call adds no number that is out of range
abbrev pub StaysWithin : (change : PartDocument → PartDocument) → Type 0
StaysWithin change = (greatest : ℕ) (p : PartDocument) → PartIsWithin greatest p → PartIsWithin greatest (change p)

-- nor where the number that it adds is in range
abbrev pub NumbersStayWithin : (change : NameText → ℤ → PartDocument → PartDocument) → Type 0
NumbersStayWithin change =
    (greatest : ℕ) (name : NameText) (n : ℤ) (p : PartDocument) → IsInput greatest n → PartIsWithin greatest p
    → PartIsWithin greatest (change name n p)

-- then all numbers in the rows of the document are in range
abbrev pub RowsAreWithin : Type 0
RowsAreWithin =
    (greatest : ℕ) (p : PartDocument) (d : DocumentRows) → is_whole p ≡ true → PartIsWithin greatest p
    → AreRowsOf (document_so_far p) d → All (RowIsWithin greatest) d.rows
