-- A page as it is built by calls.
use Rattle.std.specs.Prelude.{ℤ}
use Rattle.ftl_base.specs.Widths.{greatest_of_width}
use Rattle.ftl_model.specs.layout.TreeOf.{IsInput}
use Rattle.ftl_nest_check.specs.check.NestAccepted.{AcceptedNestingSchedule}
use Rattle.ftl_building.specs.building.PartDocument.{PartDocument}
use Rattle.ftl_building.specs.building.PartSizes.{TakesField}
use Rattle.ftl_building.specs.building.PartWithin.{PartIsWithin}

-- the grammar with its schedule, and the document so far
pub record PagePart : Type 0 where
  pub rules : AcceptedNestingSchedule
  pub document : PartDocument

-- these, put together
abbrev pub page_part : AcceptedNestingSchedule → PartDocument → PagePart
page_part r d = record { rules = r; document = d }

-- all but the document stays, and that is changed so
abbrev pub changed : (PartDocument → PartDocument) → PagePart → PagePart
changed change p = page_part p.rules (change p.document)

-- the number is in the range of the grammar's width
abbrev pub IsNumber : PagePart → ℤ → Type 0
IsNumber p n = IsInput (greatest_of_width p.rules.checked.width) n

-- a field that is this number may come
abbrev pub TakesNumber : PagePart → ℤ → Type 0
TakesNumber p n = TakesField p.document × IsNumber p n

-- all numbers so far are in range
abbrev pub HasNumbers : PagePart → Type 0
HasNumbers p = PartIsWithin (greatest_of_width p.rules.checked.width) p.document
