-- Pages by the texts of their sections.
use Rattle.std.specs.Prelude.{◌≡◌, ℕ, true, List, Some, Ok, is_some, option_map, string_bytes}
use Rattle.ftl_base.specs.Widths.{greatest_of_width}
use Rattle.ftl_page.specs.declared.sections.page.Need.{Need}
use Rattle.ftl_page.specs.declared.sections.page.Page.{Page}
use Rattle.ftl_page.specs.sections.Page.{page_of}
use Rattle.ftl_page_printing.specs.declared.pages.parts.Parts.{Parts}
use Rattle.ftl_page_printing.specs.pages.Alike.{SaysSame, SaysSameIfAny}

-- which sections a page of these parts has
abbrev pub need_of : Parts → Need
need_of parts = record { schedule = true; document = true; edits = is_some parts.edits }

-- the sections of the page say what the parts do
pub record HasParts (parts : Parts) (page : Page) : Type 0 where
  pub width : page.width ≡ parts.width
  pub grammar : SaysSame 2147483647 page.grammar (string_bytes parts.grammar)
  pub schedule : SaysSameIfAny 2147483647 page.schedule (option_map string_bytes parts.schedule)
  pub document : SaysSameIfAny (greatest_of_width parts.width) page.document (Some (string_bytes parts.document))
  pub edits : SaysSameIfAny (greatest_of_width parts.width) page.edits (option_map string_bytes parts.edits)

-- the text is that of a page with sections that say what the parts do
pub record IsPageOf (parts : Parts) (text : List ℕ) : Type 0 where
  pub page : Page
  pub is : page_of text (need_of parts) ≡ Ok page
  pub has : HasParts parts page
