-- The lines that refuse words and pages, without their line feed. Want of memory has none.
use Rattle.std.specs.Prelude.{ℕ, List, [], ◌++◌, codes}
use Rattle.std.specs.Fmt.{decimal}
use Rattle.ftl_page.specs.declared.sections.fault.PageFault.{PageFault}
use Rattle.ftl_page.specs.declared.sections.fault.PageFault.TheVariants as page
use Rattle.ftl_answer.specs.refusals.Names.{section_name}

-- words that are no command
abbrev pub words_line : List ℕ
words_line = codes "refused words"

-- a page of more bytes than there may be
abbrev pub too_long_line : List ℕ
too_long_line = codes "refused page: too long"

-- the first fault of a page
abbrev pub page_line : PageFault → List ℕ
page_line page.NotText = codes "refused page: not UTF-8"
page_line page.BadVersion = codes "refused page: first line is not %page 1"
page_line (page.UnknownSection line) = codes "refused page: unknown section at line " ++ decimal line
page_line (page.SectionTwice which line) =
    codes "refused page: section " ++ (section_name which ++ (codes " twice at line " ++ decimal line))
page_line (page.UnknownShipped line) = codes "refused page: unknown grammar at line " ++ decimal line
page_line (page.StrayText line) = codes "refused page: stray text at line " ++ decimal line
page_line (page.NoSection which) = codes "refused page: no section " ++ section_name which
page_line page.OutOfMemory = []
