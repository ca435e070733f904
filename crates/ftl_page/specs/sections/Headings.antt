-- Headings as the code sees them.
use Rattle.ftl_page.specs.declared.sections.words.Heading.{Heading}
use Rattle.ftl_page.specs.declared.sections.words.Heading.TheVariants.{Own, Named, Automatic}
use Rattle.ftl_page.specs.sections.Blocks.{Content, own, named, automatic}

-- what the code's heading is
abbrev pub content : Heading → Content
content (Own section) = own section
content (Named name) = named name.now
content Automatic = automatic
