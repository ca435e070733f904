-- The sections as the code finds them.
use Rattle.std.specs.Prelude.{◌≡◌, ℕ, false, List, ◌++◌, Option, Some, None, Result, Ok, Err, option_map, is_some}
use Rattle.ftl_page.specs.declared.sections.fault.Section.{Section}
use Rattle.ftl_page.specs.declared.sections.fault.Section.TheVariants.{Grammar, Schedule, Document, Edits}
use Rattle.ftl_page.specs.declared.sections.fault.PageFault.{PageFault}
use Rattle.ftl_page.specs.declared.sections.section.SectionText.{SectionText}
use Rattle.ftl_page.specs.declared.sections.section.SectionText.TheVariants.{Given, Automatic}
use Rattle.ftl_page.specs.declared.sections.section.Sections.{Sections}
use Rattle.ftl_page.specs.sections.Blocks.{Content, Block}
use Rattle.ftl_page.specs.sections.Page.{section_text, text_if, or_else, content_fault, section_in, first_fault}

-- the text that was found; none is automatic
abbrev pub given_text : SectionText → Option (List ℕ)
given_text (Given text) = Some text.now
given_text Automatic = None

-- the section, if it was found: its text, where it isn't automatic
abbrev pub found_in : Section → Sections → Option (Option (List ℕ))
found_in Grammar sections = option_map given_text sections.grammar
found_in Schedule sections = option_map given_text sections.schedule
found_in Document sections = option_map given_text sections.document
found_in Edits sections = option_map given_text sections.edits

-- the text of this content, or the fault of its block
abbrev pub TextGives : Result SectionText PageFault → Content → ℕ → List (List ℕ) → Type 0
TextGives (Ok text) content number body = (content_fault (λ _. false) (Some content) number body ≡ None)
    × (given_text text ≡ section_text content body)
TextGives (Err fault) content number body = content_fault (λ _. false) (Some content) number body ≡ Some fault

-- the old sections with that of this content, or the fault of its block
abbrev pub AddGives : Result Sections PageFault → Sections → Option Content → ℕ → List (List ℕ) → Type 0
AddGives (Ok new) old content number body =
    (content_fault (λ s. is_some (found_in s old)) content number body ≡ None)
    × ((s : Section) → found_in s new ≡ or_else (found_in s old) (text_if s content body))
AddGives (Err fault) old content number body = content_fault
    (λ s. is_some (found_in s old)) content number body ≡ Some fault

-- the sections of all these blocks, or the first fault of the later ones
abbrev pub AreSectionsOf : Result Sections PageFault → List Block → List Block → Type 0
AreSectionsOf (Ok new) before blocks = (first_fault before blocks ≡ None)
    × ((s : Section) → found_in s new ≡ section_in s (before ++ blocks))
AreSectionsOf (Err fault) before blocks = first_fault before blocks ≡ Some fault

-- wherever the old sections are those of some blocks, these are those of these blocks too, or it is their first fault
abbrev pub SectionsGive : Result Sections PageFault → Sections → List Block → Type 0
SectionsGive result old blocks = (before : List Block) → ((s : Section) → found_in s old ≡ section_in s before)
    → AreSectionsOf result before blocks
