-- The sections of a page that a command needs, or the first fault of the page.
use Rattle.std.specs.Prelude.{ℕ, ◌+◌, Bool, true, false, List, [], ◌∷◌, ◌++◌, Option, Some, None, option_map}
use Rattle.std.specs.Prelude.{is_some, is_none, Result, Ok, Err, if◌then◌else◌}
use Rattle.std.specs.List.{position, take_while, flat_map}
use Rattle.std.specs.Str.{is_utf8}
use Rattle.ftl_page.specs.declared.sections.fault.Section.{Section}
use Rattle.ftl_page.specs.declared.sections.fault.Section.TheVariants.{Grammar, Schedule, Document, Edits}
use Rattle.ftl_page.specs.declared.sections.fault.PageFault.{PageFault}
use Rattle.ftl_page.specs.declared.sections.fault.PageFault.TheVariants.{NotText, BadVersion, UnknownSection, SectionTwice}
use Rattle.ftl_page.specs.declared.sections.fault.PageFault.TheVariants.{UnknownShipped, StrayText, NoSection}
use Rattle.ftl_base.specs.declared.width.Width.{Width}
use Rattle.ftl_page.specs.declared.sections.page.Need.{Need}
use Rattle.ftl_page.specs.declared.sections.page.Page.{Page}
use Rattle.ftl_page.specs.sections.Lines.{lines_of, words_of, is_body_line, is_stray}
use Rattle.ftl_page.specs.sections.Opening.{width_of_line}
use Rattle.ftl_page.specs.sections.Blocks.{Block, blocks_of, Content, own, named, automatic, content_of, section_of}
use Rattle.ftl_boxes.specs.Shipped.{shipped_text}

-- ---- the sections

-- whether two sections are one
abbrev pub is_same : Section → Section → Bool
is_same Grammar Grammar = true
is_same Schedule Schedule = true
is_same Document Document = true
is_same Edits Edits = true
is_same _ _ = false

-- the text of this content with these lines after the heading; none is automatic
abbrev pub section_text : Content → List (List ℕ) → Option (List ℕ)
section_text (own section) body = Some (flat_map (λ line. line) body)
section_text (named name) body = shipped_text name
section_text automatic body = None

-- the section's text, if this is what its heading stands for
abbrev pub text_if : Section → Option Content → List (List ℕ) → Option (Option (List ℕ))
text_if section None body = None
text_if section (Some content) body = if is_same section (section_of content) then Some (section_text content body)
    else None

-- the first of two that is there
abbrev pub or_else : Option (Option (List ℕ)) → Option (Option (List ℕ)) → Option (Option (List ℕ))
or_else None other = other
or_else (Some text) other = Some text

-- the section in these blocks, if they have it: its text, where it isn't automatic
unfoldable pub section_in : Section → List Block → Option (Option (List ℕ))
section_in section [] = None
section_in section (block ∷ blocks) = or_else (text_if section (content_of (words_of block.heading)) block.body)
    (section_in section blocks)

-- ---- the faults

-- the first stray line of these, of which the first has this number
unfoldable pub first_stray : ℕ → List (List ℕ) → Option PageFault
first_stray number lines = option_map (λ place. StrayText (number + place)) (position is_stray lines)

-- the fault in the lines after a heading of this content
abbrev pub body_fault : Content → ℕ → List (List ℕ) → Option PageFault
body_fault (own section) number body = None
body_fault (named name) number body = first_stray (number + 1) body
body_fault automatic number body = first_stray (number + 1) body

-- a grammar is asked for that isn't shipped
abbrev pub is_unknown : Content → Bool
is_unknown (named name) = is_none (shipped_text name)
is_unknown _ = false

-- the first fault of a block of this content, where some sections were there before
abbrev pub content_fault : (Section → Bool) → Option Content → ℕ → List (List ℕ) → Option PageFault
content_fault before None number body = Some (UnknownSection number)
content_fault before (Some content) number body =
    if before (section_of content) then Some (SectionTwice (section_of content) number)
    else (if is_unknown content then Some (UnknownShipped number)
    else body_fault content number body)

-- the first of two
abbrev pub first_of : Option PageFault → Option PageFault → Option PageFault
first_of None other = other
first_of (Some fault) other = Some fault

-- the first fault of these blocks, which come after those
unfoldable pub first_fault : List Block → List Block → Option PageFault
first_fault before [] = None
first_fault before (block ∷ blocks) =
    first_of
    (content_fault (λ section. is_some (section_in section before))
    (content_of (words_of block.heading)) block.number block.body)
    (first_fault (before ++ block ∷ []) blocks)

-- ---- the page

-- the text of a section that is needed, and none of one that isn't
abbrev pub needed_text : Section → (needed : Bool) → Option (Option (List ℕ)) → Result (Option (List ℕ)) PageFault
needed_text section false found = Ok None
needed_text section true (Some (Some text)) = Ok (Some text)
needed_text section true _ = Err (NoSection section)

-- the same of the schedule, which has no text where it is automatic
abbrev pub needed_schedule : (needed : Bool) → Option (Option (List ℕ)) → Result (Option (List ℕ)) PageFault
needed_schedule false found = Ok None
needed_schedule true (Some schedule) = Ok schedule
needed_schedule true None = Err (NoSection Schedule)

-- the page of these texts, or the first of their faults
abbrev pub page_of_texts : Width → List ℕ → (schedule document edits : Result (Option (List ℕ)) PageFault) →
    Result Page PageFault
page_of_texts width grammar (Ok schedule) (Ok document) (Ok edits) =
    Ok (record { width = width; grammar = grammar; schedule = schedule; document = document; edits = edits })
page_of_texts width grammar (Ok schedule) (Ok document) (Err fault) = Err fault
page_of_texts width grammar (Ok schedule) (Err fault) edits = Err fault
page_of_texts width grammar (Err fault) document edits = Err fault

-- the page with these sections, as far as they are there and needed
abbrev pub page_with : Width → Need → (grammar schedule document edits : Option (Option (List ℕ))) →
    Result Page PageFault
page_with width need (Some (Some grammar)) schedule document edits =
    page_of_texts width grammar (needed_schedule need.schedule schedule) (needed_text Document need.document document)
    (needed_text Edits need.edits edits)
page_with width need _ schedule document edits = Err (NoSection Grammar)

-- the page of its blocks after line 1
abbrev pub page_of_blocks : Width → Need → List Block → Result Page PageFault
page_of_blocks width need blocks =
    page_with width need (section_in Grammar blocks) (section_in Schedule blocks) (section_in Document blocks)
    (section_in Edits blocks)

-- the page, unless there was a fault before
abbrev pub unless_fault : Option PageFault → Result Page PageFault → Result Page PageFault
unless_fault None page = page
unless_fault (Some fault) page = Err fault

-- the page of its lines after line 1
unfoldable pub page_of_lines : Width → Need → List (List ℕ) → Result Page PageFault
page_of_lines width need lines =
    unless_fault (first_stray 2 (take_while is_body_line lines))
    (unless_fault (first_fault [] (blocks_of 2 lines))
    (page_of_blocks width need (blocks_of 2 lines)))

-- the page of the lines after one that names a width
abbrev pub page_after : Option Width → Need → List (List ℕ) → Result Page PageFault
page_after None need lines = Err BadVersion
page_after (Some width) need lines = page_of_lines width need lines

-- the page of a text by its lines
unfoldable pub page_of_text : Need → List (List ℕ) → Result Page PageFault
page_of_text need [] = Err BadVersion
page_of_text need (first ∷ lines) = page_after (width_of_line first) need lines

-- the page of bytes
unfoldable pub page_of : List ℕ → Need → Result Page PageFault
page_of bytes need = if is_utf8 bytes then page_of_text need (lines_of bytes) else Err NotText
