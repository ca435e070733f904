-- Headings with the lines after them, and what the headings stand for.
use Rattle.std.specs.Prelude.{ℕ, ◌+◌, List, [], ◌∷◌, Option, Some, None, codes, if◌then◌else◌}
use Rattle.std.specs.List.{take_while}
use Rattle.std.specs.Str.{bytes_eq}
use Rattle.ftl_page.specs.declared.sections.fault.Section.{Section}
use Rattle.ftl_page.specs.declared.sections.fault.Section.TheVariants.{Grammar, Schedule, Document, Edits}
use Rattle.ftl_page.specs.sections.Lines.{is_heading, is_body_line}

-- a heading, the number of its line, and the lines after it up to the next heading
pub record Block : Type 0 where
  pub number : ℕ
  pub heading : List ℕ
  pub body : List (List ℕ)

-- the blocks of these lines, of which the first has this number
unfoldable pub blocks_of : ℕ → List (List ℕ) → List Block
blocks_of number [] = []
blocks_of number (line ∷ lines) =
    if is_heading line then record { number = number; heading = line; body = take_while is_body_line lines } ∷ blocks_of
    (number + 1) lines
    else blocks_of (number + 1) lines

-- where the text of a section is
pub data Content : Type 0 where
  -- in the lines after the heading
  own : Section → Content
  -- in the shipped grammar of this name
  named : List ℕ → Content
  -- nowhere: the schedule is the automatic one
  automatic : Content

-- what these words after `%grammar` make of it
abbrev pub grammar_content : List (List ℕ) → Option Content
grammar_content [] = Some (own Grammar)
grammar_content (name ∷ []) = Some (named name)
grammar_content _ = None

-- and after `%schedule`
abbrev pub schedule_content : List (List ℕ) → Option Content
schedule_content [] = Some (own Schedule)
schedule_content (word ∷ []) = if bytes_eq word (codes "auto") then Some automatic else None
schedule_content _ = None

-- and after the heading of a section that takes no more words
abbrev pub plain_content : Section → List (List ℕ) → Option Content
plain_content section [] = Some (own section)
plain_content section _ = None

-- what a heading of these words stands for, if it is known
abbrev pub content_of : List (List ℕ) → Option Content
content_of [] = None
content_of (first ∷ words) =
    if bytes_eq first (codes "%grammar") then grammar_content words
    else (if bytes_eq first (codes "%schedule") then schedule_content words
    else (if bytes_eq first (codes "%document") then plain_content Document words
    else (if bytes_eq first (codes "%edits") then plain_content Edits words
    else None)))

-- the section that this content is of
abbrev pub section_of : Content → Section
section_of (own section) = section
section_of (named name) = Grammar
section_of automatic = Schedule
