-- No first fault of a page is want of memory.
use Rattle.std.proofs.Common.{◌≢◌, ℕ, ◌+◌, Bool, true, false, List, [], ◌∷◌, ◌++◌, Option, Some, None, Result, Ok, Err}
use Rattle.std.specs.Prelude.{if◌then◌else◌, is_some, option_map}
use Rattle.std.specs.List.{position, take_while}
use Rattle.std.specs.Str.{is_utf8}
use Rattle.ftl_base.specs.declared.width.Width.{Width}
use Rattle.ftl_page.specs.declared.sections.fault.PageFault.{PageFault}
use Rattle.ftl_page.specs.declared.sections.fault.PageFault.TheVariants.{NotText, OutOfMemory, SectionTwice, StrayText}
use Rattle.ftl_page.specs.declared.sections.fault.PageFault.TheVariants.{UnknownShipped}
use Rattle.ftl_page.specs.declared.sections.fault.Section.{Section}
use Rattle.ftl_page.specs.declared.sections.fault.Section.TheVariants.{Document, Edits, Grammar, Schedule}
use Rattle.ftl_page.specs.declared.sections.page.Need.{Need}
use Rattle.ftl_page.specs.declared.sections.page.Page.{Page}
use Rattle.ftl_page.specs.sections.Blocks.{Block, Content, automatic, blocks_of, content_of, named, own, section_of}
use Rattle.ftl_page.specs.sections.Lines.{is_body_line, is_stray, lines_of, words_of}
use Rattle.ftl_page.specs.sections.Opening.{width_of_line}
use Rattle.ftl_page.specs.sections.Page.{body_fault, content_fault, first_fault, first_of, first_stray, is_unknown}
use Rattle.ftl_page.specs.sections.Page.{needed_schedule, needed_text, page_after, page_of, page_of_blocks, page_of_lines}
use Rattle.ftl_page.specs.sections.Page.{page_of_text, page_of_texts, page_with, section_in, unless_fault}

-- the fault of a page, as a result of this type
abbrev refused : (X : Type 0) → PageFault → Result X PageFault
refused X fault = Err fault

if_never : {Y : Type 0} (bad : Y) (b : Bool) (x y : Y) → x ≢ bad → y ≢ bad → (if b then x else y) ≢ bad
if_never bad true x y p q = p
if_never bad false x y p q = q

first_never : (x y : Option PageFault) → x ≢ Some OutOfMemory → y ≢ Some OutOfMemory → first_of x y ≢ Some OutOfMemory
first_never None y p q = q
first_never (Some fault) y p q = p

place_never : (number : ℕ) (place : Option ℕ) → option_map (λ p. StrayText (number + p)) place ≢ Some OutOfMemory
place_never number None = λ e. cc
place_never number (Some p) = λ e. cc

stray_never : (number : ℕ) (lines : List (List ℕ)) → first_stray number lines ≢ Some OutOfMemory
unfolding first_stray
stray_never number lines = place_never number (position is_stray lines)

body_never : (content : Content) (number : ℕ) (body : List (List ℕ)) → body_fault content number body ≢ Some OutOfMemory
body_never (own section) number body = λ e. cc
body_never (named name) number body = stray_never (number + 1) body
body_never automatic number body = stray_never (number + 1) body

content_never : (before : Section → Bool) (content : Option Content) (number : ℕ) (body : List (List ℕ))
    → content_fault before content number body ≢ Some OutOfMemory
content_never before None number body = λ e. cc
content_never before (Some content) number body =
    if_never (Some OutOfMemory) (before (section_of content)) (Some (SectionTwice (section_of content) number))
    (if is_unknown content then Some (UnknownShipped number) else body_fault content number body) (λ e. cc)
    (if_never (Some OutOfMemory) (is_unknown content) (Some (UnknownShipped number)) (body_fault content number body) (λ e. cc)
    (body_never content number body))

blocks_never : (before blocks : List Block) → first_fault before blocks ≢ Some OutOfMemory
unfolding first_fault
blocks_never before [] = λ e. cc
blocks_never before (block ∷ blocks) =
    first_never
    (content_fault (λ section. is_some (section_in section before)) (content_of (words_of block.heading)) block.number
    block.body)
    (first_fault (before ++ block ∷ []) blocks)
    (content_never (λ section. is_some (section_in section before)) (content_of (words_of block.heading)) block.number
    block.body)
    (blocks_never (before ++ block ∷ []) blocks)

text_never : (section : Section) (needed : Bool) (found : Option (Option (List ℕ)))
    → needed_text section needed found ≢ Err OutOfMemory
text_never section false found = λ e. cc
text_never section true None = λ e. cc
text_never section true (Some None) = λ e. cc
text_never section true (Some (Some text)) = λ e. cc

schedule_never : (needed : Bool) (found : Option (Option (List ℕ))) → needed_schedule needed found ≢ Err OutOfMemory
schedule_never false found = λ e. cc
schedule_never true None = λ e. cc
schedule_never true (Some schedule) = λ e. cc

-- the same fault, as a result of another type
kept : {X Y : Type 0} (fault : PageFault) → refused X fault ≢ Err OutOfMemory → refused Y fault ≢ Err OutOfMemory
kept fault never = λ e. never cc

texts_never : (width : Width) (grammar : List ℕ) (schedule document edits : Result (Option (List ℕ)) PageFault)
    → schedule ≢ Err OutOfMemory → document ≢ Err OutOfMemory → edits ≢ Err OutOfMemory
    → page_of_texts width grammar schedule document edits ≢ Err OutOfMemory
texts_never width grammar (Ok schedule) (Ok document) (Ok edits) p q r = λ e. cc
texts_never width grammar (Ok schedule) (Ok document) (Err fault) p q r = kept fault r
texts_never width grammar (Ok schedule) (Err fault) edits p q r = kept fault q
texts_never width grammar (Err fault) document edits p q r = kept fault p

with_never : (width : Width) (need : Need) (grammar schedule document edits : Option (Option (List ℕ)))
    → page_with width need grammar schedule document edits ≢ Err OutOfMemory
with_never width need None schedule document edits = λ e. cc
with_never width need (Some None) schedule document edits = λ e. cc
with_never width need (Some (Some grammar)) schedule document edits =
    texts_never width grammar (needed_schedule need.schedule schedule) (needed_text Document need.document document)
    (needed_text Edits need.edits edits) (schedule_never need.schedule schedule)
    (text_never Document need.document document) (text_never Edits need.edits edits)

unless_never : (fault : Option PageFault) (page : Result Page PageFault) → fault ≢ Some OutOfMemory
    → page ≢ Err OutOfMemory → unless_fault fault page ≢ Err OutOfMemory
unless_never None page p q = q
unless_never (Some fault) page p q = λ e. p cc

lines_never : (width : Width) (need : Need) (lines : List (List ℕ)) → page_of_lines width need lines ≢ Err OutOfMemory
unfolding page_of_lines
lines_never width need lines =
    let blocks = blocks_of 2 lines in
    unless_never (first_stray 2 (take_while is_body_line lines))
    (unless_fault (first_fault [] blocks) (page_of_blocks width need blocks))
    (stray_never 2 (take_while is_body_line lines))
    (unless_never (first_fault [] blocks) (page_of_blocks width need blocks) (blocks_never [] blocks)
    (with_never width need (section_in Grammar blocks) (section_in Schedule blocks) (section_in Document blocks)
    (section_in Edits blocks)))

after_never : (width : Option Width) (need : Need) (lines : List (List ℕ)) → page_after width need lines ≢ Err OutOfMemory
after_never None need lines = λ e. cc
after_never (Some width) need lines = lines_never width need lines

of_text_never : (need : Need) (lines : List (List ℕ)) → page_of_text need lines ≢ Err OutOfMemory
unfolding page_of_text
of_text_never need [] = λ e. cc
of_text_never need (first ∷ lines) = after_never (width_of_line first) need lines

pub never_memory : (bytes : List ℕ) (need : Need) → page_of bytes need ≢ Err OutOfMemory
unfolding page_of
never_memory bytes need =
    if_never (Err OutOfMemory) (is_utf8 bytes) (page_of_text need (lines_of bytes)) (Err NotText) (of_text_never need (lines_of bytes))
    (λ e. cc)
