-- The page of a text by its lines, its blocks and its sections.
use Rattle.std.proofs.Common.{◌≡◌, ℕ, ◌+◌, ◌<◌, List, [], ◌∷◌, ◌++◌, length, Some, None}
use Rattle.std.proofs.Common.{Ok, Err, sym, refl, ap, ◌∙◌, arith}
use Rattle.std.specs.List.{take_while}
use Rattle.std.specs.Str.{IsUtf8, is_utf8}
use Rattle.std.proofs.lemmas.Bool.{cond-true, cond-false, false_from_ne_true}
use Rattle.std.proofs.lemmas.Str.{is_utf8-from_IsUtf8, IsUtf8-from_is_utf8}
use Rattle.ftl_page.specs.declared.sections.fault.Section.{Section}
use Rattle.ftl_page.specs.declared.sections.fault.Section.TheVariants.{Grammar, Schedule, Document, Edits}
use Rattle.ftl_page.specs.declared.sections.fault.PageFault.{PageFault}
use Rattle.ftl_page.specs.declared.sections.fault.PageFault.TheVariants.{NotText}
use Rattle.ftl_base.specs.declared.width.Width.{Width}
use Rattle.ftl_page.specs.declared.sections.page.Need.{Need}
use Rattle.ftl_page.specs.declared.sections.section.Sections.{Sections}
use Rattle.ftl_page.specs.sections.Lines.{lines_of, is_body_line}
use Rattle.ftl_page.specs.sections.Body.{IsBody}
use Rattle.ftl_page.specs.sections.Blocks.{blocks_of}
use Rattle.ftl_page.specs.sections.Opening.{width_of_line}
use Rattle.ftl_page.specs.sections.Page.{section_in, first_stray, first_fault, page_with, page_of_blocks, unless_fault}
use Rattle.ftl_page.specs.sections.Page.{page_of_lines, page_after, page_of_text, page_of}
use Rattle.ftl_page.specs.sections.Found.{found_in, AreSectionsOf}
use Rattle.ftl_page.proofs.sections.LineLemmas.{lines_of-nil}
use Rattle.ftl_page.proofs.sections.SectionLemmas.{starts_block, take_while-body, blocks_of-skip}

pub no_sections : (sections : Sections) → ((s : Section) → found_in s sections ≡ None) → (s : Section)
    → found_in s sections ≡ section_in s []
unfolding section_in
no_sections sections none = none

module _ (text front : List ℕ) (lines : ℕ) (rest : List ℕ) (body : IsBody text front lines rest) where
  -- the lines before the first section
  front_lines : take_while is_body_line (lines_of text) ≡ lines_of front
  front_lines = ap (take_while is_body_line) body.all_lines
      ∙ take_while-body (lines_of front) (lines_of rest) body.no_heading (starts_block rest body.next)

  -- and the blocks after them
  rest_blocks : blocks_of 2 (lines_of text) ≡ blocks_of (2 + lines) (lines_of rest)
  rest_blocks =
      ap (blocks_of 2) body.all_lines ∙ blocks_of-skip (lines_of front) (lines_of rest) 2 body.no_heading
      ∙ ap (λ n. blocks_of (2 + n) (lines_of rest)) (sym body.count)

  page_is : (width : Width) (need : Need)
      → page_of_lines width need (lines_of text) ≡ unless_fault (first_stray 2 (lines_of front))
      (unless_fault (first_fault [] (blocks_of (2 + lines) (lines_of rest)))
      (page_of_blocks width need (blocks_of (2 + lines) (lines_of rest))))
  unfolding page_of_lines
  page_is width need =
      ap (λ ls. unless_fault (first_stray 2 ls)
      (unless_fault (first_fault [] (blocks_of 2 (lines_of text)))
      (page_of_blocks width need (blocks_of 2 (lines_of text))))) front_lines
      ∙ ap (λ bs. unless_fault (first_stray 2 (lines_of front))
      (unless_fault (first_fault [] bs) (page_of_blocks width need bs))) rest_blocks

  pub page_stray : (width : Width) (need : Need) (fault : PageFault) → Some fault ≡ first_stray 2 (lines_of front)
      → page_of_lines width need (lines_of text) ≡ Err fault
  page_stray width need fault stray =
      page_is width need
      ∙ ap (λ f. unless_fault f
      (unless_fault (first_fault [] (blocks_of (2 + lines) (lines_of rest)))
      (page_of_blocks width need (blocks_of (2 + lines) (lines_of rest))))) (sym stray)

  pub page_fault : (width : Width) (need : Need) (fault : PageFault) → None ≡ first_stray 2 (lines_of front)
      → first_fault [] (blocks_of (2 + lines) (lines_of rest)) ≡ Some fault
      → page_of_lines width need (lines_of text) ≡ Err fault
  page_fault width need fault no_stray is =
      page_is width need
      ∙ ap (λ f. unless_fault f
      (unless_fault (first_fault [] (blocks_of (2 + lines) (lines_of rest)))
      (page_of_blocks width need (blocks_of (2 + lines) (lines_of rest))))) (sym no_stray)
      ∙ ap (λ f. unless_fault f (page_of_blocks width need (blocks_of (2 + lines) (lines_of rest)))) is

  pub page_sections : (width : Width) (need : Need) (sections : Sections) → None ≡ first_stray 2 (lines_of front)
      → AreSectionsOf (Ok sections) [] (blocks_of (2 + lines) (lines_of rest))
      → page_of_lines width need (lines_of text) ≡ page_with width need (found_in Grammar sections) (found_in Schedule
      sections)
      (found_in Document sections) (found_in Edits sections)
  page_sections width need sections no_stray are =
      let blocks = blocks_of (2 + lines) (lines_of rest) in
      page_is width need
      ∙ ap (λ f. unless_fault f (unless_fault (first_fault [] blocks) (page_of_blocks width need blocks))) (sym
      no_stray)
      ∙ ap (λ f. unless_fault f (page_of_blocks width need blocks)) are.0
      ∙ ap (λ g. page_with width need g (section_in Schedule blocks) (section_in Document blocks) (section_in Edits
      blocks))
      (sym (are.1 Grammar))
      ∙ ap (λ s. page_with width need (found_in Grammar sections) s (section_in Document blocks) (section_in Edits
      blocks))
      (sym (are.1 Schedule))
      ∙ ap (λ d. page_with width need (found_in Grammar sections) (found_in Schedule sections) d (section_in Edits
      blocks))
      (sym (are.1 Document))
      ∙ ap (page_with width need (found_in Grammar sections) (found_in Schedule sections) (found_in Document sections))
      (sym (are.1 Edits))

-- line 1
pub first_line : (need : Need) (text first rest : List ℕ)
    → (0 < length text → lines_of text ≡ first ∷ lines_of rest) → text ≡ first ++ rest
    → page_of_text need (lines_of text) ≡ page_after (width_of_line first) need (lines_of rest)
unfolding page_of_text
first_line need [] [] rest lines whole = ap (page_of_text need) (lines_of-nil [] refl)
first_line need [] (b ∷ bs) rest lines whole = absurd (cc whole)
first_line need (b ∷ bs) first rest lines whole = ap (page_of_text need) (lines (omega arith))

-- UTF-8
pub page_not_text : (need : Need) (bytes : List ℕ) → (IsUtf8 bytes → ⊥) → page_of bytes need ≡ Err NotText
unfolding page_of
page_not_text need bytes not_text = cond-false _ _ _
    (false_from_ne_true (is_utf8 bytes) (λ is. not_text (IsUtf8-from_is_utf8 bytes is)))

pub page_text : (need : Need) (text bytes : List ℕ) → text ≡ bytes → IsUtf8 bytes
    → page_of bytes need ≡ page_of_text need (lines_of text)
unfolding page_of
page_text need text bytes same utf8 = cond-true _ _ _ (is_utf8-from_IsUtf8 bytes utf8)
    ∙ ap (λ bs. page_of_text need (lines_of bs)) (sym same)
