-- The texts of a page are no longer than its bytes, or than a shipped grammar.
use Rattle.std.proofs.Common.{◌≡◌, ℕ, zero, suc, ◌+◌, ◌≤◌, Bool, true, false, List, [], ◌∷◌, length, take}
use Rattle.std.proofs.Common.{Option, Some, None, Result, Ok, Err, sym, refl, ap, ◌∙◌, subst, ⊎_elim, arith}
use Rattle.std.proofs.Common.{length-append}
use Rattle.std.specs.Prelude.{IfSome, IfOk, if◌then◌else◌}
use Rattle.std.specs.Str.{is_utf8}
use Rattle.std.specs.List.{prefix_len}
use Rattle.std.proofs.lemmas.Bool.{cond-true, cond-false, cases_Bool}
use Rattle.ftl_model.specs.layout.Outcome.{Gives}
use Rattle.ftl_base.specs.declared.width.Width.{Width}
use Rattle.ftl_page.specs.declared.sections.fault.Section.{Section}
use Rattle.ftl_page.specs.declared.sections.fault.Section.TheVariants.{Grammar, Schedule, Document, Edits}
use Rattle.ftl_page.specs.declared.sections.fault.PageFault.{PageFault}
use Rattle.ftl_page.specs.declared.sections.fault.PageFault.TheVariants.{NotText, OutOfMemory}
use Rattle.ftl_page.specs.declared.sections.page.Need.{Need}
use Rattle.ftl_page.specs.declared.sections.page.Page.{Page}
use Rattle.ftl_page.specs.sections.Lines.{lines_of, words_of, is_heading, is_body_line}
use Rattle.ftl_page.specs.sections.Opening.{width_of_line}
use Rattle.ftl_page.specs.sections.Blocks.{blocks_of, Content, own, named, automatic, content_of}
use Rattle.ftl_boxes.specs.Shipped.{shipped_text}
use Rattle.ftl_boxes.proofs.TextLengths.{length-shipped_text}
use Rattle.ftl_page.specs.sections.Page.{section_text, text_if, or_else, section_in, needed_text, needed_schedule}
use Rattle.ftl_page.specs.sections.Page.{page_of_texts, page_with}
use Rattle.ftl_page.specs.sections.Page.{unless_fault, page_of_lines, page_after}
use Rattle.ftl_page.specs.sections.Page.{page_of_text, page_of}
use Rattle.ftl_page.specs.sections.Texts.{HasTextsUpTo}
use Rattle.ftl_page.proofs.sections.BodyLemmas.{joined, joined-lines_of}

-- a front of lines has no more bytes than all of them
length-joined-take : (n : ℕ) (ls : List (List ℕ)) → length (joined (take n ls)) ≤ length (joined ls)
length-joined-take zero ls = omega arith
length-joined-take (suc n) [] = omega arith
length-joined-take (suc n) (l ∷ ls) =
    omega (arith, length-joined-take n ls, length-append l (joined (take n ls)), length-append l (joined ls))

-- the text of a section, if it has one, is short
abbrev IsShort : Option (Option (List ℕ)) → Type 0
IsShort None = Unit {0}
IsShort (Some None) = Unit {0}
IsShort (Some (Some text)) = length text ≤ 67108864

few-short : (found : Option (List ℕ)) → IfSome found (λ text. length text ≤ 4282) → IsShort (Some found)
few-short None few = tt
few-short (Some text) few = omega arith

section_text-short : (content : Content) (body : List (List ℕ)) → length (joined body) ≤ 67108864 →
    IsShort (Some (section_text content body))
section_text-short (own section) body h = h
section_text-short (named name) body h = few-short (shipped_text name) (length-shipped_text name)
section_text-short automatic body h = tt

same-short : (b : Bool) (text : Option (List ℕ)) → IsShort (Some text) → IsShort (if b then Some text else None)
same-short true text h = h
same-short false text h = tt

text_if-short : (section : Section) (content : Option Content) (body : List (List ℕ)) →
    length (joined body) ≤ 67108864 → IsShort (text_if section content body)
text_if-short section None body h = tt
text_if-short section (Some content) body h = same-short _ _ (section_text-short content body h)

or_else-short : (x y : Option (Option (List ℕ))) → IsShort x → IsShort y → IsShort (or_else x y)
or_else-short None y h k = k
or_else-short (Some text) y h k = h

-- the sections of lines that are short together
section_in-short : (section : Section) (number : ℕ) (ls : List (List ℕ)) → length (joined ls) ≤ 67108864 →
    IsShort (section_in section (blocks_of number ls))
unfolding blocks_of section_in
section_in-short section number [] h = tt
section_in-short section number (l ∷ ls) h =
    let rest : length (joined ls) ≤ 67108864 = omega (arith, length-append l (joined ls)) in
    let others = section_in-short section (number + 1) ls rest in
    let front = length-joined-take (prefix_len is_body_line ls) ls in
    ⊎_elim
    (λ heading. subst (λ bs. IsShort (section_in section bs)) (sym (cond-true _ _ _ heading))
    (or_else-short _ _ (text_if-short section (content_of (words_of l)) _ (omega (arith, front))) others))
    (λ other. subst (λ bs. IsShort (section_in section bs)) (sym (cond-false _ _ _ other)) others)
    (cases_Bool (is_heading l))

-- a text that is needed, if there is one, is short
abbrev IsShortText : Option (List ℕ) → Type 0
IsShortText found = IfSome found (λ text. length text ≤ 67108864)

needed_text-short : (section : Section) (needed : Bool) (found : Option (Option (List ℕ))) (text : Option (List ℕ)) →
    IsShort found → needed_text section needed found ≡ Ok text → IsShortText text
needed_text-short section false found None h e = tt
needed_text-short section false found (Some text) h e = absurd (cc e)
needed_text-short section true None text h e = absurd (cc e)
needed_text-short section true (Some None) text h e = absurd (cc e)
needed_text-short section true (Some (Some t)) text h e =
    let same : Some t ≡ text = cc in
    subst IsShortText same h

needed_schedule-short : (needed : Bool) (found : Option (Option (List ℕ))) (text : Option (List ℕ)) →
    IsShort found → needed_schedule needed found ≡ Ok text → IsShortText text
needed_schedule-short false found None h e = tt
needed_schedule-short false found (Some text) h e = absurd (cc e)
needed_schedule-short true None text h e = absurd (cc e)
needed_schedule-short true (Some None) text h e =
    let same : None ≡ text = cc in
    subst IsShortText same tt
needed_schedule-short true (Some (Some t)) text h e =
    let same : Some t ≡ text = cc in
    subst IsShortText same h

page_of_texts-short : (width : Width) (grammar : List ℕ) (s d e : Result (Option (List ℕ)) PageFault) (page : Page) →
    length grammar ≤ 67108864 → ((t : Option (List ℕ)) → s ≡ Ok t → IsShortText t) →
    ((t : Option (List ℕ)) → d ≡ Ok t → IsShortText t) → ((t : Option (List ℕ)) → e ≡ Ok t → IsShortText t) →
    page_of_texts width grammar s d e ≡ Ok page → HasTextsUpTo 67108864 page
page_of_texts-short width grammar (Err fault) d e page g hs hd he is = absurd (cc is)
page_of_texts-short width grammar (Ok s) (Err fault) e page g hs hd he is = absurd (cc is)
page_of_texts-short width grammar (Ok s) (Ok d) (Err fault) page g hs hd he is = absurd (cc is)
page_of_texts-short width grammar (Ok s) (Ok d) (Ok e) page g hs hd he is =
    let same : record { width = width; grammar = grammar; schedule = s; document = d; edits = e } ≡ page = cc in
    subst (HasTextsUpTo 67108864) same
    (record { grammar = g; schedule = hs s refl; document = hd d refl; edits = he e refl })

page_with-short : (width : Width) (need : Need) (g s d e : Option (Option (List ℕ))) (page : Page) → IsShort g →
    IsShort s → IsShort d → IsShort e → page_with width need g s d e ≡ Ok page → HasTextsUpTo 67108864 page
page_with-short width need None s d e page hg hs hd he is = absurd (cc is)
page_with-short width need (Some None) s d e page hg hs hd he is = absurd (cc is)
page_with-short width need (Some (Some grammar)) s d e page hg hs hd he is =
    page_of_texts-short width grammar _ _ _ page hg (λ t. needed_schedule-short need.schedule s t hs)
    (λ t. needed_text-short Document need.document d t hd) (λ t. needed_text-short Edits need.edits e t he) is

-- a page that is read had no fault before
unless_fault-ok : (fault : Option PageFault) (result : Result Page PageFault) (page : Page) →
    unless_fault fault result ≡ Ok page → result ≡ Ok page
unless_fault-ok None result page is = is
unless_fault-ok (Some fault) result page is = absurd (cc is)

page_of_lines-short : (width : Width) (need : Need) (ls : List (List ℕ)) (page : Page) →
    length (joined ls) ≤ 67108864 → page_of_lines width need ls ≡ Ok page → HasTextsUpTo 67108864 page
unfolding page_of_lines
page_of_lines-short width need ls page h is =
    page_with-short width need _ _ _ _ page (section_in-short Grammar 2 ls h) (section_in-short Schedule 2 ls h)
    (section_in-short Document 2 ls h) (section_in-short Edits 2 ls h)
    (unless_fault-ok _ _ page (unless_fault-ok _ _ page is))

page_after-short : (width : Option Width) (need : Need) (ls : List (List ℕ)) (page : Page) →
    length (joined ls) ≤ 67108864 → page_after width need ls ≡ Ok page → HasTextsUpTo 67108864 page
page_after-short None need ls page h is = absurd (cc is)
page_after-short (Some width) need ls page h is = page_of_lines-short width need ls page h is

page_of_text-short : (need : Need) (ls : List (List ℕ)) (page : Page) → length (joined ls) ≤ 67108864 →
    page_of_text need ls ≡ Ok page → HasTextsUpTo 67108864 page
unfolding page_of_text
page_of_text-short need [] page h is = absurd (cc is)
page_of_text-short need (l ∷ ls) page h is =
    page_after-short (width_of_line l) need ls page (omega (arith, length-append l (joined ls))) is

page_of-short : (bytes : List ℕ) (need : Need) (page : Page) → length bytes ≤ 67108864 → page_of bytes need ≡ Ok page →
    HasTextsUpTo 67108864 page
unfolding page_of
page_of-short bytes need page h is =
    ⊎_elim
    (λ utf8. page_of_text-short need (lines_of bytes) page (omega (arith, ap length (joined-lines_of bytes)))
    (sym (cond-true _ _ _ utf8) ∙ is))
    (λ other. absurd (not_text (sym (cond-false _ _ _ other) ∙ is)))
    (cases_Bool (is_utf8 bytes)) where
      not_text : Err NotText ≡ Ok page → ⊥
      not_text e = cc e

-- so the answer's texts are short
pub answer_is_short : (result : Result Page PageFault) (bytes : List ℕ) (need : Need) → length bytes ≤ 67108864 →
    Gives OutOfMemory (λ page. page) result (page_of bytes need) → IfOk result (λ page. HasTextsUpTo 67108864 page)
answer_is_short (Ok page) bytes need h gives = page_of-short bytes need page h gives
answer_is_short (Err fault) bytes need h gives = tt
