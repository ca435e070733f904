-- The document and the edits of a page are in UTF-8, as the page is.
use Rattle.std.proofs.Common.{◌≡◌, ℕ, zero, suc, ◌+◌, ◌≤◌, Bool, true, false, List, [], ◌∷◌, length, take, drop}
use Rattle.std.proofs.Common.{Option, Some, None, Result, Ok, Err, sym, refl, ◌∙◌, subst, ⊎_elim, arith, length-drop}
use Rattle.std.specs.Prelude.{IfSome}
use Rattle.std.specs.Str.{IsUtf8, is_utf8}
use Rattle.std.specs.List.{prefix_len, take_while}
use Rattle.std.proofs.lemmas.Bool.{cond-true, cond-false, cases_Bool}
use Rattle.std.proofs.lemmas.Str.{IsUtf8-append, IsUtf8-drop, IsUtf8-from_is_utf8, IsUtf8-nil, IsUtf8-take}
use Rattle.ftl_base.specs.declared.width.Width.{Width}
use Rattle.ftl_page.specs.declared.sections.fault.Section.{Section}
use Rattle.ftl_page.specs.declared.sections.fault.Section.TheVariants.{Grammar, Schedule, Document, Edits}
use Rattle.ftl_page.specs.declared.sections.fault.PageFault.{PageFault}
use Rattle.ftl_page.specs.declared.sections.fault.PageFault.TheVariants.{NotText}
use Rattle.ftl_page.specs.declared.sections.page.Need.{Need}
use Rattle.ftl_page.specs.declared.sections.page.Page.{Page}
use Rattle.ftl_page.specs.sections.Lines.{is_body_line, is_heading, lines_of, words_of}
use Rattle.ftl_page.specs.sections.Opening.{width_of_line}
use Rattle.ftl_page.specs.sections.Blocks.{Content, automatic, blocks_of, content_of, named, own}
use Rattle.ftl_page.specs.sections.Page.{needed_text, or_else, page_after, page_of, page_of_lines, page_of_text, page_of_texts}
use Rattle.ftl_page.specs.sections.Page.{first_fault, first_stray, page_of_blocks, page_with, section_in, text_if}
use Rattle.ftl_page.specs.sections.Page.{unless_fault}
use Rattle.ftl_page.proofs.sections.BodyLemmas.{joined}
use Rattle.ftl_page.proofs.sections.LineLemmas.{line_boundary, line_end, line_length-le, line_length-some, lines_of-first, lines_of-nil}
use Rattle.ftl_page.proofs.sections.LineLength.{line_length}

-- ---- lines

-- each line is in UTF-8
abbrev AllUtf8 : List (List ℕ) → Type 0
AllUtf8 [] = Unit {0}
AllUtf8 (l ∷ ls) = IsUtf8 l × AllUtf8 ls

-- so are the lines of a text that is
lines_by : (n : ℕ) (text : List ℕ) → length text ≤ n → IsUtf8 text → AllUtf8 (lines_of text)
lines_by n [] few utf8 = subst AllUtf8 (sym (lines_of-nil [] refl)) tt
lines_by zero (b ∷ bs) few utf8 = absurd (omega (arith, few))
lines_by (suc n) (b ∷ bs) few utf8 =
    let text = b ∷ bs in
    let k = line_length text in
    let bound = line_boundary text k utf8 (line_length-le text) (line_end text) in
    let some = line_length-some text (omega arith) in
    let shorter : length (drop k text) ≤ n = omega (arith, length-drop k text, some, few) in
    subst AllUtf8 (sym (lines_of-first text (omega arith)))
    (IsUtf8-take text k utf8 bound, lines_by n (drop k text) shorter (IsUtf8-drop text k utf8 bound))

-- a front of them, and what they are together
take_utf8 : (n : ℕ) (ls : List (List ℕ)) → AllUtf8 ls → AllUtf8 (take n ls)
take_utf8 zero ls all = tt
take_utf8 (suc n) [] all = tt
take_utf8 (suc n) (l ∷ ls) all = (all.0, take_utf8 n ls all.1)

joined_utf8 : (ls : List (List ℕ)) → AllUtf8 ls → IsUtf8 (joined ls)
joined_utf8 [] all = IsUtf8-nil
joined_utf8 (l ∷ ls) all = IsUtf8-append l (joined ls) all.0 (joined_utf8 ls all.1)

-- ---- the sections of the document and of the edits

-- the text of the section, if it has one, is in UTF-8
abbrev IsFoundUtf8 : Option (Option (List ℕ)) → Type 0
IsFoundUtf8 None = Unit {0}
IsFoundUtf8 (Some None) = Unit {0}
IsFoundUtf8 (Some (Some text)) = IsUtf8 text

text_utf8 : (content : Option Content) (body : List (List ℕ)) → AllUtf8 body → IsFoundUtf8 (text_if Document content body)
text_utf8 None body all = tt
text_utf8 (Some (own Grammar)) body all = tt
text_utf8 (Some (own Schedule)) body all = tt
text_utf8 (Some (own Document)) body all = joined_utf8 body all
text_utf8 (Some (own Edits)) body all = tt
text_utf8 (Some (named name)) body all = tt
text_utf8 (Some automatic) body all = tt

edits_utf8 : (content : Option Content) (body : List (List ℕ)) → AllUtf8 body → IsFoundUtf8 (text_if Edits content body)
edits_utf8 None body all = tt
edits_utf8 (Some (own Grammar)) body all = tt
edits_utf8 (Some (own Schedule)) body all = tt
edits_utf8 (Some (own Document)) body all = tt
edits_utf8 (Some (own Edits)) body all = joined_utf8 body all
edits_utf8 (Some (named name)) body all = tt
edits_utf8 (Some automatic) body all = tt

-- the texts of bodies that make this section
abbrev MakesUtf8 : Section → Type 0
MakesUtf8 which = (content : Option Content) (body : List (List ℕ)) → AllUtf8 body → IsFoundUtf8 (text_if which content body)

or_else_utf8 : (x y : Option (Option (List ℕ))) → IsFoundUtf8 x → IsFoundUtf8 y → IsFoundUtf8 (or_else x y)
or_else_utf8 None y h k = k
or_else_utf8 (Some text) y h k = h

section_utf8 : (which : Section) → MakesUtf8 which → (number : ℕ) (ls : List (List ℕ)) → AllUtf8 ls
    → IsFoundUtf8 (section_in which (blocks_of number ls))
unfolding blocks_of section_in
section_utf8 which made number [] all = tt
section_utf8 which made number (l ∷ ls) all =
    let others = section_utf8 which made (number + 1) ls all.1 in
    let front = take_utf8 (prefix_len is_body_line ls) ls all.1 in
    ⊎_elim
    (λ heading. subst (λ bs. IsFoundUtf8 (section_in which bs)) (sym (cond-true _ _ _ heading))
    (or_else_utf8 _ _ (made (content_of (words_of l)) _ front) others))
    (λ other. subst (λ bs. IsFoundUtf8 (section_in which bs)) (sym (cond-false _ _ _ other)) others)
    (cases_Bool (is_heading l))

-- ---- the page

-- the texts of the document and of the edits are in UTF-8, where there are any
pub record AreUtf8 (p : Page) : Type 0 where
  pub document : IfSome p.document IsUtf8
  pub edits : IfSome p.edits IsUtf8

needed_utf8 : (which : Section) (needed : Bool) (found : Option (Option (List ℕ))) (text : Option (List ℕ)) → IsFoundUtf8 found
    → needed_text which needed found ≡ Ok text → IfSome text IsUtf8
needed_utf8 which false found None h e = tt
needed_utf8 which false found (Some text) h e = absurd (cc e)
needed_utf8 which true None text h e = absurd (cc e)
needed_utf8 which true (Some None) text h e = absurd (cc e)
needed_utf8 which true (Some (Some t)) text h e =
    let same : Some t ≡ text = cc in subst (λ (o : Option (List ℕ)). IfSome o IsUtf8) same h

texts_utf8 : (width : Width) (grammar : List ℕ) (s d e : Result (Option (List ℕ)) PageFault) (page : Page)
    → ((t : Option (List ℕ)) → d ≡ Ok t → IfSome t IsUtf8) → ((t : Option (List ℕ)) → e ≡ Ok t → IfSome t IsUtf8)
    → page_of_texts width grammar s d e ≡ Ok page → AreUtf8 page
texts_utf8 width grammar (Err fault) d e page hd he is = absurd (cc is)
texts_utf8 width grammar (Ok s) (Err fault) e page hd he is = absurd (cc is)
texts_utf8 width grammar (Ok s) (Ok d) (Err fault) page hd he is = absurd (cc is)
texts_utf8 width grammar (Ok s) (Ok d) (Ok e) page hd he is =
    let same : record { width = width; grammar = grammar; schedule = s; document = d; edits = e } ≡ page = cc in
    subst AreUtf8 same (record { document = hd d refl; edits = he e refl })

with_utf8 : (width : Width) (need : Need) (g s d e : Option (Option (List ℕ))) (page : Page) → IsFoundUtf8 d
    → IsFoundUtf8 e → page_with width need g s d e ≡ Ok page → AreUtf8 page
with_utf8 width need None s d e page hd he is = absurd (cc is)
with_utf8 width need (Some None) s d e page hd he is = absurd (cc is)
with_utf8 width need (Some (Some grammar)) s d e page hd he is =
    texts_utf8 width grammar _ _ _ page (λ t. needed_utf8 Document need.document d t hd)
    (λ t. needed_utf8 Edits need.edits e t he) is

fault_utf8 : (fault : Option PageFault) (result : Result Page PageFault) (page : Page)
    → unless_fault fault result ≡ Ok page → result ≡ Ok page
fault_utf8 None result page is = is
fault_utf8 (Some fault) result page is = absurd (cc is)

page_lines_utf8 : (width : Width) (need : Need) (ls : List (List ℕ)) (page : Page) → AllUtf8 ls
    → page_of_lines width need ls ≡ Ok page → AreUtf8 page
unfolding page_of_lines
page_lines_utf8 width need ls page all is =
    let blocks = blocks_of 2 ls in
    let whole : Result Page PageFault = page_of_blocks width need blocks in
    with_utf8 width need (section_in Grammar blocks) (section_in Schedule blocks) (section_in Document blocks)
    (section_in Edits blocks) page (section_utf8 Document text_utf8 2 ls all) (section_utf8 Edits edits_utf8 2 ls all)
    (fault_utf8 (first_fault [] blocks) whole page
    (fault_utf8 (first_stray 2 (take_while is_body_line ls)) (unless_fault (first_fault [] blocks) whole) page is))

page_after_utf8 : (width : Option Width) (need : Need) (ls : List (List ℕ)) (page : Page) → AllUtf8 ls
    → page_after width need ls ≡ Ok page → AreUtf8 page
page_after_utf8 None need ls page all is = absurd (cc is)
page_after_utf8 (Some width) need ls page all is = page_lines_utf8 width need ls page all is

page_text_utf8 : (need : Need) (ls : List (List ℕ)) (page : Page) → AllUtf8 ls → page_of_text need ls ≡ Ok page → AreUtf8 page
unfolding page_of_text
page_text_utf8 need [] page all is = absurd (cc is)
page_text_utf8 need (l ∷ ls) page all is = page_after_utf8 (width_of_line l) need ls page all.1 is

-- the document and the edits of a page
pub page_utf8 : (bytes : List ℕ) (need : Need) (page : Page) → page_of bytes need ≡ Ok page → AreUtf8 page
unfolding page_of
page_utf8 bytes need page is =
    ⊎_elim
    (λ utf8.
    page_text_utf8 need (lines_of bytes) page
    (lines_by (length bytes) bytes (omega arith) (IsUtf8-from_is_utf8 bytes utf8))
    (sym (cond-true _ _ _ utf8) ∙ is))
    (λ other. absurd (not_text (sym (cond-false _ _ _ other) ∙ is)))
    (cases_Bool (is_utf8 bytes))
  where
    not_text : Err NotText ≡ Ok page → ⊥
    not_text e = cc e
