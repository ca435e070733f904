-- A section more among those that were found.
use Rattle.std.proofs.Common.{◌≡◌, ℕ, true, false, List, Option, Some, None, is_some, Ok, sym, refl, ap, ◌∙◌}
use Rattle.std.proofs.Common.{subst, ⊎_elim}
use Rattle.std.specs.Prelude.{if◌then◌else◌}
use Rattle.std.proofs.lemmas.Bool.{cond-true, cond-false, cases_Bool}
use Rattle.ftl_page.specs.declared.sections.fault.Section.{Section}
use Rattle.ftl_page.specs.declared.sections.fault.Section.TheVariants.{Grammar, Schedule, Document, Edits}
use Rattle.ftl_page.specs.declared.sections.section.SectionText.{SectionText}
use Rattle.ftl_page.specs.declared.sections.section.Sections.{Sections}
use Rattle.ftl_page.specs.sections.Blocks.{Content, section_of}
use Rattle.ftl_page.specs.sections.Page.{is_same, section_text, or_else, content_fault}
use Rattle.ftl_page.specs.sections.Found.{given_text, found_in, TextGives, AddGives}

-- sections that are the same are one
same_section : (s which : Section) → is_same s which ≡ true → s ≡ which
same_section Grammar Grammar e = refl
same_section Grammar Schedule e = absurd (cc e)
same_section Grammar Document e = absurd (cc e)
same_section Grammar Edits e = absurd (cc e)
same_section Schedule Grammar e = absurd (cc e)
same_section Schedule Schedule e = refl
same_section Schedule Document e = absurd (cc e)
same_section Schedule Edits e = absurd (cc e)
same_section Document Grammar e = absurd (cc e)
same_section Document Schedule e = absurd (cc e)
same_section Document Document e = refl
same_section Document Edits e = absurd (cc e)
same_section Edits Grammar e = absurd (cc e)
same_section Edits Schedule e = absurd (cc e)
same_section Edits Document e = absurd (cc e)
same_section Edits Edits e = refl

-- the text that comes in where there was none
into_none : (found : Option (Option (List ℕ))) (text : Option (List ℕ)) → is_some found ≡ false →
    Some text ≡ or_else found (Some text)
into_none None text none = refl
into_none (Some t) text none = absurd (cc none)

-- nothing that comes in changes nothing
into_nothing : (found : Option (Option (List ℕ))) → found ≡ or_else found None
into_nothing None = refl
into_nothing (Some t) = refl

-- the sections with the text of one that was not there
pub added : (old new : Sections) (heading : Option Content) (content : Content) (which : Section) (text : SectionText)
    (number : ℕ) (body : List (List ℕ)) → heading ≡ Some content → which ≡ section_of content →
    is_some (found_in which old) ≡ false → TextGives (Ok text) content number body →
    ((s : Section) → found_in s new ≡ (if is_same s which then Some (given_text text) else found_in s old)) →
    AddGives (Ok new) old heading number body
added old new heading content which text number body is section none gives found =
    let new_one : is_some (found_in (section_of content) old) ≡ false = ap (λ s. is_some (found_in s old)) (sym
    section) ∙ none in
    let good : content_fault (λ s. is_some (found_in s old)) (Some content) number body ≡ None =
    ap (λ before. content_fault (λ _. before) (Some content) number body) new_one ∙ gives.0 in
    subst (λ h. AddGives (Ok new) old h number body) (sym is) (
      good,
      λ s.
          let here = found s ∙ ap (λ w. if is_same s w then Some (given_text text) else found_in s old) section in
          ⊎_elim
          (λ same.
          let one = same_section s (section_of content) same in
          here ∙ cond-true _ _ _ same ∙ ap (λ t. Some t) gives.1
          ∙ into_none (found_in s old) (section_text content body) (ap (λ w. is_some (found_in w old)) one ∙ new_one)
          ∙ ap (or_else (found_in s old)) (sym (cond-true _ _ _ same)))
          (λ other.
          here ∙ cond-false _ _ _ other ∙ into_nothing (found_in s old)
          ∙ ap (or_else (found_in s old)) (sym (cond-false _ _ _ other)))
          (cases_Bool (is_same s (section_of content))),
    )
