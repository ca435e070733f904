-- No other words and no other pages are refused by the lines that refuse words and pages that are too long.
use Rattle.std.proofs.Common.{◌≡◌, ⊎_elim, inl, inr, refl, sym, ap, ℕ, ◌<◌, Bool, true, false, List, length, Option}
use Rattle.std.proofs.Common.{Some, None, Result, Ok, Err, arith, ◌∙◌}
use Rattle.std.specs.Prelude.{nat_lt, slice_index_or}
use Rattle.std.proofs.lemmas.Bool.{ltb-true}
use Rattle.ftl_boxes.specs.SamplePage.{sample_page_of}
use Rattle.ftl_boxes.specs.declared.fault.SampleFault.{SampleFault}
use Rattle.ftl_model.specs.layout.Limits.{most_page_bytes}
use Rattle.ftl_page.specs.commands.Commands.{command_of}
use Rattle.ftl_page.specs.sections.Page.{page_of}
use Rattle.ftl_page.specs.declared.commands.command.Command.{Command}
use Rattle.ftl_page.specs.declared.commands.command.Command.TheVariants as command
use Rattle.ftl_page.specs.declared.sections.fault.PageFault.{PageFault}
use Rattle.ftl_page.specs.declared.sections.fault.PageFault.TheVariants as fault
use Rattle.ftl_page.specs.declared.sections.page.Need.{Need}
use Rattle.ftl_page.specs.declared.sections.page.Page.{Page}
use Rattle.ftl_page.proofs.commands.Samples.{sample_is_made}
use Rattle.ftl_answer.specs.answers.Answer.{Answer, answer, refused}
use Rattle.ftl_answer.specs.answers.Answers.{command_in, obeyed}
use Rattle.ftl_answer.specs.answers.Stages.{Is, Then, ends}
use Rattle.ftl_answer.specs.answers.Texts.{page}
use Rattle.ftl_answer.specs.headline.Headline.{may_read, reads_page}
use Rattle.ftl_answer.specs.headline.Promises.{IsSectionStatus, NoneButLongPagesAreRefused, NoneButWordsAreRefused}
use Rattle.ftl_answer.specs.refusals.PageLines.{page_line, too_long_line, words_line}
use Rattle.ftl_answer.proofs.answers.Ones.{end_is_no_value, same_value}
use Rattle.ftl_answer.proofs.headline.EachAnswer.{Unmade, of_command, of_reading}
use Rattle.ftl_answer.proofs.headline.Refusals.{ended, result_ends}
use Rattle.ftl_answer.proofs.headline.Shown.{page_outcome}

-- ---- words

-- the answer refuses no words
abbrev NotOfWords : Answer → Type 0
NotOfWords a = a.status ≡ 2 → ⊥

section_not : (s : ℕ) → IsSectionStatus s → (text : List ℕ) → NotOfWords (refused s text)
section_not s is text =
    λ e.
    ⊎_elim (λ (p : s ≡ 5). omega (arith, e, p))
    (⊎_elim (λ (p : s ≡ 6). omega (arith, e, p))
    (⊎_elim (λ (p : s ≡ 7). omega (arith, e, p)) (λ (p : s ≡ 10). omega (arith, e, p)))) is

page_not : (text : List ℕ) → NotOfWords (refused 4 text)
page_not text = λ e. omega (arith, e)

shown_not : (text : List ℕ) → NotOfWords (answer 0 text)
shown_not text = λ e. omega (arith, e)

overflow_not : (text : List ℕ) → NotOfWords (answer 8 text)
overflow_not text = λ e. omega (arith, e)

is_made : (r : Result (List ℕ) SampleFault) → ((text : List ℕ) × (r ≡ Ok text)) → (fault : SampleFault) → r ≡ Err fault
    → NotOfWords (refused 2 words_line)
is_made r (text, ok) fault err = absurd cc

unmade : (words : List (List ℕ)) (c : Command) → command_of words ≡ Some c
    → Unmade NotOfWords section_not shown_not overflow_not c
unmade words (command.Run how) is = tt
unmade words command.Check is = tt
unmade words command.Schedule is = tt
unmade words command.Explain is = tt
unmade words command.Demand is = tt
unmade words (command.Edit how) is = tt
unmade words (command.Sample pieces name how) is =
    is_made (sample_page_of name pieces) (sample_is_made words pieces name how is)

none_by : (words : List (List ℕ)) (bytes : List ℕ) (o : Option Command) → command_of words ≡ o → (a : Answer)
    → Then (Is (command_in o)) (λ c. obeyed c bytes) (ends a) → a.status ≡ 2 → o ≡ None
none_by words bytes None is a p e = refl
none_by words bytes (Some c) is a (inl p) e = absurd (end_is_no_value p.0 c p.1)
none_by words bytes (Some c) is a (inr p) e =
    absurd (of_command NotOfWords section_not shown_not overflow_not page_not p.0 bytes
    (unmade words p.0 (is ∙ ap (λ (x : Command). Some x) (sym (same_value p.0 c p.1)))) a p.2 e)

pub none_but_words_are_refused : NoneButWordsAreRefused
none_but_words_are_refused words bytes a is e = none_by words bytes (command_of words) refl a is e

-- ---- pages

-- the letter after the words that lines on pages begin with
abbrev letter : List ℕ → ℕ
letter text = slice_index_or text 14 0

other_line : (e : PageFault) → refused 4 (page_line e) ≡ refused 4 too_long_line → ⊥
other_line fault.NotText is = omega (arith, ap (λ (a : Answer). letter a.text) is)
other_line fault.BadVersion is = omega (arith, ap (λ (a : Answer). letter a.text) is)
other_line (fault.UnknownSection line) is = omega (arith, ap (λ (a : Answer). letter a.text) is)
other_line (fault.SectionTwice which line) is = omega (arith, ap (λ (a : Answer). letter a.text) is)
other_line (fault.UnknownShipped line) is = omega (arith, ap (λ (a : Answer). letter a.text) is)
other_line (fault.StrayText line) is = omega (arith, ap (λ (a : Answer). letter a.text) is)
other_line (fault.NoSection which) is = omega (arith, ap (λ (a : Answer). letter a.text) is)
other_line fault.OutOfMemory is = omega (arith, ap (λ (a : Answer). letter a.text) is)

module _ (bytes : List ℕ) where
  -- where the answer says that the page is too long, it is
  abbrev LongAlone : Answer → Type 0
  LongAlone a = a ≡ refused 4 too_long_line → most_page_bytes < length bytes

  section_long : (s : ℕ) → IsSectionStatus s → (text : List ℕ) → LongAlone (refused s text)
  section_long s is text =
      λ e.
      let four = ap (λ (a : Answer). a.status) e in
      absurd (⊎_elim (λ (p : s ≡ 5). omega (arith, four, p))
      (⊎_elim (λ (p : s ≡ 6). omega (arith, four, p))
      (⊎_elim (λ (p : s ≡ 7). omega (arith, four, p)) (λ (p : s ≡ 10). omega (arith, four, p)))) is)

  shown_long : (text : List ℕ) → LongAlone (answer 0 text)
  shown_long text = λ e. let four = ap (λ (a : Answer). a.status) e in omega (arith, four)

  overflow_long : (text : List ℕ) → LongAlone (answer 8 text)
  overflow_long text = λ e. let four = ap (λ (a : Answer). a.status) e in omega (arith, four)

  page_by : (long : Bool) → nat_lt most_page_bytes (length bytes) ≡ long → (r : Result Page PageFault) (a : Answer)
      → ended Page a ≡ page_outcome long r → LongAlone a
  page_by true long r a is = λ e. ltb-true most_page_bytes (length bytes) long
  page_by false long r a is =
      result_ends LongAlone (λ e. refused 4 (page_line e)) (λ e is. absurd (other_line e is)) r a is

  of_long : (need : Need) (a : Answer) → page need bytes (ends a) → LongAlone a
  of_long need a is = page_by (nat_lt most_page_bytes (length bytes)) refl (page_of bytes need) a is

  long_by : (o : Option Command) → may_read o ≡ true
      → Then (Is (command_in o)) (λ c. obeyed c bytes) (ends (refused 4 too_long_line)) → most_page_bytes < length bytes
  long_by None reads p = absurd cc
  long_by (Some c) reads (inl p) = absurd (end_is_no_value p.0 c p.1)
  long_by (Some c) reads (inr p) =
      of_reading LongAlone section_long shown_long overflow_long p.0 bytes
      (ap reads_page (same_value p.0 c p.1) ∙ reads) of_long (refused 4 too_long_line) p.2 refl

pub none_but_long_pages_are_refused : NoneButLongPagesAreRefused
none_but_long_pages_are_refused words bytes reads is = long_by bytes (command_of words) reads is
