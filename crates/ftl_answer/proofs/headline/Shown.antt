-- What is accepted is shown, and every other answer is one line that refuses.
use Rattle.std.proofs.Common.{◌≡◌, ◌⊎◌, inl, inr, refl, sym, ap, subst, ◌∙◌, ℕ, ◌<◌, Bool, true, false, List, length, Option, Some, None, Result, Ok, Err}
use Rattle.std.proofs.lemmas.Bool.{lt-ltb}
use Rattle.std.specs.Prelude.{if◌then◌else◌}
use Rattle.ftl_nest_check.specs.check.NestFault.{first_nest_fault}
use Rattle.ftl_boxes.specs.SamplePage.{sample_page_of}
use Rattle.ftl_boxes.specs.declared.fault.SampleFault.{SampleFault}
use Rattle.ftl_page.specs.commands.Commands.{command_of}
use Rattle.ftl_page.specs.sections.Page.{page_of}
use Rattle.ftl_page.specs.declared.sections.fault.PageFault.{PageFault}
use Rattle.ftl_page.specs.declared.sections.page.Need.{Need}
use Rattle.ftl_page.specs.declared.sections.page.Page.{Page}
use Rattle.ftl_page.specs.declared.commands.command.Command.{Command}
use Rattle.ftl_page.specs.declared.commands.command.Command.TheVariants as command
use Rattle.ftl_page.specs.declared.workers.solving.Solving.{Solving}
use Rattle.ftl_meaning.specs.faults.Checked.{CheckedGrammar}
use Rattle.ftl_meaning.specs.grammars.GrammarOf.{names_of}
use Rattle.ftl_deps.specs.reads.Meant.{meant}
use Rattle.ftl_model.specs.layout.Boxes.{shows_overflow}
use Rattle.ftl_model.specs.layout.Table.{value_in}
use Rattle.ftl_model.specs.layout.Tree.{Forest}
use Rattle.ftl_model.specs.layout.Values.{Value}
use Rattle.ftl_nest_check.specs.stages.Nested.{nests_of}
use Rattle.ftl_nest_text.specs.printing.NestWritten.{nest_written_of}
use Rattle.ftl_nest_text.specs.text.NestText.{nesting_schedule_text}
use Rattle.ftl_answer.specs.answers.Answer.{Answer, answer, refused}
use Rattle.ftl_answer.specs.answers.Answers.{IsAnswer, accepted_answer, boxes_of, command_in, document_text, edited_answer}
use Rattle.ftl_answer.specs.answers.Answers.{edited_page, explained, explained_by, explained_page}
use Rattle.ftl_answer.specs.answers.Answers.{obeyed, rules_alone, shown_answer, shown_by, solved, solved_anew}
use Rattle.ftl_answer.specs.answers.Answers.{solved_by_demand, summary_of}
use Rattle.ftl_answer.specs.answers.Answers.{unscheduled_page, whole_page}
use Rattle.ftl_answer.specs.answers.Stages.{Is, Outcome, Stage, Then, ends, hands_on, result_outcome}
use Rattle.ftl_answer.specs.answers.Texts.{page, tree}
use Rattle.ftl_answer.specs.headline.Headline.{IsAcceptedForDemand, may_read, reads_page, words_read}
use Rattle.ftl_answer.specs.headline.Promises.{IsAcceptanceShown, IsExplanationShown}
use Rattle.ftl_answer.specs.headline.Promises.{IsChangeShown, IsRefusal, IsRefusalStatus, IsShown, IsTableShown, IsTableShownWhere}
use Rattle.ftl_answer.specs.headline.Promises.{LongPagesAreRefused, OverflowHasAStatus, WordsAreRefused}
use Rattle.ftl_answer.specs.refusals.PageLines.{page_line, too_long_line, words_line}
use Rattle.ftl_answer.proofs.answers.Ones.{end_is_no_value, goes_on, is_one, same_end, same_value}
use Rattle.ftl_model.specs.layout.Limits.{most_page_bytes}
use Rattle.ftl_answer.proofs.answers.Commands.{command_from}
use Rattle.ftl_answer.proofs.answers.Explained.{accepted_explained}
use Rattle.ftl_answer.proofs.headline.Refusals.{of_explained}
use Rattle.ftl_answer.proofs.headline.Refusals.{ended, of_anew, of_demand, of_page, of_page_status, of_rules, of_section, of_tree}
use Rattle.ftl_answer.proofs.headline.Refusals.{of_words}
use Rattle.ftl_answer.proofs.headline.Refusals.{of_words_status, result_ends, two}

-- ---- what is accepted is shown

table_is_shown : (text : CheckedGrammar → Forest → List Value → List ℕ) (bytes : List ℕ) (a : Answer)
    → IsTableShown text bytes a → solved bytes text (ends a)
table_is_shown text bytes a (c, t, values, x, solves, is) =
    inr (
      x.sections,
      x.read,
      inr (c, x.lawful, inr (x.order, x.ordered, inr (t, x.spelled, (values, solves, ap (ended ⊥) is)))),
    )

demanded_is_shown : (text : CheckedGrammar → Forest → List Value → List ℕ) (bytes : List ℕ) (a : Answer)
    → IsTableShownWhere IsAcceptedForDemand text bytes a → solved_by_demand bytes text (ends a)
demanded_is_shown text bytes a (c, t, values, x, solves, is) =
    inr (
      x.sections,
      x.read,
      inr (
        c,
        x.lawful,
        inr (c, (refl, x.noncircular), inr (t, x.spelled, (values, solves, ap (ended ⊥) is))),
      ),
    )

change_is_shown : (bytes : List ℕ) (a : Answer) → IsChangeShown bytes a → solved_anew bytes (ends a)
change_is_shown bytes a (c, t, es, values, touched, x, anew, is) =
    let y = x.accepted in
    inr (
      y.sections,
      y.read,
      inr (
        c,
        y.lawful,
        inr (
          y.order,
          y.ordered,
          inr (t, y.spelled, inr (es, x.read, (values, touched, anew, ap (ended ⊥) is))),
        ),
      ),
    )

acceptance_is_shown : (bytes : List ℕ) (a : Answer) → IsAcceptanceShown bytes a → explained_page bytes (ends a)
acceptance_is_shown bytes a (c, s, x, is) =
    let p = x.sections in
    inr (
      p,
      x.read,
      inr (
        c,
        x.lawful,
        subst (λ (b : Answer). explained c p.schedule (ends b)) (sym is) (accepted_explained c p.schedule s x.ordered),
      ),
    )

explanation_is_shown : (bytes : List ℕ) (a : Answer) → IsExplanationShown bytes a → explained_page bytes (ends a)
explanation_is_shown bytes a (c, s, text, x, explains, is) =
    let told : explained_by c s (first_nest_fault (meant c) (nests_of s)) (ends a) =
    subst (λ f. explained_by c s f (ends a)) (sym x.fault) (text, explains, ap (ended ⊥) is) in
    let by_text : explained c (Some x.text) (ends a) = inr (x.scanned, x.tokens_are, inr (s, x.spelled, told)) in
    inr (
      x.sections,
      x.read,
      inr (c, x.lawful, subst (λ text. explained c text (ends a)) (sym x.written) by_text),
    )

abbrev sample_outcome : Result (List ℕ) SampleFault → Outcome (List ℕ)
sample_outcome r = result_outcome (λ fault. refused 2 words_line) r

is_obeyed : (c : Command) (bytes : List ℕ) (a : Answer) → IsShown c bytes a → obeyed c bytes (ends a)
is_obeyed (command.Run how) bytes a x = table_is_shown boxes_of bytes a x
is_obeyed command.Check bytes a (c, s, x, is) =
    inr (x.sections, x.read, inr (c, x.lawful, inr (s, x.ordered, ap (ended ⊥) is)))
is_obeyed command.Schedule bytes a (c, s, x, is) =
    inr (x.sections, x.read, inr (c, x.lawful, inr (s, x.ordered, ap (ended ⊥) is)))
is_obeyed command.Explain bytes a (inl x) = acceptance_is_shown bytes a x
is_obeyed command.Explain bytes a (inr x) = explanation_is_shown bytes a x
is_obeyed command.Demand bytes a x = demanded_is_shown boxes_of bytes a x
is_obeyed (command.Edit how) bytes a x = change_is_shown bytes a x
is_obeyed (command.Sample pieces name how) bytes a (text, is, x) =
    inr (text, sym (ap sample_outcome is), table_is_shown (summary_of name) text a x)

pub accepted_is_shown : (words : List (List ℕ)) (bytes : List ℕ) (c : Command) (a : Answer)
    → command_of words ≡ Some c → IsShown c bytes a → IsAnswer words bytes a
accepted_is_shown words bytes c a is x = inr (c, sym (ap command_in is), is_obeyed c bytes a x)

-- ---- or refused

-- what the sample's text came from
text_of_sample : (r : Result (List ℕ) SampleFault) (text : List ℕ) → hands_on text ≡ sample_outcome r → r ≡ Ok text
text_of_sample (Ok other) text is = ap (λ (t : List ℕ). Ok t) (sym (same_value text other is))
text_of_sample (Err fault) text is = absurd (end_is_no_value (refused 2 words_line) text (sym is))

refusal : (s : ℕ) → IsRefusalStatus s → (text : List ℕ) → IsRefusal (refused s text)
refusal s is text = (s, is, text, refl)

module _ (text : CheckedGrammar → Forest → List Value → List ℕ) (bytes : List ℕ) where
  abbrev Either : Answer → Type 0
  Either a = IsTableShown text bytes a ⊎ IsRefusal a

  either_line : (s : ℕ) → IsRefusalStatus s → (line : List ℕ) → Either (refused s line)
  either_line s is line = inr (refusal s is line)

  table_or_refused : (a : Answer) → solved bytes text (ends a) → Either a
  table_or_refused =
      of_rules Either (λ s is. either_line s (of_section s is)) whole_page bytes (λ c s p. Then (tree c s (document_text p)) (shown_by text c))
      (λ c s p read lawful ordered.
      two Either (tree c s (document_text p)) (shown_by text c)
      (of_tree Either (λ s is. either_line s (of_section s is)) c s (document_text p))
      (λ t spelled a shows.
      inl (
        c,
        t,
        shows.0,
        record { sections = p; read = read; lawful = lawful; order = s; ordered = ordered; spelled = spelled },
        shows.1,
        same_end a (shown_answer text c t shows.0) shows.2,
      )))
      (of_page Either (either_line 4 of_page_status) whole_page bytes)

module _ (text : CheckedGrammar → Forest → List Value → List ℕ) (bytes : List ℕ) where
  abbrev EitherByDemand : Answer → Type 0
  EitherByDemand a = IsTableShownWhere IsAcceptedForDemand text bytes a ⊎ IsRefusal a

  demand_line : (s : ℕ) → IsRefusalStatus s → (line : List ℕ) → EitherByDemand (refused s line)
  demand_line s is line = inr (refusal s is line)

  demanded_or_refused : (a : Answer) → solved_by_demand bytes text (ends a) → EitherByDemand a
  demanded_or_refused =
      of_demand EitherByDemand (λ s is. demand_line s (of_section s is)) bytes text
      (λ c p t read lawful none grown a shows.
      inl (
        c,
        t,
        shows.0,
        record { sections = p; read = read; lawful = lawful; noncircular = none; spelled = grown },
        shows.1,
        same_end a (shown_answer text c t shows.0) shows.2,
      ))
      (of_page EitherByDemand (demand_line 4 of_page_status) unscheduled_page bytes)

module _ (bytes : List ℕ) where
  abbrev EitherAnew : Answer → Type 0
  EitherAnew a = IsChangeShown bytes a ⊎ IsRefusal a

  anew_line : (s : ℕ) → IsRefusalStatus s → (line : List ℕ) → EitherAnew (refused s line)
  anew_line s is line = inr (refusal s is line)

  change_or_refused : (a : Answer) → solved_anew bytes (ends a) → EitherAnew a
  change_or_refused =
      of_anew EitherAnew (λ s is. anew_line s (of_section s is)) bytes
      (λ c s p t es read lawful ordered spelled changed a shows.
      inl (
        c,
        t,
        es,
        shows.0,
        shows.1,
        record {
          accepted =
              record { sections = p; read = read; lawful = lawful; order = s; ordered = ordered; spelled = spelled };
          read = changed;
        },
        shows.2,
        same_end a (edited_answer c t es shows.0 shows.1) shows.3,
      ))
      (of_page EitherAnew (anew_line 4 of_page_status) edited_page bytes)

module _ (bytes : List ℕ) (how : Command) where
  abbrev Shown : Answer → Type 0
  Shown a = IsShown how bytes a ⊎ IsRefusal a

  shown_line : (s : ℕ) → IsRefusalStatus s → (line : List ℕ) → Shown (refused s line)
  shown_line s is line = inr (refusal s is line)

sample_shown : (name : List ℕ) (pieces : ℕ) (how : Solving) (bytes text : List ℕ) (a : Answer)
    → sample_page_of name pieces ≡ Ok text → IsTableShown (summary_of name) text a ⊎ IsRefusal a
    → Shown bytes (command.Sample pieces name how) a
sample_shown name pieces how bytes text a is (inl x) = inl (text, is, x)
sample_shown name pieces how bytes text a is (inr refused) = inr refused

shown_or_refused : (c : Command) (bytes : List ℕ) (a : Answer) → obeyed c bytes (ends a) → Shown bytes c a
shown_or_refused (command.Run how) bytes = table_or_refused boxes_of bytes
shown_or_refused command.Check bytes =
    of_rules (Shown bytes command.Check) (λ s is. shown_line bytes command.Check s (of_section s is)) rules_alone bytes
    (λ c s p. Is (ends accepted_answer))
    (λ c s p read lawful ordered a is.
    inl (
      c,
      s,
      record { sections = p; read = read; lawful = lawful; ordered = ordered },
      same_end a accepted_answer is,
    ))
    (of_page (Shown bytes command.Check) (shown_line bytes command.Check 4 of_page_status) rules_alone bytes)
shown_or_refused command.Schedule bytes =
    of_rules (Shown bytes command.Schedule) (λ s is. shown_line bytes command.Schedule s (of_section s is)) rules_alone bytes
    (λ c s p. Is (ends (answer 0 (nesting_schedule_text (nest_written_of c.grammar s)))))
    (λ c s p read lawful ordered a is.
    inl (
      c,
      s,
      record { sections = p; read = read; lawful = lawful; ordered = ordered },
      same_end a (answer 0 (nesting_schedule_text (nest_written_of c.grammar s))) is,
    ))
    (of_page (Shown bytes command.Schedule) (shown_line bytes command.Schedule 4 of_page_status) rules_alone bytes)
shown_or_refused command.Explain bytes =
    of_explained (Shown bytes command.Explain) (λ s is. shown_line bytes command.Explain s (of_section s is)) bytes
    (λ c s p read lawful ordered.
    inl (inl (c, s, record { sections = p; read = read; lawful = lawful; ordered = ordered }, refl)))
    (λ c s p read lawful text scanned is tokens_are spelled reader writer fault told explains.
    inl (inr (
      c,
      s,
      told,
      record {
        sections = p;
        read = read;
        lawful = lawful;
        text = text;
        written = is;
        scanned = scanned;
        tokens_are = tokens_are;
        spelled = spelled;
        reader = reader;
        writer = writer;
        fault = fault;
      },
      explains,
      refl,
    )))
    (of_page (Shown bytes command.Explain) (shown_line bytes command.Explain 4 of_page_status) rules_alone bytes)
shown_or_refused command.Demand bytes = demanded_or_refused boxes_of bytes
shown_or_refused (command.Edit how) bytes = change_or_refused bytes
shown_or_refused (command.Sample pieces name how) bytes =
    let Fine = Shown bytes (command.Sample pieces name how) in
    let line = shown_line bytes (command.Sample pieces name how) in
    two Fine (Is (sample_outcome (sample_page_of name pieces))) (λ text. solved text (summary_of name))
    (result_ends Fine (λ fault. refused 2 words_line) (λ fault. line 2 of_words_status words_line)
    (sample_page_of name pieces))
    (λ text is a solves.
    sample_shown name pieces how bytes text a (text_of_sample (sample_page_of name pieces) text is)
    (table_or_refused (summary_of name) text a solves))

module _ (words : List (List ℕ)) (bytes : List ℕ) where
  abbrev Whole : Answer → Type 0
  Whole a = ((c : Command) × (command_of words ≡ Some c) × IsShown c bytes a) ⊎ IsRefusal a

  whole_line : (s : ℕ) → IsRefusalStatus s → (line : List ℕ) → Whole (refused s line)
  whole_line s is line = inr (refusal s is line)

  of_shown : (c : Command) (a : Answer) → command_of words ≡ Some c → Shown bytes c a → Whole a
  of_shown c a is (inl shown) = inl (c, is, shown)
  of_shown c a is (inr refused) = inr refused

  pub or_refused : (a : Answer) → IsAnswer words bytes a → Whole a
  or_refused =
      two Whole (Is (command_in (command_of words))) (λ c. obeyed c bytes)
      (of_words Whole (whole_line 2 of_words_status words_line) (command_of words))
      (λ c is a obeys. of_shown c a (command_from (command_of words) c is) (shown_or_refused c bytes a obeys))

-- ---- what is refused, and the status of what is shown

pub words_are_refused : WordsAreRefused
words_are_refused words bytes none = inl (refused 2 words_line, sym (ap command_in none), refl)

-- the outcome of a page of this length
abbrev pub page_outcome : Bool → Result Page PageFault → Outcome Page
page_outcome long r = if long then ends (refused 4 too_long_line) else result_outcome (λ fault. refused 4 (page_line fault)) r

long_page : (need : Need) (bytes : List ℕ) → most_page_bytes < length bytes → page need bytes (ends (refused 4 too_long_line))
long_page need bytes long = ap (λ b. page_outcome b (page_of bytes need)) (sym (lt-ltb most_page_bytes (length bytes) long))

long_command : (c : Command) (bytes : List ℕ) → reads_page c ≡ true → most_page_bytes < length bytes
    → obeyed c bytes (ends (refused 4 too_long_line))
long_command (command.Run how) bytes reads long = inl (refused 4 too_long_line, long_page whole_page bytes long, refl)
long_command command.Check bytes reads long = inl (refused 4 too_long_line, long_page rules_alone bytes long, refl)
long_command command.Schedule bytes reads long = inl (refused 4 too_long_line, long_page rules_alone bytes long, refl)
long_command command.Explain bytes reads long = inl (refused 4 too_long_line, long_page rules_alone bytes long, refl)
long_command command.Demand bytes reads long = inl (refused 4 too_long_line, long_page unscheduled_page bytes long, refl)
long_command (command.Edit how) bytes reads long = inl (refused 4 too_long_line, long_page edited_page bytes long, refl)
long_command (command.Sample pieces name how) bytes reads long = absurd cc

-- a page that is too long has no other end
page_long : (need : Need) (bytes : List ℕ) → most_page_bytes < length bytes → (next : Page → Stage ⊥) (o : Outcome ⊥)
    → Then (page need bytes) next o → o ≡ ends (refused 4 too_long_line)
page_long need bytes long next o (inl p) =
    p.2 ∙ ap (ended ⊥) (same_end p.0 (refused 4 too_long_line) (p.1 ∙ sym (long_page need bytes long)))
page_long need bytes long next o (inr p) =
    absurd (end_is_no_value (refused 4 too_long_line) p.0 (long_page need bytes long ∙ sym p.1))

long_alone : (c : Command) (bytes : List ℕ) → reads_page c ≡ true → most_page_bytes < length bytes → (o : Outcome ⊥)
    → obeyed c bytes o → o ≡ ends (refused 4 too_long_line)
long_alone (command.Run how) bytes reads long = page_long whole_page bytes long _
long_alone command.Check bytes reads long = page_long rules_alone bytes long _
long_alone command.Schedule bytes reads long = page_long rules_alone bytes long _
long_alone command.Explain bytes reads long = page_long rules_alone bytes long _
long_alone command.Demand bytes reads long = page_long unscheduled_page bytes long _
long_alone (command.Edit how) bytes reads long = page_long edited_page bytes long _
long_alone (command.Sample pieces name how) bytes reads long = absurd cc

long_alone_by : (o : Option Command) (bytes : List ℕ) → may_read o ≡ true → most_page_bytes < length bytes → (a : Answer)
    → Then (Is (command_in o)) (λ c. obeyed c bytes) (ends a) → a ≡ refused 4 too_long_line
long_alone_by None bytes reads long a x = absurd cc
long_alone_by (Some c) bytes reads long a x =
    same_end a (refused 4 too_long_line)
    (long_alone c bytes reads long (ends a)
    (goes_on (Is (command_in (Some c))) (λ c. obeyed c bytes) (is_one _) c refl (ends a) x))

pub long_answers_alone : (words : List (List ℕ)) (bytes : List ℕ) → words_read words ≡ true
    → most_page_bytes < length bytes → (a : Answer) → IsAnswer words bytes a → a ≡ refused 4 too_long_line
long_answers_alone words bytes reads long a x = long_alone_by (command_of words) bytes reads long a x

long_by : (o : Option Command) (bytes : List ℕ) → may_read o ≡ true → most_page_bytes < length bytes
    → Then (Is (command_in o)) (λ c. obeyed c bytes) (ends (refused 4 too_long_line))
long_by None bytes reads long = absurd cc
long_by (Some c) bytes reads long = inr (c, refl, long_command c bytes reads long)

pub long_pages_are_refused : LongPagesAreRefused
long_pages_are_refused words bytes reads long = long_by (command_of words) bytes reads long

-- the status of a table that is shown
abbrev status_by : Bool → ℕ
status_by overflows = if overflows then 8 else 0

shown_status : (overflows : Bool) → (overflows ≡ true → status_by overflows ≡ 8)
    × (overflows ≡ false → status_by overflows ≡ 0)
shown_status true = (λ e. refl, λ e. absurd cc)
shown_status false = (λ e. absurd cc, λ e. refl)

pub overflow_has_a_status : OverflowHasAStatus
overflow_has_a_status text c t values =
    shown_status (shows_overflow (names_of c.grammar) t (value_in (meant c) t values))
