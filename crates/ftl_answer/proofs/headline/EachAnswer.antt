-- What holds of each refusal and of each text that is shown holds of each answer.
use Rattle.std.proofs.Common.{◌≡◌, refl, ℕ, Bool, true, false, List, length, Result, Ok, Err}
use Rattle.std.specs.Prelude.{codes, if◌then◌else◌}
use Rattle.ftl_boxes.specs.SamplePage.{sample_page_of}
use Rattle.ftl_boxes.specs.declared.fault.SampleFault.{SampleFault}
use Rattle.ftl_page.specs.declared.commands.command.Command.{Command}
use Rattle.ftl_page.specs.declared.commands.command.Command.TheVariants as command
use Rattle.ftl_page.specs.declared.sections.page.Need.{Need}
use Rattle.ftl_meaning.specs.faults.Checked.{CheckedGrammar}
use Rattle.ftl_model.specs.layout.Tree.{Forest}
use Rattle.ftl_model.specs.layout.Values.{Value}
use Rattle.ftl_relayout.specs.relaid.Relaid.{edited_tree}
use Rattle.ftl_nest_text.specs.printing.NestWritten.{nest_written_of}
use Rattle.ftl_nest_text.specs.text.NestText.{nesting_schedule_text}
use Rattle.ftl_answer.specs.answers.Answer.{Answer, answer, refused}
use Rattle.ftl_answer.specs.answers.Answers.{accepted_answer}
use Rattle.ftl_answer.specs.answers.Answers.{boxes_and_touched, boxes_of, document_text, edited_answer, edited_page, obeyed}
use Rattle.ftl_answer.specs.answers.Answers.{rules_alone, shown_answer, shown_by, solved, solved_anew}
use Rattle.ftl_answer.specs.answers.Answers.{solved_by_demand, summary_of, unscheduled_page, whole_page}
use Rattle.ftl_answer.specs.answers.Stages.{Is, Then, ends, result_outcome}
use Rattle.ftl_answer.specs.answers.Texts.{page, tree}
use Rattle.ftl_answer.specs.headline.Headline.{reads_page}
use Rattle.ftl_answer.specs.headline.Promises.{IsSectionStatus}
use Rattle.ftl_answer.specs.refusals.PageLines.{words_line}
use Rattle.ftl_answer.proofs.answers.Ones.{end_is_no_value, same_end}
use Rattle.ftl_answer.proofs.headline.Refusals.{ended, of_anew, of_demand, of_explained, of_page, of_rules, of_tree}
use Rattle.ftl_answer.proofs.headline.Refusals.{same, two}

module _ (Fine : Answer → Type 0) (section_line : (s : ℕ) → IsSectionStatus s → (text : List ℕ) → Fine (refused s text))
    (accepted : (text : List ℕ) → Fine (answer 0 text)) (overflowed : (text : List ℕ) → Fine (answer 8 text)) where
  shown_fine : (overflows : Bool) (text : List ℕ) → Fine (answer (if overflows then 8 else 0) text)
  shown_fine true text = overflowed text
  shown_fine false text = accepted text

  of_table : (text : CheckedGrammar → Forest → List Value → List ℕ) (c : CheckedGrammar) (t : Forest) (a : Answer)
      → shown_by text c t (ends a) → Fine a
  of_table text c t a p =
      let told = shown_answer text c t p.0 in
      same Fine a told (same_end a told p.2) (shown_fine _ (text c t p.0))

  pub of_solved : (bytes : List ℕ) (text : CheckedGrammar → Forest → List Value → List ℕ)
      → ((a : Answer) → page whole_page bytes (ends a) → Fine a) → (a : Answer) → solved bytes text (ends a) → Fine a
  of_solved bytes text =
      of_rules Fine section_line whole_page bytes (λ c s p. Then (tree c s (document_text p)) (shown_by text c))
      (λ c s p read lawful ordered.
      two Fine (tree c s (document_text p)) (shown_by text c) (of_tree Fine section_line c s (document_text p))
      (λ t spelled. of_table text c t))

  of_demanded : (bytes : List ℕ) (text : CheckedGrammar → Forest → List Value → List ℕ)
      → ((a : Answer) → page unscheduled_page bytes (ends a) → Fine a) → (a : Answer)
      → solved_by_demand bytes text (ends a) → Fine a
  of_demanded bytes text =
      of_demand Fine section_line bytes text (λ c p t read lawful none grown. of_table text c t)

  of_changed : (bytes : List ℕ) → ((a : Answer) → page edited_page bytes (ends a) → Fine a) → (a : Answer)
      → solved_anew bytes (ends a) → Fine a
  of_changed bytes =
      of_anew Fine section_line bytes
      (λ c s p t es read lawful ordered spelled changed a x.
      let told = edited_answer c t es x.0 x.1 in
      same Fine a told (same_end a told x.3)
      (shown_fine _ (boxes_and_touched (length x.1) c (edited_tree c t es) x.0)))

  said : (text : List ℕ) (a : Answer) → ended ⊥ a ≡ ends (answer 0 text) → Fine a
  said text a is = same Fine a (answer 0 text) (same_end a (answer 0 text) is) (accepted text)

  pub of_reading : (c : Command) (bytes : List ℕ) → reads_page c ≡ true
      → ((need : Need) (a : Answer) → page need bytes (ends a) → Fine a) → (a : Answer) → obeyed c bytes (ends a) → Fine a
  of_reading (command.Run how) bytes reads paged = of_solved bytes boxes_of (paged whole_page)
  of_reading command.Check bytes reads paged =
      of_rules Fine section_line rules_alone bytes (λ c s p. Is (ends accepted_answer))
      (λ c s p read lawful ordered a is. said (codes "accepted\n") a is)
      (paged rules_alone)
  of_reading command.Schedule bytes reads paged =
      of_rules Fine section_line rules_alone bytes
      (λ c s p. Is (ends (answer 0 (nesting_schedule_text (nest_written_of c.grammar s)))))
      (λ c s p read lawful ordered a is. said (nesting_schedule_text (nest_written_of c.grammar s)) a is)
      (paged rules_alone)
  of_reading command.Explain bytes reads paged =
      of_explained Fine section_line bytes (λ c s p read lawful ordered. accepted (codes "accepted\n"))
      (λ c s p read lawful written scanned is tokens_are spelled reader writer fault told explains. accepted told)
      (paged rules_alone)
  of_reading command.Demand bytes reads paged = of_demanded bytes boxes_of (paged unscheduled_page)
  of_reading (command.Edit how) bytes reads paged = of_changed bytes (paged edited_page)
  of_reading (command.Sample pieces name how) bytes reads paged = absurd cc

  sample_ends : (r : Result (List ℕ) SampleFault)
      → ((fault : SampleFault) → r ≡ Err fault → Fine (refused 2 words_line))
      → (a : Answer) → ended (List ℕ) a ≡ result_outcome (λ fault. refused 2 words_line) r → Fine a
  sample_ends (Ok text) each a is = absurd (end_is_no_value a text is)
  sample_ends (Err fault) each a is =
      same Fine a (refused 2 words_line) (same_end a (refused 2 words_line) is) (each fault refl)

  -- what holds of the refusal of a sample that can't be made
  abbrev pub Unmade : Command → Type 0
  Unmade (command.Run how) = Unit {0}
  Unmade command.Check = Unit {0}
  Unmade command.Schedule = Unit {0}
  Unmade command.Explain = Unit {0}
  Unmade command.Demand = Unit {0}
  Unmade (command.Edit how) = Unit {0}
  Unmade (command.Sample pieces name how) =
      (fault : SampleFault) → sample_page_of name pieces ≡ Err fault → Fine (refused 2 words_line)

  pub of_command : ((text : List ℕ) → Fine (refused 4 text)) → (c : Command) (bytes : List ℕ) → Unmade c → (a : Answer)
      → obeyed c bytes (ends a) → Fine a
  of_command line (command.Run how) bytes unmade =
      of_reading (command.Run how) bytes refl (λ need. of_page Fine line need bytes)
  of_command line command.Check bytes unmade =
      of_reading command.Check bytes refl (λ need. of_page Fine line need bytes)
  of_command line command.Schedule bytes unmade =
      of_reading command.Schedule bytes refl (λ need. of_page Fine line need bytes)
  of_command line command.Explain bytes unmade =
      of_reading command.Explain bytes refl (λ need. of_page Fine line need bytes)
  of_command line command.Demand bytes unmade =
      of_reading command.Demand bytes refl (λ need. of_page Fine line need bytes)
  of_command line (command.Edit how) bytes unmade =
      of_reading (command.Edit how) bytes refl (λ need. of_page Fine line need bytes)
  of_command line (command.Sample pieces name how) bytes unmade =
      two Fine (Is (result_outcome (λ fault. refused 2 words_line) (sample_page_of name pieces)))
      (λ text. solved text (summary_of name))
      (sample_ends (sample_page_of name pieces) unmade)
      (λ text is. of_solved text (summary_of name) (of_page Fine line whole_page text))
