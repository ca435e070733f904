-- What a call writes and reads, from the four promises of it.
use Rattle.std.proofs.Common.{◌≡◌, ◌≢◌, ◌⊎◌, inl, inr, ⊎_elim, refl, sym, ◌∙◌, ap, subst, ℕ, ◌<◌, Bool, true, false}
use Rattle.std.proofs.Common.{List, [], length, Option, Some}
use Rattle.std.specs.Prelude.{IfSome}
use Rattle.ftl_deps.specs.reads.Meant.{meant}
use Rattle.ftl_edge.specs.Counts.{RoseBy}
use Rattle.ftl_edge.specs.MemSink.{SinkState}
use Rattle.ftl_edge.specs.MemSource.{SourceState}
use Rattle.ftl_meaning.specs.faults.Checked.{CheckedGrammar}
use Rattle.ftl_model.specs.layout.Table.{SolvesList}
use Rattle.ftl_model.specs.layout.Tree.{Forest}
use Rattle.ftl_model.specs.layout.Values.{Value}
use Rattle.ftl_nest_check.specs.declared.stages.types.NestingSchedule.{NestingSchedule}
use Rattle.ftl_page.specs.commands.Commands.{command_of}
use Rattle.ftl_page.specs.declared.commands.command.Command.{Command}
use Rattle.ftl_page.specs.declared.commands.command.Command.TheVariants as command
use Rattle.ftl_page.specs.declared.workers.solving.Solving.{Solving}
use Rattle.ftl_answer.specs.answers.Answer.{Answer, refused}
use Rattle.ftl_edits.specs.declared.meaning.types.Edit.{Edit}
use Rattle.ftl_answer.specs.answers.Answers.{HasOneAnswer, IsAnswer, IsLaidOutAnew, boxes_of, edited_answer}
use Rattle.ftl_answer.specs.answers.Answers.{AskForNoExplanation, explained_page, shown_answer}
use Rattle.ftl_answer.specs.answers.Stages.{ends}
use Rattle.ftl_answer.specs.headline.Headline.{AreEditsAccepted, HasOneChangedTable, IsAcceptedForEdits}
use Rattle.ftl_answer.specs.headline.Promises.{IsChangeShown, WritesTheChange, WritesTheChangeInMemory}
use Rattle.ftl_answer.specs.headline.Promises.{WritesTheChangeOf}
use Rattle.ftl_answer.specs.headline.Headline.{Acceptance, AreTold, Call, HasOneTableWhere, IsAccepted, IsAcceptedForDemand}
use Rattle.ftl_answer.specs.headline.Headline.{MatchesAnswer, OfTheAnswer, OneTableOf, SinkFailed, bytes_answered, may_read}
use Rattle.ftl_answer.specs.headline.Headline.{words_read}
use Rattle.ftl_answer.specs.headline.Promises.{AddsTheBoxesWhere, AreBytesOf, CompletesCommands, EndsAsAnswered}
use Rattle.ftl_answer.specs.headline.Promises.{HasNoFaultOrWant, IsRefusal, IsTableShownWhere}
use Rattle.ftl_answer.specs.headline.Promises.{IsShown, KeepsPromises, LeavesTheSource, ReadNoPage, ReadsAPage, ReadsThePage}
use Rattle.ftl_answer.specs.headline.Promises.{AreRulesAccepted, EndsAs, IsPairRefused, OfAnAnswer}
use Rattle.ftl_answer.specs.headline.Promises.{ReadsWithinLimits, StopsAtAReadFault}
use Rattle.ftl_answer.specs.headline.Promises.{WritesTheExplanation, WritesTheExplanationOf}
use Rattle.ftl_answer.specs.headline.Promises.{StopsWithoutMemory, WriteFaultsHaveCauses, Writes}
use Rattle.ftl_answer.specs.headline.Promises.{WritesSomeAnswer, WritesTheAnswer, WritesTheBoxes, WritesTheBoxesByDemand}
use Rattle.ftl_answer.specs.headline.Promises.{WritesTheBoxesByDemandInMemory, WritesTheBoxesInMemory, WritesTheBoxesWhere}
use Rattle.ftl_answer.specs.headline.Promises.{in_memory}
use Rattle.ftl_answer.specs.refusals.PageLines.{too_long_line}
use Rattle.ftl_answer.proofs.headline.Bytes.{answer_same}
use Rattle.ftl_answer.proofs.headline.Alone.{none_but_long_pages_are_refused}
use Rattle.ftl_answer.proofs.headline.Explanations.{accepted_shown, command_or, obeyed_by, pair_shown, shown_of_each}
use Rattle.ftl_answer.proofs.headline.Shown.{accepted_is_shown, long_answers_alone, or_refused}
use Rattle.ftl_answer.proofs.headline.Statuses.{answer_status}

-- words and bytes have one answer
abbrev pub EachHasOneAnswer : Type 0
EachHasOneAnswer = (words : List (List ℕ)) (bytes : List ℕ) → HasOneAnswer words bytes

-- how a call matches this answer to these bytes
abbrev Matches : Call → (bytes : List ℕ) → Answer → Type 0
Matches k =
    MatchesAnswer k.status k.written_before k.written_after (words_read k.words) k.left_before k.left_after
    k.counts_before k.counts_after (SinkFailed k)

-- the bytes that were told are these, or the words read no page
told_are : (k : Call) (bytes some : List ℕ) → AreBytesOf k bytes → words_read k.words ≡ true → AreTold k.left_before some
    → some ≡ bytes
told_are k bytes some (inl is) reads are = subst (λ t. AreTold t some) is are
told_are k bytes some (inr unread) reads are = absurd cc

-- an answer to the words and to these bytes, and bytes to which the call matches it
record Matched (k : Call) (bytes : List ℕ) : Type 0 where
  told : List ℕ
  answer : Answer
  same : words_read k.words ≡ true → told ≡ bytes
  answers : IsAnswer k.words bytes answer
  matches : Matches k told answer

-- The answer that the call matches is one to the bytes that the source told. The bytes are these where the words read a
-- page; where they read none, the answer is one to any bytes.
matched_by : (k : Call) (bytes : List ℕ) (reads : Bool) → words_read k.words ≡ reads
    → OfTheAnswer k.words (bytes_answered reads k.left_before) (Matches k) → AreBytesOf k bytes → Matched k bytes
matched_by k bytes true reads (some, are, (b, answers, matches)) is =
    let same : some ≡ bytes = told_are k bytes some is reads are in
    record {
      told = some;
      answer = b;
      same = λ e. same;
      answers = subst (λ xs. IsAnswer k.words xs b) same answers;
      matches = matches;
    }
matched_by k bytes false reads (some, are, (b, answers, matches)) is = record {
  told = some;
  answer = b;
  same = λ e. absurd cc;
  answers = answer_same k.words some bytes b reads answers;
  matches = matches;
}

-- without a fault and want of memory the call ends as the answer that it matches
writes_matched : (k : Call) (bytes : List ℕ) (a : Answer) → HasNoFaultOrWant k → Matches k bytes a → Writes k a
writes_matched k bytes a fine matches =
    let ends : k.status ≡ a.status =
    ⊎_elim (λ e. e) (λ e. absurd (fine.no_want e)) (matches.no_excuse fine.no_write_fault fine.no_read_fault)
    in (ends, matches.text ends)

found : (k : Call) (bytes : List ℕ) → KeepsPromises k → AreBytesOf k bytes → Matched k bytes
found k bytes promised is = matched_by k bytes (words_read k.words) refl promised.answer is

-- what holds of each answer that the call matches holds of an answer, and but for explanations of each
of_matched : EachHasOneAnswer → (k : Call) (bytes : List ℕ) → KeepsPromises k → AreBytesOf k bytes
    → (P : Answer → Type 0) → ((told : List ℕ) (a : Answer) → Matches k told a → P a) → OfAnAnswer k.words bytes P
of_matched ones k bytes promised is P holds =
    let x = found k bytes promised is in
    let here : P x.answer = holds x.told x.answer x.matches in
    record {
      some = (x.answer, x.answers, here);
      each = λ other a answers. subst P ((ones k.words bytes).any_two other x.answer a x.answers answers) here;
    }

-- ---- what is written

pub writes_the_answer : EachHasOneAnswer → WritesTheAnswer
writes_the_answer ones k bytes promised fine is =
    of_matched ones k bytes promised is (Writes k) (λ told a matches. writes_matched k told a fine matches)

pub completes_commands : EachHasOneAnswer → CompletesCommands
completes_commands ones k bytes c a promised fine is named shown =
    let written = writes_the_answer ones k bytes promised fine is in
    let b = written.some in (
      (b.0, shown_of_each ones k.words bytes a b.0 c named shown b.1, b.2),
      λ other. written.each other a (accepted_is_shown k.words bytes c a named shown),
    )

-- no answer has the status of a read fault
no_three : (k : Call) (bytes : List ℕ) (a : Answer) → IsAnswer k.words bytes a → k.status ≡ a.status → k.status ≢ 3
no_three k bytes a answers is e = (answer_status k.words bytes a answers).no_read_fault (sym is ∙ e)

some_written : (k : Call) (reads : Bool) → words_read k.words ≡ reads → reads ≡ true → HasNoFaultOrWant k
    → OfTheAnswer k.words (bytes_answered reads k.left_before) (Matches k)
    → (bytes : List ℕ) × (a : Answer) × AreTold k.left_before bytes × IsAnswer k.words bytes a × Writes k a
    × (a ≢ refused 4 too_long_line → RoseBy (length bytes) k.counts_before.taken k.counts_after.taken)
some_written k true reads is fine (bytes, are, (a, answers, matches)) =
    let written = writes_matched k bytes a fine matches in
    let no_fault : k.status ≢ 3 = no_three k bytes a answers written.0 in (
      bytes,
      a,
      are,
      answers,
      written,
      matches.counted reads no_fault fine.no_want,
    )
some_written k false reads is fine x = absurd cc

pub writes_some_answer : WritesSomeAnswer
writes_some_answer k promised fine reads = some_written k (words_read k.words) refl reads fine promised.answer

pub ends_as_answered : EachHasOneAnswer → EndsAsAnswered
ends_as_answered ones k bytes promised is =
    of_matched ones k bytes promised is (EndsAs k)
    (λ told a matches. record { status = matches.status; text = matches.text; front = matches.front })

pub write_faults_have_causes : WriteFaultsHaveCauses
write_faults_have_causes k promised = promised.faults.write

-- words that read no page have no read fault
fault_reads : (k : Call) → KeepsPromises k → k.status ≡ 3 → (reads : Bool) → words_read k.words ≡ reads → reads ≡ true
fault_reads k promised fault true is = refl
fault_reads k promised fault false is = absurd ((promised.input.untouched is).2 fault)

pub stops_at_a_read_fault : StopsAtAReadFault
stops_at_a_read_fault k promised fault =
    (promised.faults.read fault, fault_reads k promised fault (words_read k.words) refl, promised.faults.nothing (inl fault))

pub stops_without_memory : StopsWithoutMemory
stops_without_memory k promised want = promised.faults.nothing (inr want)

-- ---- what is read

page_is_read : (c : Command) (o : Option Command) → o ≡ Some c → ReadsAPage c → may_read o ≡ true
page_is_read (command.Run how) o is reads = ap may_read is
page_is_read command.Check o is reads = ap may_read is
page_is_read command.Schedule o is reads = ap may_read is
page_is_read command.Explain o is reads = ap may_read is
page_is_read command.Demand o is reads = ap may_read is
page_is_read (command.Edit how) o is reads = ap may_read is
page_is_read (command.Sample pieces name how) o is reads = absurd reads

pub reads_the_page : ReadsThePage
reads_the_page k bytes c a promised is answered named reads_one no_fault no_want =
    let reads : words_read k.words ≡ true = page_is_read c (command_of k.words) named reads_one in
    let x = found k bytes promised (inl is) in
    let same : x.told ≡ bytes = x.same reads in
    let not_long : a ≢ refused 4 too_long_line → x.answer ≢ refused 4 too_long_line =
    λ short e.
    short (long_answers_alone k.words bytes reads
    (none_but_long_pages_are_refused k.words bytes reads (subst (IsAnswer k.words bytes) e x.answers)) a answered) in (
      λ short. (
        subst (λ t. IfSome t (λ _. k.left_after ≡ Some [])) is
            (x.matches.to_its_end reads no_fault no_want (not_long short)),
        subst (λ xs. RoseBy (length xs) k.counts_before.taken k.counts_after.taken) same
            (x.matches.counted reads no_fault no_want (not_long short)),
      ),
      λ long. x.matches.over reads no_fault no_want (subst (λ xs. 67108864 < length xs) (sym same) long),
    )

no_page_is_read : (words : List (List ℕ)) → ReadNoPage words → words_read words ≡ false
no_page_is_read words (inl none) = ap may_read none
no_page_is_read words (inr (pieces, name, how, sample)) = ap may_read sample

pub leaves_the_source : LeavesTheSource
leaves_the_source k promised none = promised.input.untouched (no_page_is_read k.words none)

pub reads_within_limits : ReadsWithinLimits
reads_within_limits k promised = (promised.input.at_most, promised.input.turns)

-- ---- the headline

-- words of another command ask for no explanation
asks_none : (words : List (List ℕ)) (c : Command) → command_of words ≡ Some c → c ≢ command.Explain
    → AskForNoExplanation words
asks_none words c named other e = other (ap (command_or c) (sym named ∙ e))

-- a command that shows the boxes of pages that are accepted so
module _ (ones : EachHasOneAnswer) (shows : Command) (other : shows ≢ command.Explain) (accepted : Acceptance)
    (shown_where : (bytes : List ℕ) (a : Answer) → IsTableShownWhere accepted boxes_of bytes a → IsShown shows bytes a)
    (accepted_where : (bytes : List ℕ) (a : Answer) → IsShown shows bytes a → IsTableShownWhere accepted boxes_of bytes a)
    (k : Call) (bytes : List ℕ) (promised : KeepsPromises k) (fine : HasNoFaultOrWant k)
    (is : k.left_before ≡ Some bytes) (named : command_of k.words ≡ Some shows) where
  boxes_written : (c : CheckedGrammar) (t : Forest) → accepted bytes c t → (values : List Value)
      → SolvesList (meant c) t values → Writes k (shown_answer boxes_of c t values)
  boxes_written c t x values solves =
      let a = shown_answer boxes_of c t values in
      let table : IsTableShownWhere accepted boxes_of bytes a = (c, t, values, x, solves, refl) in
      (writes_the_answer ones k bytes promised fine (inl is)).each (asks_none k.words shows named other) a
      (accepted_is_shown k.words bytes shows a named (shown_where bytes a table))

  refusal_written : ((c : CheckedGrammar) (t : Forest) → accepted bytes c t → ⊥) → (a : Answer)
      → IsAnswer k.words bytes a
      → ((c : Command) × (command_of k.words ≡ Some c) × IsShown c bytes a) ⊎ IsRefusal a
      → (b : Answer) × IsRefusal b × IsAnswer k.words bytes b × Writes k b
  refusal_written none a answers (inl (c, is_c, shown)) =
      let same : c ≡ shows = ap (command_or c) (sym is_c ∙ named) in
      let table = accepted_where bytes a (subst (λ x. IsShown x bytes a) same shown) in
      absurd (none table.0 table.1 table.3)
  refusal_written none a answers (inr refusal) = (
    a,
    refusal,
    answers,
    (writes_the_answer ones k bytes promised fine (inl is)).each (asks_none k.words shows named other) a answers,
  )

  refused_otherwise : ((c : CheckedGrammar) (t : Forest) → accepted bytes c t → ⊥)
      → (a : Answer) × IsRefusal a × IsAnswer k.words bytes a × Writes k a
  refused_otherwise none =
      let a = (ones k.words bytes).some in
      refusal_written none a.0 a.1 (or_refused k.words bytes a.0 a.1)

  boxes_where : HasOneTableWhere accepted bytes → WritesTheBoxesWhere accepted k bytes
  boxes_where one = (λ c t x. (one c t x, boxes_written c t x), refused_otherwise)

-- a command that shows what edits make of a page
module _ (ones : EachHasOneAnswer) (how : Solving) (k : Call) (bytes : List ℕ) (promised : KeepsPromises k)
    (fine : HasNoFaultOrWant k) (is : k.left_before ≡ Some bytes)
    (named : command_of k.words ≡ Some (command.Edit how)) where
  change_written : (c : CheckedGrammar) (t : Forest) (es : List Edit) → AreEditsAccepted bytes c t es
      → (values : List Value) (touched : List ℕ) → IsLaidOutAnew c t es values touched
      → Writes k (edited_answer c t es values touched)
  change_written c t es x values touched anew =
      let a = edited_answer c t es values touched in
      let shown : IsChangeShown bytes a = (c, t, es, values, touched, x, anew, refl) in
      (writes_the_answer ones k bytes promised fine (inl is)).each
      (asks_none k.words (command.Edit how) named (λ e. absurd cc)) a
      (accepted_is_shown k.words bytes (command.Edit how) a named shown)

  change_refused : ((c : CheckedGrammar) (t : Forest) (es : List Edit) → AreEditsAccepted bytes c t es → ⊥) → (a : Answer)
      → IsAnswer k.words bytes a
      → ((c : Command) × (command_of k.words ≡ Some c) × IsShown c bytes a) ⊎ IsRefusal a
      → (b : Answer) × IsRefusal b × IsAnswer k.words bytes b × Writes k b
  change_refused none a answers (inl (c, other, shown)) =
      let same : c ≡ command.Edit how = ap (command_or c) (sym other ∙ named) in
      let x : IsChangeShown bytes a = subst (λ x. IsShown x bytes a) same shown in
      absurd (none x.0 x.1 x.2 x.5)
  change_refused none a answers (inr refusal) = (
    a,
    refusal,
    answers,
    (writes_the_answer ones k bytes promised fine (inl is)).each
        (asks_none k.words (command.Edit how) named (λ e. absurd cc)) a answers,
  )

  change_or_refused : ((c : CheckedGrammar) (t : Forest) (es : List Edit) → AreEditsAccepted bytes c t es → ⊥)
      → (a : Answer) × IsRefusal a × IsAnswer k.words bytes a × Writes k a
  change_or_refused none =
      let a = (ones k.words bytes).some in
      change_refused none a.0 a.1 (or_refused k.words bytes a.0 a.1)

  change_of : HasOneTableWhere IsAcceptedForEdits bytes × HasOneChangedTable bytes → WritesTheChangeOf k bytes
  change_of one =
      (λ c t es x. (one.0 c t x.accepted, one.1 c t es x, change_written c t es x), change_or_refused)

-- the command that explains schedules
module _ (ones : EachHasOneAnswer) (k : Call) (bytes : List ℕ) (promised : KeepsPromises k) (fine : HasNoFaultOrWant k)
    (is : k.left_before ≡ Some bytes) (named : command_of k.words ≡ Some command.Explain) where
  -- the answer that is written
  some_written_answer : (a : Answer) × IsAnswer k.words bytes a × Writes k a
  some_written_answer = (writes_the_answer ones k bytes promised fine (inl is)).some

  explains_it : explained_page bytes (ends some_written_answer.0)
  explains_it = obeyed_by k.words bytes command.Explain some_written_answer.0 named some_written_answer.1

  neither_shown : ((c : CheckedGrammar) (s : NestingSchedule) → AreRulesAccepted bytes c s → ⊥)
      → ((c : CheckedGrammar) (s : NestingSchedule) → IsPairRefused bytes c s → ⊥) → (a : Answer)
      → IsShown command.Explain bytes a → ⊥
  neither_shown none no_pair a (inl (c, s, x, shown)) = none c s x
  neither_shown none no_pair a (inr (c, s, text, x, explains, shown)) = no_pair c s x

  refused_instead : ((a : Answer) → IsShown command.Explain bytes a → ⊥) → (a : Answer) → IsAnswer k.words bytes a
      → Writes k a → ((c : Command) × (command_of k.words ≡ Some c) × IsShown c bytes a) ⊎ IsRefusal a
      → (b : Answer) × IsRefusal b × IsAnswer k.words bytes b × Writes k b
  refused_instead none a answers writes (inl (c, is_c, shown)) =
      let same : c ≡ command.Explain = ap (command_or c) (sym is_c ∙ named) in
      absurd (none a (subst (λ x. IsShown x bytes a) same shown))
  refused_instead none a answers writes (inr refusal) = (a, refusal, answers, writes)

  explanation_written : WritesTheExplanationOf k bytes
  explanation_written =
      let w = some_written_answer in (
        λ c s x. subst (Writes k) (accepted_shown bytes c s w.0 x explains_it) w.2,
        λ c s x.
            let told = pair_shown bytes c s w.0 x explains_it in (told.0, told.1, subst (Writes k) told.2 w.2),
        λ none no_pair.
            refused_instead (neither_shown none no_pair) w.0 w.1 w.2 (or_refused k.words bytes w.0 w.1),
      )

pub writes_the_explanation : EachHasOneAnswer → WritesTheExplanation
writes_the_explanation ones k bytes promised fine is named = explanation_written ones k bytes promised fine is named

-- the table of a call's page, by the command that its words are
told_table : (k : Call) (bytes : List ℕ) (c : Command) → k.left_before ≡ Some bytes → command_of k.words ≡ Some c
    → KeepsPromises k → OneTableOf (Some c) (Some bytes)
told_table k bytes c is named promised =
    subst (λ told. OneTableOf (Some c) told) is
    (subst (λ o. OneTableOf o k.left_before) named promised.one_table)

module _ (ones : EachHasOneAnswer) where
  run_boxes : (how : Solving) (k : Call) (bytes : List ℕ) → KeepsPromises k → HasNoFaultOrWant k
      → k.left_before ≡ Some bytes → command_of k.words ≡ Some (command.Run how)
      → WritesTheBoxesWhere IsAccepted k bytes
  run_boxes how k bytes promised fine is named =
      boxes_where ones (command.Run how) (λ e. absurd cc) IsAccepted (λ b a x. x) (λ b a x. x) k bytes promised fine is named
      (told_table k bytes (command.Run how) is named promised bytes refl)

  demand_boxes : (k : Call) (bytes : List ℕ) → KeepsPromises k → HasNoFaultOrWant k
      → k.left_before ≡ Some bytes → command_of k.words ≡ Some command.Demand
      → WritesTheBoxesWhere IsAcceptedForDemand k bytes
  demand_boxes k bytes promised fine is named =
      boxes_where ones command.Demand (λ e. absurd cc) IsAcceptedForDemand (λ b a x. x) (λ b a x. x) k bytes promised fine is named
      (told_table k bytes command.Demand is named promised bytes refl)

  pub writes_the_boxes : WritesTheBoxes
  writes_the_boxes k bytes how promised fine is runs = run_boxes how k bytes promised fine is runs

  pub writes_the_boxes_by_demand : WritesTheBoxesByDemand
  writes_the_boxes_by_demand k bytes promised fine is named = demand_boxes k bytes promised fine is named

  edit_change : (how : Solving) (k : Call) (bytes : List ℕ) → KeepsPromises k → HasNoFaultOrWant k
      → k.left_before ≡ Some bytes → command_of k.words ≡ Some (command.Edit how) → WritesTheChangeOf k bytes
  edit_change how k bytes promised fine is named =
      change_of ones how k bytes promised fine is named
      (told_table k bytes (command.Edit how) is named promised bytes refl)

  pub writes_the_change : WritesTheChange
  writes_the_change k bytes how promised fine is named = edit_change how k bytes promised fine is named

  pub writes_the_change_in_memory : WritesTheChangeInMemory
  writes_the_change_in_memory words status source source_after sink sink_after how promised fine named =
      let k = in_memory words status source source_after sink sink_after in
      edit_change how k source.left promised fine refl named

  -- what was written to a sink in memory
  in_sink : (accepted : Acceptance) (words : List (List ℕ)) (status : ℕ) (source source_after : SourceState)
      (sink sink_after : SinkState)
      → WritesTheBoxesWhere accepted (in_memory words status source source_after sink sink_after) source.left
      → AddsTheBoxesWhere accepted words status source sink sink_after
  in_sink accepted words status source source_after sink sink_after written = written

  pub writes_the_boxes_in_memory : WritesTheBoxesInMemory
  writes_the_boxes_in_memory words status source source_after sink sink_after how promised fine runs =
      in_sink IsAccepted words status source source_after sink sink_after
      (run_boxes how (in_memory words status source source_after sink sink_after) source.left promised fine refl runs)

  pub writes_the_boxes_by_demand_in_memory : WritesTheBoxesByDemandInMemory
  writes_the_boxes_by_demand_in_memory words status source source_after sink sink_after promised fine named =
      in_sink IsAcceptedForDemand words status source source_after sink sink_after
      (demand_boxes (in_memory words status source source_after sink sink_after) source.left promised fine refl named)
