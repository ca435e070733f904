-- What follows from the four promises of a call: what it writes and how far it reads, by its words and its status.
use Rattle.std.specs.Prelude.{◌≡◌, ◌≢◌, ◌⊎◌, ℕ, ◌+◌, ◌<◌, ◌≤◌, true, false, List, [], length, ◌++◌, Some, None, Ok}
use Rattle.std.specs.Prelude.{nat_lt}
use Rattle.std.specs.Io.KnownBytes.{Appends}
use Rattle.ftl_model.specs.layout.Limits.{most_page_bytes}
use Rattle.ftl_boxes.specs.SamplePage.{sample_page_of}
use Rattle.ftl_deps.specs.reads.Meant.{meant}
use Rattle.ftl_edge.specs.Counts.{RoseBy, raised}
use Rattle.ftl_edge.specs.MemSink.{SinkState}
use Rattle.ftl_edge.specs.MemSource.{SourceState}
use Rattle.ftl_edge.specs.Sink.{AppendsFront}
use Rattle.ftl_meaning.specs.faults.Checked.{CheckedGrammar}
use Rattle.ftl_meaning.specs.grammars.GrammarOf.{names_of}
use Rattle.ftl_model.specs.layout.Boxes.{shows_overflow}
use Rattle.ftl_model.specs.layout.Table.{SolvesList, value_in}
use Rattle.ftl_model.specs.layout.Tree.{Forest}
use Rattle.ftl_model.specs.layout.Values.{Value}
use Rattle.ftl_order.specs.orders.OneTable.{ExactlyOneList}
use Rattle.ftl_order.specs.declared.faults.fault.VerifyFault.TheVariants.{Unordered}
use Rattle.ftl_nest_check.specs.check.NestFault.{first_nest_fault}
use Rattle.ftl_page.specs.commands.Commands.{command_of}
use Rattle.ftl_page.specs.declared.commands.command.Command.{Command}
use Rattle.ftl_page.specs.declared.commands.command.Command.TheVariants as command
use Rattle.ftl_page.specs.declared.sections.fault.Section.TheVariants as section
use Rattle.ftl_page.specs.declared.sections.page.Page.{Page}
use Rattle.ftl_page.specs.declared.workers.solving.Solving.{Solving}
use Rattle.ftl_edits.specs.declared.meaning.types.Edit.{Edit}
use Rattle.ftl_relayout.specs.relaid.Relaid.{edited_tree}
use Rattle.ftl_nest_check.specs.declared.stages.types.NestingSchedule.{NestingSchedule}
use Rattle.ftl_nest_check.specs.stages.Nested.{nests_of}
use Rattle.ftl_nest_text.specs.printing.NestWritten.{nest_written_of}
use Rattle.ftl_nest_text.specs.text.NestText.{nesting_schedule_text}
use Rattle.ftl_tokens.specs.scanner.Tokenized.{Tokenized}
use Rattle.ftl_answer.specs.answers.Answer.{Answer, answer, refused}
use Rattle.ftl_answer.specs.answers.Answers.{IsAnswer, IsLaidOutAnew, boxes_of, edited_answer}
use Rattle.ftl_answer.specs.answers.Answers.{AskForNoExplanation, accepted_answer, rules_alone}
use Rattle.ftl_answer.specs.answers.Answers.{shown_answer, summary_of}
use Rattle.ftl_answer.specs.answers.Explanations.{IsExplanation}
use Rattle.ftl_answer.specs.answers.Stages.{hands_on}
use Rattle.ftl_answer.specs.answers.Summary.{overflow_count, shown_values}
use Rattle.ftl_answer.specs.answers.Texts.{grammar, page, schedule, spelled_schedule, tokens}
use Rattle.ftl_answer.specs.headline.Headline.{Acceptance, AreTold, Call, GivesTheAnswer, HasCauses, HasTheTable}
use Rattle.ftl_answer.specs.headline.Headline.{IsAccepted}
use Rattle.ftl_answer.specs.headline.Headline.{AreEditsAccepted, HasOneChangedTable, HasOneTableWhere}
use Rattle.ftl_answer.specs.headline.Headline.{IsAcceptedForEdits}
use Rattle.ftl_answer.specs.headline.Headline.{IsAcceptedForDemand, ReadsSoFar, SinkFailed, SourceFailed, call_of}
use Rattle.ftl_answer.specs.headline.Headline.{words_read}
use Rattle.ftl_answer.specs.refusals.PageLines.{too_long_line, words_line}

-- ---- accepted pages, and refusals

-- the grammar and the schedule of the page are accepted, with this grammar and this schedule
pub record AreRulesAccepted (bytes : List ℕ) (c : CheckedGrammar) (s : NestingSchedule) : Type 0 where
  pub sections : Page
  pub read : page rules_alone bytes (hands_on sections)
  pub lawful : grammar sections.width sections.grammar (hands_on c)
  pub ordered : schedule c sections.schedule (hands_on s)

-- the grammar of the page is accepted, and the first fault of its schedule, which is this one, is a pair
pub record IsPairRefused (bytes : List ℕ) (c : CheckedGrammar) (s : NestingSchedule) : Type 0 where
  pub sections : Page
  pub read : page rules_alone bytes (hands_on sections)
  pub lawful : grammar sections.width sections.grammar (hands_on c)
  pub text : List ℕ
  pub written : sections.schedule ≡ Some text
  pub scanned : Tokenized
  pub tokens_are : tokens section.Schedule 2147483647 text (hands_on scanned)
  pub spelled : spelled_schedule c scanned (hands_on s)
  pub reader : ℕ
  pub writer : ℕ
  pub fault : first_nest_fault (meant c) (nests_of s) ≡ Some (Unordered reader writer)

-- the page is accepted so, and the answer shows, by this text, a list that solves its tree
abbrev pub IsTableShownWhere : Acceptance → (CheckedGrammar → Forest → List Value → List ℕ) → (bytes : List ℕ) → Answer
    → Type 0
IsTableShownWhere accepted text bytes a =
    (c : CheckedGrammar) × (t : Forest) × (values : List Value) × accepted bytes c t × SolvesList (meant c) t values
    × (a ≡ shown_answer text c t values)

-- the page is accepted, and the answer shows, by this text, a list that solves its tree
abbrev pub IsTableShown : (CheckedGrammar → Forest → List Value → List ℕ) → (bytes : List ℕ) → Answer → Type 0
IsTableShown = IsTableShownWhere IsAccepted

-- the page is accepted with its edits, and the answer shows the changed tree
abbrev pub IsChangeShown : (bytes : List ℕ) → Answer → Type 0
IsChangeShown bytes a =
    (c : CheckedGrammar) × (t : Forest) × (es : List Edit) × (values : List Value) × (touched : List ℕ)
    × AreEditsAccepted bytes c t es × IsLaidOutAnew c t es values touched × (a ≡ edited_answer c t es values touched)

-- the grammar and the schedule of the page are accepted, and the answer says so
abbrev pub IsAcceptanceShown : (bytes : List ℕ) → Answer → Type 0
IsAcceptanceShown bytes a =
    (c : CheckedGrammar) × (s : NestingSchedule) × AreRulesAccepted bytes c s × (a ≡ accepted_answer)

-- the schedule of the page is refused for a pair, and the answer explains it
abbrev pub IsExplanationShown : (bytes : List ℕ) → Answer → Type 0
IsExplanationShown bytes a =
    (c : CheckedGrammar) × (s : NestingSchedule) × (text : List ℕ) × IsPairRefused bytes c s × IsExplanation c s text
    × (a ≡ answer 0 text)

-- What the command needs of the page is accepted, and this is what it shows of it. To explain a schedule that is refused
-- for a pair no more is needed.
abbrev pub IsShown : Command → (bytes : List ℕ) → Answer → Type 0
IsShown (command.Run how) bytes a = IsTableShown boxes_of bytes a
IsShown command.Check bytes a = IsAcceptanceShown bytes a
IsShown command.Schedule bytes a =
    (c : CheckedGrammar) × (s : NestingSchedule) × AreRulesAccepted bytes c s
    × (a ≡ answer 0 (nesting_schedule_text (nest_written_of c.grammar s)))
IsShown command.Explain bytes a = IsAcceptanceShown bytes a ⊎ IsExplanationShown bytes a
IsShown command.Demand bytes a = IsTableShownWhere IsAcceptedForDemand boxes_of bytes a
IsShown (command.Edit how) bytes a = IsChangeShown bytes a
IsShown (command.Sample pieces name how) bytes a =
    (text : List ℕ) × (sample_page_of name pieces ≡ Ok text) × IsTableShown (summary_of name) text a

-- the statuses of refusals of what a section holds: of a grammar, of a schedule, of a document, of edits
abbrev pub IsSectionStatus : (status : ℕ) → Type 0
IsSectionStatus s = (s ≡ 5) ⊎ ((s ≡ 6) ⊎ ((s ≡ 7) ⊎ (s ≡ 10)))

-- the statuses of refusals: of words, of a page, of what a section holds
abbrev pub IsRefusalStatus : (status : ℕ) → Type 0
IsRefusalStatus s = (s ≡ 2) ⊎ ((s ≡ 4) ⊎ IsSectionStatus s)

-- one line that refuses
abbrev pub IsRefusal : Answer → Type 0
IsRefusal a = (status : ℕ) × IsRefusalStatus status × (line : List ℕ) × (a ≡ refused status line)

-- ---- the answer

-- what is accepted is shown
abbrev pub AcceptedIsShown : Type 0
AcceptedIsShown =
    (words : List (List ℕ)) (bytes : List ℕ) (c : Command) (a : Answer)
    → command_of words ≡ Some c → IsShown c bytes a → IsAnswer words bytes a

-- every other answer is a refusal
abbrev pub OrRefused : Type 0
OrRefused =
    (words : List (List ℕ)) (bytes : List ℕ) (a : Answer) → IsAnswer words bytes a
    → ((c : Command) × (command_of words ≡ Some c) × IsShown c bytes a) ⊎ IsRefusal a

-- words that are no command are refused
abbrev pub WordsAreRefused : Type 0
WordsAreRefused =
    (words : List (List ℕ)) (bytes : List ℕ) → command_of words ≡ None → IsAnswer words bytes (refused 2 words_line)

-- no other words have this status
abbrev pub NoneButWordsAreRefused : Type 0
NoneButWordsAreRefused =
    (words : List (List ℕ)) (bytes : List ℕ) (a : Answer) → IsAnswer words bytes a → a.status ≡ 2
    → command_of words ≡ None

-- a page of more bytes than there may be is refused, where the words read one
abbrev pub LongPagesAreRefused : Type 0
LongPagesAreRefused =
    (words : List (List ℕ)) (bytes : List ℕ) → words_read words ≡ true → most_page_bytes < length bytes
    → IsAnswer words bytes (refused 4 too_long_line)

-- no other page is refused as too long
abbrev pub NoneButLongPagesAreRefused : Type 0
NoneButLongPagesAreRefused =
    (words : List (List ℕ)) (bytes : List ℕ) → words_read words ≡ true → IsAnswer words bytes (refused 4 too_long_line)
    → most_page_bytes < length bytes

-- a table that is shown ends with 8 where a shown value is Overflow, and with 0 where none is
abbrev pub OverflowHasAStatus : Type 0
OverflowHasAStatus =
    (text : CheckedGrammar → Forest → List Value → List ℕ) (c : CheckedGrammar) (t : Forest) (values : List Value)
    → (shows_overflow (names_of c.grammar) t (value_in (meant c) t values) ≡ true
    → (shown_answer text c t values).status ≡ 8)
    × (shows_overflow (names_of c.grammar) t (value_in (meant c) t values) ≡ false
    → (shown_answer text c t values).status ≡ 0)

-- the summary of a table counts some shown values that are Overflow exactly where one is
abbrev pub SummariesCountOverflow : Type 0
SummariesCountOverflow =
    (c : CheckedGrammar) (t : Forest) (values : List Value)
    → nat_lt 0 (overflow_count (shown_values (names_of c.grammar) t (value_in (meant c) t values)))
    ≡ shows_overflow (names_of c.grammar) t (value_in (meant c) t values)

-- ---- calls

-- the call does what is promised of it
pub record KeepsPromises (k : Call) : Type 0 where
  pub answer : GivesTheAnswer k
  pub faults : HasCauses k
  pub one_table : HasTheTable k
  pub input : ReadsSoFar k

-- Neither the source nor the sink failed in the call, and memory did not run out. No call is without a fault by this
-- whose count of faults had come to its type's end before.
pub record HasNoFaultOrWant (k : Call) : Type 0 where
  pub no_write_fault : SinkFailed k → ⊥
  pub no_read_fault : SourceFailed k → ⊥
  pub no_want : k.status ≢ 9

-- these are the bytes that the source had left, or the words read no page and any bytes will do
abbrev pub AreBytesOf : Call → List ℕ → Type 0
AreBytesOf k bytes = (k.left_before ≡ Some bytes) ⊎ (words_read k.words ≡ false)

-- the call ends with the status of the answer, and appended its whole text
abbrev pub Writes : Call → Answer → Type 0
Writes k a = (k.status ≡ a.status) × Appends k.written_before k.written_after a.text

-- this holds of an answer to the words and to the bytes, and but for explanations of each
pub record OfAnAnswer (words : List (List ℕ)) (bytes : List ℕ) (P : Answer → Type 0) : Type 0 where
  pub some : (a : Answer) × IsAnswer words bytes a × P a
  pub each : AskForNoExplanation words → (a : Answer) → IsAnswer words bytes a → P a

-- without a fault and want of memory the answer to the words and to the bytes of the source is written
abbrev pub WritesTheAnswer : Type 0
WritesTheAnswer =
    (k : Call) (bytes : List ℕ) → KeepsPromises k → HasNoFaultOrWant k → AreBytesOf k bytes
    → OfAnAnswer k.words bytes (Writes k)

-- so a command is completed whose sections are accepted: what it shows is written
abbrev pub CompletesCommands : Type 0
CompletesCommands =
    (k : Call) (bytes : List ℕ) (c : Command) (a : Answer) → KeepsPromises k → HasNoFaultOrWant k → AreBytesOf k bytes
    → command_of k.words ≡ Some c → IsShown c bytes a
    → ((b : Answer) × IsShown c bytes b × Writes k b) × (AskForNoExplanation k.words → Writes k a)

-- of a source that doesn't tell its bytes there are some of which the same holds, as many as were taken
abbrev pub WritesSomeAnswer : Type 0
WritesSomeAnswer =
    (k : Call) → KeepsPromises k → HasNoFaultOrWant k → words_read k.words ≡ true
    → (bytes : List ℕ) × (a : Answer) × AreTold k.left_before bytes × IsAnswer k.words bytes a × Writes k a
    × (a ≢ refused 4 too_long_line → RoseBy (length bytes) k.counts_before.taken k.counts_after.taken)

-- where the page is accepted so, exactly one table solves its tree, and that table's boxes are written; otherwise one
-- line that refuses
abbrev pub WritesTheBoxesWhere : Acceptance → Call → (bytes : List ℕ) → Type 0
WritesTheBoxesWhere accepted k bytes =
    ((c : CheckedGrammar) (t : Forest) → accepted bytes c t
    → ExactlyOneList (meant c) t
    × ((values : List Value) → SolvesList (meant c) t values → Writes k (shown_answer boxes_of c t values)))
    × (((c : CheckedGrammar) (t : Forest) → accepted bytes c t → ⊥)
    → (a : Answer) × IsRefusal a × IsAnswer k.words bytes a × Writes k a)

-- The headline. Of a call of `run` without a fault and want of memory: where the page is accepted, exactly one table
-- solves its tree, and that table's boxes are written; otherwise one line that refuses.
abbrev pub WritesTheBoxes : Type 0
WritesTheBoxes =
    (k : Call) (bytes : List ℕ) (how : Solving) → KeepsPromises k → HasNoFaultOrWant k → k.left_before ≡ Some bytes
    → command_of k.words ≡ Some (command.Run how) → WritesTheBoxesWhere IsAccepted k bytes

-- The same of a call of `demand`: where the page's grammar and document are accepted, and the grammar is noncircular.
abbrev pub WritesTheBoxesByDemand : Type 0
WritesTheBoxesByDemand =
    (k : Call) (bytes : List ℕ) → KeepsPromises k → HasNoFaultOrWant k → k.left_before ≡ Some bytes
    → command_of k.words ≡ Some command.Demand → WritesTheBoxesWhere IsAcceptedForDemand k bytes

-- Of a call of `edit`: where the page is accepted with its edits, exactly one table solves its tree, and exactly one
-- the tree that the edits make of it; that table's boxes are written, and how many instances the edits touched.
-- Otherwise one line that refuses.
abbrev pub WritesTheChangeOf : Call → (bytes : List ℕ) → Type 0
WritesTheChangeOf k bytes =
    ((c : CheckedGrammar) (t : Forest) (es : List Edit) → AreEditsAccepted bytes c t es
    → ExactlyOneList (meant c) t × ExactlyOneList (meant c) (edited_tree c t es)
    × ((values : List Value) (touched : List ℕ) → IsLaidOutAnew c t es values touched
    → Writes k (edited_answer c t es values touched)))
    × (((c : CheckedGrammar) (t : Forest) (es : List Edit) → AreEditsAccepted bytes c t es → ⊥)
    → (a : Answer) × IsRefusal a × IsAnswer k.words bytes a × Writes k a)

abbrev pub WritesTheChange : Type 0
WritesTheChange =
    (k : Call) (bytes : List ℕ) (how : Solving) → KeepsPromises k → HasNoFaultOrWant k → k.left_before ≡ Some bytes
    → command_of k.words ≡ Some (command.Edit how) → WritesTheChangeOf k bytes

-- Of a call of `explain`: where the page's grammar and schedule are accepted, that is written; where the grammar is, and
-- the first fault of the schedule is a pair, a text that explains the pair. Otherwise one line that refuses.
abbrev pub WritesTheExplanationOf : Call → (bytes : List ℕ) → Type 0
WritesTheExplanationOf k bytes =
    ((c : CheckedGrammar) (s : NestingSchedule) → AreRulesAccepted bytes c s → Writes k accepted_answer)
    × ((c : CheckedGrammar) (s : NestingSchedule) → IsPairRefused bytes c s
    → (text : List ℕ) × IsExplanation c s text × Writes k (answer 0 text))
    × (((c : CheckedGrammar) (s : NestingSchedule) → AreRulesAccepted bytes c s → ⊥)
    → ((c : CheckedGrammar) (s : NestingSchedule) → IsPairRefused bytes c s → ⊥)
    → (a : Answer) × IsRefusal a × IsAnswer k.words bytes a × Writes k a)

abbrev pub WritesTheExplanation : Type 0
WritesTheExplanation =
    (k : Call) (bytes : List ℕ) → KeepsPromises k → HasNoFaultOrWant k → k.left_before ≡ Some bytes
    → command_of k.words ≡ Some command.Explain → WritesTheExplanationOf k bytes

-- The call ends as this answer, whatever failed: its status is the answer's, or that of a write fault, a read fault or
-- want of memory; with the status of the answer its whole text was appended, and with a write fault a front of it.
pub record EndsAs (k : Call) (a : Answer) : Type 0 where
  pub status : (k.status ≡ a.status) ⊎ ((k.status ≡ 1) ⊎ ((k.status ≡ 3) ⊎ (k.status ≡ 9)))
  pub text : k.status ≡ a.status → Appends k.written_before k.written_after a.text
  pub front : k.status ≡ 1 → AppendsFront k.written_before k.written_after a.text

-- a call ends as the answer to its words and to the bytes of its source
abbrev pub EndsAsAnswered : Type 0
EndsAsAnswered =
    (k : Call) (bytes : List ℕ) → KeepsPromises k → AreBytesOf k bytes → OfAnAnswer k.words bytes (EndsAs k)

-- a write fault comes of a sink that failed
abbrev pub WriteFaultsHaveCauses : Type 0
WriteFaultsHaveCauses = (k : Call) → KeepsPromises k → k.status ≡ 1 → SinkFailed k

-- a read fault comes of a source that failed, and of words that read a page, and nothing was written
abbrev pub StopsAtAReadFault : Type 0
StopsAtAReadFault =
    (k : Call) → KeepsPromises k → k.status ≡ 3
    → SourceFailed k × (words_read k.words ≡ true) × (k.written_after ≡ k.written_before)

-- where memory ran out, nothing was written
abbrev pub StopsWithoutMemory : Type 0
StopsWithoutMemory = (k : Call) → KeepsPromises k → k.status ≡ 9 → k.written_after ≡ k.written_before

-- ---- how far the source is read

-- this command reads a page
abbrev pub ReadsAPage : Command → Type 0
ReadsAPage (command.Run how) = Unit {0}
ReadsAPage command.Check = Unit {0}
ReadsAPage command.Schedule = Unit {0}
ReadsAPage command.Explain = Unit {0}
ReadsAPage command.Demand = Unit {0}
ReadsAPage (command.Edit how) = Unit {0}
ReadsAPage (command.Sample pieces name how) = ⊥

-- Words that read a page read the whole source, unless it is too long, a read failed or memory ran out. Of a longer page
-- than may be, at least as many bytes as may be and one more were taken.
abbrev pub ReadsThePage : Type 0
ReadsThePage =
    (k : Call) (bytes : List ℕ) (c : Command) (a : Answer) → KeepsPromises k → k.left_before ≡ Some bytes
    → IsAnswer k.words bytes a → command_of k.words ≡ Some c → ReadsAPage c → k.status ≢ 3 → k.status ≢ 9
    → (a ≢ refused 4 too_long_line
    → (k.left_after ≡ Some []) × RoseBy (length bytes) k.counts_before.taken k.counts_after.taken)
    × (most_page_bytes < length bytes → raised k.counts_before.taken (most_page_bytes + 1) ≤ k.counts_after.taken)

-- these words read no page: they are no command, or ask for a sample
abbrev pub ReadNoPage : List (List ℕ) → Type 0
ReadNoPage words =
    (command_of words ≡ None)
    ⊎ ((pieces : ℕ) × (name : List ℕ) × (how : Solving) × (command_of words ≡ Some (command.Sample pieces name how)))

-- they leave the source alone
abbrev pub LeavesTheSource : Type 0
LeavesTheSource =
    (k : Call) → KeepsPromises k → ReadNoPage k.words
    → (k.left_after ≡ k.left_before) × (k.counts_after ≡ k.counts_before) × (k.status ≢ 3)

-- whatever the words are, at most so many bytes are taken, in at most so many calls
abbrev pub ReadsWithinLimits : Type 0
ReadsWithinLimits =
    (k : Call) → KeepsPromises k
    → (k.counts_after.taken ≤ k.counts_before.taken + 67108865)
    × (k.counts_after.calls ≤ k.counts_before.calls + 67108866)

-- ---- tables

-- whatever is called, exactly one list of values solves the tree of a page that is accepted
abbrev pub OneTableOfEachPage : Type 0
OneTableOfEachPage =
    (bytes : List ℕ) (c : CheckedGrammar) (t : Forest) → IsAccepted bytes c t → ExactlyOneList (meant c) t

-- and of a page that is accepted for evaluation by demand
abbrev pub OneTableOfEachPageByDemand : Type 0
OneTableOfEachPageByDemand =
    (bytes : List ℕ) (c : CheckedGrammar) (t : Forest) → IsAcceptedForDemand bytes c t → ExactlyOneList (meant c) t

-- and of a page whose edits are to be read; of the tree that accepted edits make of it, too
abbrev pub OneTableOfEachEditedPage : Type 0
OneTableOfEachEditedPage =
    (bytes : List ℕ) → HasOneTableWhere IsAcceptedForEdits bytes × HasOneChangedTable bytes

-- Accepted edits lay a page out anew in one way: there are values and touched instances, and any two have the same
-- values, and as many instances.
abbrev pub EditsTouchSoMany : Type 0
EditsTouchSoMany =
    (bytes : List ℕ) (c : CheckedGrammar) (t : Forest) (es : List Edit) → AreEditsAccepted bytes c t es
    → ((values : List Value) × (touched : List ℕ) × IsLaidOutAnew c t es values touched)
    × ((values other : List Value) (touched others : List ℕ) → IsLaidOutAnew c t es values touched
    → IsLaidOutAnew c t es other others → (values ≡ other) × (length touched ≡ length others))

-- ---- pages in memory

-- the call with this source and this sink in memory, before and after
abbrev pub in_memory : (words : List (List ℕ)) → (status : ℕ) → (source source_after : SourceState)
    → (sink sink_after : SinkState) → Call
in_memory words status source source_after sink sink_after =
    call_of (λ (s : SourceState). Some s.left) (λ (s : SourceState). s.calls) (λ (s : SourceState). s.taken)
    (λ (s : SourceState). s.fault_count) (λ (s : SinkState). Some s.written) (λ (s : SinkState). s.fault_count) words
    status source source_after sink sink_after

-- the call ends with the status of the answer, and its text stands behind what the sink held
abbrev pub Adds : Answer → (status : ℕ) → (sink sink_after : SinkState) → Type 0
Adds a status sink sink_after = (status ≡ a.status) × (sink_after.written ≡ sink.written ++ a.text)

-- where a page in memory is accepted so, exactly one table solves its tree, and that table's boxes are written; otherwise
-- one line that refuses
abbrev pub AddsTheBoxesWhere : Acceptance → (words : List (List ℕ)) → (status : ℕ) → SourceState
    → (sink sink_after : SinkState) → Type 0
AddsTheBoxesWhere accepted words status source sink sink_after =
    ((c : CheckedGrammar) (t : Forest) → accepted source.left c t
    → ExactlyOneList (meant c) t
    × ((values : List Value) → SolvesList (meant c) t values
    → Adds (shown_answer boxes_of c t values) status sink sink_after))
    × (((c : CheckedGrammar) (t : Forest) → accepted source.left c t → ⊥)
    → (a : Answer) × IsRefusal a × IsAnswer words source.left a × Adds a status sink sink_after)

-- the headline of pages in memory, by what their source and their sink hold
abbrev pub WritesTheBoxesInMemory : Type 0
WritesTheBoxesInMemory =
    (words : List (List ℕ)) (status : ℕ) (source source_after : SourceState) (sink sink_after : SinkState) (how : Solving)
    → KeepsPromises (in_memory words status source source_after sink sink_after)
    → HasNoFaultOrWant (in_memory words status source source_after sink sink_after)
    → command_of words ≡ Some (command.Run how) → AddsTheBoxesWhere IsAccepted words status source sink sink_after

-- and the same of `demand`
abbrev pub WritesTheBoxesByDemandInMemory : Type 0
WritesTheBoxesByDemandInMemory =
    (words : List (List ℕ)) (status : ℕ) (source source_after : SourceState) (sink sink_after : SinkState)
    → KeepsPromises (in_memory words status source source_after sink sink_after)
    → HasNoFaultOrWant (in_memory words status source source_after sink sink_after)
    → command_of words ≡ Some command.Demand → AddsTheBoxesWhere IsAcceptedForDemand words status source sink sink_after

-- and of `edit`: where a page in memory is accepted with its edits, exactly one table solves its tree, and exactly one
-- the changed tree, whose boxes are written with the number of touched instances; otherwise one line that refuses
abbrev pub AddsTheChange : (words : List (List ℕ)) → (status : ℕ) → SourceState → (sink sink_after : SinkState) → Type 0
AddsTheChange words status source sink sink_after =
    ((c : CheckedGrammar) (t : Forest) (es : List Edit) → AreEditsAccepted source.left c t es
    → ExactlyOneList (meant c) t × ExactlyOneList (meant c) (edited_tree c t es)
    × ((values : List Value) (touched : List ℕ) → IsLaidOutAnew c t es values touched
    → Adds (edited_answer c t es values touched) status sink sink_after))
    × (((c : CheckedGrammar) (t : Forest) (es : List Edit) → AreEditsAccepted source.left c t es → ⊥)
    → (a : Answer) × IsRefusal a × IsAnswer words source.left a × Adds a status sink sink_after)

abbrev pub WritesTheChangeInMemory : Type 0
WritesTheChangeInMemory =
    (words : List (List ℕ)) (status : ℕ) (source source_after : SourceState) (sink sink_after : SinkState)
    (how : Solving)
    → KeepsPromises (in_memory words status source source_after sink sink_after)
    → HasNoFaultOrWant (in_memory words status source source_after sink sink_after)
    → command_of words ≡ Some (command.Edit how) → AddsTheChange words status source sink sink_after
