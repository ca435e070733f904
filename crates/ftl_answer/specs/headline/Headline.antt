-- What is promised of a call that writes the answer to its words and to the bytes that its source had left.
use Rattle.std.specs.Prelude.{◌≡◌, ◌≢◌, ℕ, ◌+◌, ◌<◌, ◌≤◌, ◌⊎◌, Bool, true, false, List, [], length, Option, None, Some, map, String, Ok, IfSome}
use Rattle.std.specs.Io.KnownBytes.{Appends}
use Rattle.std.specs.String.{string_bytes}
use Rattle.ftl_model.specs.layout.Limits.{most_page_bytes}
use Rattle.ftl_boxes.specs.SamplePage.{sample_page_of}
use Rattle.ftl_page.specs.commands.Commands.{command_of}
use Rattle.ftl_page.specs.declared.commands.command.Command.{Command}
use Rattle.ftl_page.specs.declared.commands.command.Command.TheVariants as command
use Rattle.ftl_deps.specs.reads.Meant.{meant}
use Rattle.ftl_edge.specs.Counts.{Rose, RoseBy, SourceCounts, raised, source_counts}
use Rattle.ftl_edge.specs.Sink.{AppendsFront}
use Rattle.ftl_meaning.specs.faults.Checked.{CheckedGrammar}
use Rattle.ftl_model.specs.layout.Tree.{Forest}
use Rattle.ftl_noncircular.specs.grammars.Noncircular.{IsNoncircular}
use Rattle.ftl_order.specs.orders.OneTable.{ExactlyOneList}
use Rattle.ftl_page.specs.declared.sections.page.Need.{Need}
use Rattle.ftl_page.specs.declared.sections.page.Page.{Page}
use Rattle.ftl_answer.specs.refusals.PageLines.{too_long_line}
use Rattle.ftl_edits.specs.declared.meaning.types.Edit.{Edit}
use Rattle.ftl_relayout.specs.relaid.Relaid.{edited_tree}
use Rattle.ftl_nest_check.specs.declared.stages.types.NestingSchedule.{NestingSchedule}
use Rattle.ftl_answer.specs.answers.Answer.{Answer, refused}
use Rattle.ftl_answer.specs.answers.Answers.{IsAnswer, document_text, edited_page, edits_text, unscheduled_page}
use Rattle.ftl_answer.specs.answers.Answers.{whole_page}
use Rattle.ftl_answer.specs.answers.Stages.{hands_on}
use Rattle.ftl_answer.specs.answers.Texts.{edits, grown_tree, grammar, page, schedule, tree}

-- the bytes of words
abbrev pub texts : {A : Type 0} → List (String A) → List (List ℕ)
texts words = map string_bytes words

-- ---- which words read a page

-- whether a command reads a page
abbrev pub reads_page : Command → Bool
reads_page (command.Run how) = true
reads_page command.Check = true
reads_page command.Schedule = true
reads_page command.Explain = true
reads_page command.Demand = true
reads_page (command.Edit how) = true
reads_page (command.Sample pieces name how) = false

-- words that are no command read none
abbrev pub may_read : Option Command → Bool
may_read None = false
may_read (Some c) = reads_page c

-- whether the words read a page
abbrev pub words_read : (words : List (List ℕ)) → Bool
words_read words = may_read (command_of words)

-- the bytes that are answered, where they are known: words that read no page have one answer, whatever the bytes are
abbrev pub bytes_answered : (reads : Bool) → (told : Option (List ℕ)) → Option (List ℕ)
bytes_answered true told = told
bytes_answered false told = Some []

-- ---- the answer

-- the bytes are those that are told, where any are
abbrev pub AreTold : (told : Option (List ℕ)) → (bytes : List ℕ) → Type 0
AreTold None bytes = Unit {0}
AreTold (Some known) bytes = bytes ≡ known

-- this holds of the bytes that are told; where none are, there are bytes of which it holds
abbrev pub OfTheBytes : (told : Option (List ℕ)) → (List ℕ → Type 0) → Type 0
OfTheBytes told P = (bytes : List ℕ) × AreTold told bytes × P bytes

-- there is an answer to the words and to the bytes, and this holds of the bytes and of it
abbrev pub OfTheAnswer : (words : List (List ℕ)) → (told : Option (List ℕ)) → (List ℕ → Answer → Type 0) → Type 0
OfTheAnswer words told P = OfTheBytes told (λ bytes. (a : Answer) × IsAnswer words bytes a × P bytes a)

-- a write fault, a read fault or want of memory
abbrev pub IsFaultOrWant : (status : ℕ) → Type 0
IsFaultOrWant s = (s ≡ 1) ⊎ ((s ≡ 3) ⊎ (s ≡ 9))

-- the status of an answer is none of these
pub record IsAnswered (status : ℕ) : Type 0 where
  pub no_write_fault : status ≢ 1
  pub no_read_fault : status ≢ 3
  pub no_want : status ≢ 9

-- How a call ends that has this answer, by its status, what was written before and after, what is left of the source,
-- and the source's counts before and after: the status is the answer's, or tells of trouble, and where no count of
-- faults rose, of no other trouble than want of memory. With the answer's status its whole text was appended, and with a
-- write fault a front of it. Unless the page is too long, a read failed or memory ran out, a source that is read, and
-- tells what it has left, is read to its end, and as many bytes were taken as are answered. Of a page that is longer than
-- one may be, all that one may have and one byte more were taken.
pub record MatchesAnswer (s : ℕ) (written after : Option (List ℕ)) (reads : Bool) (told left : Option (List ℕ))
    (old new : SourceCounts) (write_rose : Type 0) (bytes : List ℕ) (a : Answer) : Type 0 where
  pub status : (s ≡ a.status) ⊎ IsFaultOrWant s
  pub no_excuse : (write_rose → ⊥) → (Rose old.fault_count new.fault_count → ⊥) → (s ≡ a.status) ⊎ (s ≡ 9)
  pub text : s ≡ a.status → Appends written after a.text
  pub front : s ≡ 1 → AppendsFront written after a.text
  pub to_its_end : reads ≡ true → s ≢ 3 → s ≢ 9 → a ≢ refused 4 too_long_line → IfSome told (λ _. left ≡ Some [])
  pub counted : reads ≡ true → s ≢ 3 → s ≢ 9 → a ≢ refused 4 too_long_line → RoseBy (length bytes) old.taken new.taken
  pub over : reads ≡ true → s ≢ 3 → s ≢ 9 → most_page_bytes < length bytes → raised old.taken (most_page_bytes + 1) ≤ new.taken

-- ---- faults

-- A write fault comes only where the sink's count rose, and a read fault only where the source's did; with a read fault
-- or want of memory nothing was written.
pub record FaultsHaveCauses (s : ℕ) (written after : Option (List ℕ)) (write_rose read_rose : Type 0) : Type 0 where
  pub write : s ≡ 1 → write_rose
  pub read : s ≡ 3 → read_rose
  pub nothing : (s ≡ 3) ⊎ (s ≡ 9) → after ≡ written

-- ---- the source

-- Where the words read no page, the source was not called, and there is no read fault. At most one byte past the limit
-- was taken, in at most one call for each byte and one for the end.
pub record ReadsInput (s : ℕ) (reads : Bool) (told left : Option (List ℕ)) (old new : SourceCounts) : Type 0 where
  pub untouched : reads ≡ false → (left ≡ told) × (new ≡ old) × (s ≢ 3)
  pub at_most : new.taken ≤ old.taken + 67108865
  pub turns : new.calls ≤ old.calls + 67108866

-- ---- tables

-- of the page so much is accepted as is needed, with this grammar and the tree of its document
pub record IsAcceptedFor (need : Need) (bytes : List ℕ) (c : CheckedGrammar) (t : Forest) : Type 0 where
  pub sections : Page
  pub read : page need bytes (hands_on sections)
  pub lawful : grammar sections.width sections.grammar (hands_on c)
  pub order : NestingSchedule
  pub ordered : schedule c sections.schedule (hands_on order)
  pub spelled : tree c order (document_text sections) (hands_on t)

-- The page is accepted for evaluation by demand, with this grammar, which is noncircular, and the tree of its document.
-- Its schedule plays no part, and it need not have one.
pub record IsAcceptedForDemand (bytes : List ℕ) (c : CheckedGrammar) (t : Forest) : Type 0 where
  pub sections : Page
  pub read : page unscheduled_page bytes (hands_on sections)
  pub lawful : grammar sections.width sections.grammar (hands_on c)
  pub noncircular : IsNoncircular (meant c)
  pub spelled : grown_tree c (document_text sections) (hands_on t)

-- which grammars and trees a page is accepted with
abbrev pub Acceptance : Type 1
Acceptance = (bytes : List ℕ) → CheckedGrammar → Forest → Type 0

-- the page is accepted, with this grammar and the tree of its document
abbrev pub IsAccepted : Acceptance
IsAccepted = IsAcceptedFor whole_page

-- so it is where its edits are to be read; they may still be refused
abbrev pub IsAcceptedForEdits : Acceptance
IsAcceptedForEdits = IsAcceptedFor edited_page

-- the page is accepted, and its edits are
pub record AreEditsAccepted (bytes : List ℕ) (c : CheckedGrammar) (t : Forest) (es : List Edit) : Type 0 where
  pub accepted : IsAcceptedForEdits bytes c t
  pub read : edits c t (edits_text accepted.sections) (hands_on es)

-- exactly one list of values solves the tree of a page that is accepted so
abbrev pub HasOneTableWhere : Acceptance → (bytes : List ℕ) → Type 0
HasOneTableWhere accepted bytes = (c : CheckedGrammar) (t : Forest) → accepted bytes c t → ExactlyOneList (meant c) t

-- exactly one list of values solves the tree of a page that is accepted
abbrev pub HasOneTable : (bytes : List ℕ) → Type 0
HasOneTable = HasOneTableWhere IsAccepted

-- exactly one list of values solves the tree that accepted edits make of that of the page
abbrev pub HasOneChangedTable : (bytes : List ℕ) → Type 0
HasOneChangedTable bytes =
    (c : CheckedGrammar) (t : Forest) (es : List Edit) → AreEditsAccepted bytes c t es
    → ExactlyOneList (meant c) (edited_tree c t es)

-- the same of the page of a command: the one that is read, whatever it is where the source doesn't tell, or the sample
abbrev pub OneTableOf : Option Command → (told : Option (List ℕ)) → Type 0
OneTableOf (Some (command.Run how)) told = (bytes : List ℕ) → AreTold told bytes → HasOneTable bytes
OneTableOf (Some command.Check) told = (bytes : List ℕ) → AreTold told bytes → HasOneTable bytes
OneTableOf (Some command.Schedule) told = (bytes : List ℕ) → AreTold told bytes → HasOneTable bytes
OneTableOf (Some command.Explain) told = (bytes : List ℕ) → AreTold told bytes → HasOneTable bytes
OneTableOf (Some command.Demand) told =
    (bytes : List ℕ) → AreTold told bytes → HasOneTableWhere IsAcceptedForDemand bytes
OneTableOf (Some (command.Edit how)) told =
    (bytes : List ℕ) → AreTold told bytes → HasOneTableWhere IsAcceptedForEdits bytes × HasOneChangedTable bytes
OneTableOf (Some (command.Sample pieces name how)) told =
    (text : List ℕ) → sample_page_of name pieces ≡ Ok text → HasOneTable text
OneTableOf None told = Unit {0}

-- ---- a call, and the four things that are promised of it

-- What is seen of a call: its words, and the status that it ends with; what is left of the source, and the source's
-- counts, before and after; what was written to the sink, and how often the sink failed, before and after.
pub record Call : Type 0 where
  pub words : List (List ℕ)
  pub status : ℕ
  pub left_before : Option (List ℕ)
  pub left_after : Option (List ℕ)
  pub counts_before : SourceCounts
  pub counts_after : SourceCounts
  pub written_before : Option (List ℕ)
  pub written_after : Option (List ℕ)
  pub sink_faults_before : ℕ
  pub sink_faults_after : ℕ

-- the call with this source and this sink, before and after, by what is seen of them
abbrev pub call_of : {S K : Type 0} → (remaining : S → Option (List ℕ)) → (calls taken fault_count : S → ℕ)
    → (written : K → Option (List ℕ)) → (sink_faults : K → ℕ) → (words : List (List ℕ)) → (status : ℕ)
    → (source source_after : S) → (sink sink_after : K) → Call
call_of remaining calls taken fault_count written sink_faults words status source source_after sink sink_after = record {
  words = words;
  status = status;
  left_before = remaining source;
  left_after = remaining source_after;
  counts_before = source_counts (calls source) (taken source) (fault_count source);
  counts_after = source_counts (calls source_after) (taken source_after) (fault_count source_after);
  written_before = written sink;
  written_after = written sink_after;
  sink_faults_before = sink_faults sink;
  sink_faults_after = sink_faults sink_after;
}

-- the sink failed in the call
abbrev pub SinkFailed : Call → Type 0
SinkFailed k = Rose k.sink_faults_before k.sink_faults_after

-- the source failed in the call
abbrev pub SourceFailed : Call → Type 0
SourceFailed k = Rose k.counts_before.fault_count k.counts_after.fault_count

-- there is an answer, and of it the status, the text and how far was read are as they are said to be
abbrev pub GivesTheAnswer : Call → Type 0
GivesTheAnswer k =
    OfTheAnswer k.words (bytes_answered (words_read k.words) k.left_before)
    (MatchesAnswer k.status k.written_before k.written_after (words_read k.words) k.left_before k.left_after
    k.counts_before k.counts_after (SinkFailed k))

-- a fault has its cause
abbrev pub HasCauses : Call → Type 0
HasCauses k = FaultsHaveCauses k.status k.written_before k.written_after (SinkFailed k) (SourceFailed k)

-- exactly one table solves the tree of the page, or of the sample
abbrev pub HasTheTable : Call → Type 0
HasTheTable k = OneTableOf (command_of k.words) k.left_before

-- the source was read as far as it may be
abbrev pub ReadsSoFar : Call → Type 0
ReadsSoFar k =
    ReadsInput k.status (words_read k.words) k.left_before k.left_after k.counts_before k.counts_after
