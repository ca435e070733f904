-- Texts read into a context, and pages freed.
use Rattle.std.specs.Prelude.{◌≡◌, ℕ, Bool, List, [], ◌∷◌, ◌++◌, length, Option, Some, None, MatchOption}
use Rattle.std.specs.Prelude.{Result, Ok, Err, slice_get, if◌then◌else◌, nat_eq}
use Rattle.ftl_base.specs.declared.width.Width.{Width}
use Rattle.ftl_base.specs.declared.width.Width.TheVariants.{Narrow, Wide}
use Rattle.ftl_meaning.specs.faults.Checked.{CheckedGrammar}
use Rattle.ftl_model.specs.layout.Tree.{Forest}
use Rattle.ftl_nest_check.specs.check.NestAccepted.{AcceptedNestingSchedule}
use Rattle.ftl_nest_check.specs.declared.stages.types.NestingSchedule.{NestingSchedule}
use Rattle.ftl_answer.specs.answers.Answer.{answer}
use Rattle.ftl_answer.specs.answers.Stages.{Stage, ends, hands_on}
use Rattle.maugzeris.specs.pages.PageState.{page_read}
use Rattle.maugzeris.specs.declared.refusals.refusal.Refusal.{Refusal}
use Rattle.maugzeris.specs.declared.refusals.refusal.Refusal.TheVariants as refusal
use Rattle.maugzeris_c.specs.context.State.{ContextState, DoesNothing, FreesPage, KeepsLine, page_of}
use Rattle.maugzeris_c.specs.context.Texts.{grammar_bytes, schedule_bytes, document_bytes}
use Rattle.maugzeris_c.specs.declared.context.fault.Fault.{Fault}
use Rattle.maugzeris_c.specs.declared.context.fault.Fault.TheVariants.{Refused, OutOfMemory, Wrong}

-- What the call comes to whose text is read by this stage, and that adds what is read and tells its number: it is done;
-- or the text is refused, and its line kept; or memory ran out, and nothing is done.
abbrev pub Reads : {X : Type 0} → Stage X → (Adds : ℕ → X → Type 0) → (old new : ContextState) → Result ℕ Fault → Type 0
Reads stage Adds old new (Ok number) = (x : _) × stage (hands_on x) × Adds number x
Reads stage Adds old new (Err (Refused status)) =
    (line : List ℕ) × stage (ends (answer status.0 line)) × KeepsLine old new line
Reads stage Adds old new (Err OutOfMemory) = DoesNothing old new
Reads stage Adds old new (Err _) = ⊥

-- the refusal is the call's, and its line is kept; where memory ran out there is none
abbrev pub Refuses : (old new : ContextState) → Refusal → Fault → Type 0
Refuses old new (refusal.Refused status line) fault = (fault ≡ Refused status) × KeepsLine old new line.items
Refuses old new refusal.OutOfMemory fault = (fault ≡ OutOfMemory) × DoesNothing old new

-- nothing has the number that was given, and nothing is done
abbrev pub FindsNone : {X : Type 0} → (old new : ContextState) → Result X Fault → Type 0
FindsNone old new done = (done ≡ Err Wrong) × DoesNothing old new

-- ---- grammars

-- the width of a number
abbrev pub width_of : ℕ → Option Width
width_of width = if nat_eq width 0 then Some Narrow else (if nat_eq width 1 then Some Wide else None)

-- the grammar is the last one now, and this is its number
abbrev pub AddsGrammar : (old new : ContextState) → ℕ → CheckedGrammar → Type 0
AddsGrammar old new number c =
    (number ≡ length old.grammars) × (new ≡ record old { grammars = old.grammars ++ c ∷ [] })

-- a grammar is read
abbrev pub OpensGrammar : (old new : ContextState) → (bytes : List ℕ) → (width : ℕ) → Result ℕ Fault → Type 0
OpensGrammar old new bytes width done =
    MatchOption (width_of width) (FindsNone old new done)
    (λ w. Reads (grammar_bytes w bytes) (AddsGrammar old new) old new done)

-- ---- rules

-- the grammar with a schedule
abbrev pub rules_of : CheckedGrammar → NestingSchedule → AcceptedNestingSchedule
rules_of c s = record { checked = c; schedule = s }

-- the rules are the last ones now, and this is their number
abbrev pub AddsRules : (old new : ContextState) → CheckedGrammar → ℕ → NestingSchedule → Type 0
AddsRules old new c number s =
    (number ≡ length old.rules) × (new ≡ record old { rules = old.rules ++ rules_of c s ∷ [] })

-- the text of a schedule, or none where an automatic one is asked for
abbrev pub written : (automatic : Bool) → (bytes : List ℕ) → Option (List ℕ)
written automatic bytes = if automatic then None else Some bytes

-- a schedule of a grammar is read or found
abbrev pub OpensRules : (old new : ContextState) → (grammar : ℕ) → (bytes : Option (List ℕ)) → Result ℕ Fault → Type 0
OpensRules old new grammar bytes done =
    MatchOption (slice_get old.grammars grammar) (FindsNone old new done)
    (λ c. Reads (schedule_bytes c bytes) (AddsRules old new c) old new done)

-- ---- pages

-- the page of a tree is the last one now, not laid out yet, and this is its number
abbrev pub AddsPage : (old new : ContextState) → AcceptedNestingSchedule → ℕ → Forest → Type 0
AddsPage old new r number t =
    (number ≡ length old.pages)
    × (new ≡ record old { pages = old.pages ++ Some (record { page = page_read r t; touched = [] }) ∷ [] })

-- a document is read
abbrev pub OpensPage : (old new : ContextState) → (rules : ℕ) → (bytes : List ℕ) → Result ℕ Fault → Type 0
OpensPage old new rules bytes done =
    MatchOption (slice_get old.rules rules) (FindsNone old new done)
    (λ r. Reads (document_bytes r bytes) (AddsPage old new r) old new done)

-- a page is freed
abbrev pub ClosesPage : (old new : ContextState) → (page : ℕ) → Result (Unit {0}) Fault → Type 0
ClosesPage old new page done =
    MatchOption (page_of old page) (FindsNone old new done) (λ _. (done ≡ Ok tt) × FreesPage old new page)
