-- How a call that reads a text follows what the text comes to.
use Rattle.std.proofs.Common.{◌≡◌, ◌++◌, ◌∷◌, [], ℕ, Bool, false, inl, inr, refl, sym, subst, length, List, Option, Some, Result, Ok, Err}
use Rattle.std.proofs.Common.{IfErr, IfOk, OnErr}
use Rattle.std.specs.Option.{MatchOption}
use Rattle.std.specs.List.{slice_get}
use Rattle.ftl_base.specs.declared.width.Width.{Width}
use Rattle.ftl_answer.specs.answers.Answer.{answer}
use Rattle.ftl_answer.specs.answers.Stages.{Stage, Then, hands_on}
use Rattle.ftl_meaning.specs.faults.Checked.{CheckedGrammar}
use Rattle.ftl_nest_check.specs.check.NestAccepted.{AcceptedNestingSchedule}
use Rattle.ftl_nest_check.specs.declared.stages.types.NestingSchedule.{NestingSchedule}
use Rattle.ftl_model.specs.layout.Tree.{Forest}
use Rattle.maugzeris.specs.declared.refusals.refusal.Refusal.{Refusal}
use Rattle.maugzeris.specs.declared.refusals.refusal.Refusal.TheVariants.{Refused, OutOfMemory}
use Rattle.maugzeris.specs.pages.PageState.{PageState, page_read}
use Rattle.maugzeris.specs.refusals.Answers.{Answers}
use Rattle.maugzeris.specs.rules.RuleTexts.{schedule_text}
use Rattle.maugzeris_c.specs.context.Opening.{AddsGrammar, AddsPage, FindsNone, OpensGrammar, OpensPage, Reads, Refuses}
use Rattle.maugzeris_c.specs.context.Opening.{width_of, written}
use Rattle.maugzeris_c.specs.context.State.{ContextState}
use Rattle.maugzeris_c.specs.context.Texts.{document_bytes, grammar_bytes, schedule_bytes, utf8_text}
use Rattle.maugzeris_c.specs.declared.context.fault.Fault.{Fault}
use Rattle.maugzeris_c.specs.declared.context.fault.Fault.TheVariants as fault

-- the failures, as results of these types
abbrev pub refused : (X : Type 0) → Refusal → Result X Refusal
refused X r = Err r

abbrev pub failed : Fault → Result ℕ Fault
failed f = Err f

-- bytes that are a text come to what the text comes to
pub text_then : {Y Z : Type 0} (bytes text : List ℕ) (second : List ℕ → Stage Y) (view : Z → Y) (r : Result Z Refusal)
    → utf8_text bytes (hands_on text) → Answers (second text) view r → Answers (Then (utf8_text bytes) second) view r
text_then bytes text second view (Ok z) is goes = inr (text, is, goes)
text_then bytes text second view (Err (Refused status line)) is goes = inr (text, is, goes)
text_then bytes text second view (Err OutOfMemory) is goes = tt

-- the same of a schedule that is written
pub schedule_then : {Z : Type 0} (c : CheckedGrammar) (automatic : Bool) (bytes text : List ℕ)
    (view : Z → NestingSchedule) (r : Result Z Refusal) → automatic ≡ false → utf8_text bytes (hands_on text)
    → Answers (schedule_text c (Some text)) view r → Answers (schedule_bytes c (written automatic bytes)) view r
schedule_then c automatic bytes text view r by_hand is goes =
    subst (λ (b : Bool). Answers (schedule_bytes c (written b bytes)) view r) (sym by_hand)
    (text_then bytes text (λ t. schedule_text c (Some t)) view r is goes)

-- a text was refused, and the refusal kept
pub is_refused : {X Y : Type 0} (stage : Stage Y) (view : X → Y) (Adds : ℕ → Y → Type 0) (old new : ContextState)
    (r : Refusal) (f : Fault) → Answers stage view (refused X r) → Refuses old new r f
    → Reads stage Adds old new (failed f)
is_refused stage view Adds old new (Refused status line) f may keeps =
    subst (λ (x : Fault). Reads stage Adds old new (failed x)) (sym keeps.0) (line.items, may, keeps.1)
is_refused stage view Adds old new OutOfMemory f may keeps =
    subst (λ (x : Fault). Reads stage Adds old new (failed x)) (sym keeps.0) keeps.1

-- the text of a grammar was refused
pub grammar_refused : (old new : ContextState) (bytes : List ℕ) (width : ℕ) (w : Width) (r : Refusal) (f : Fault)
    → width_of width ≡ Some w → Answers (grammar_bytes w bytes) (λ g. g) (refused CheckedGrammar r) → Refuses old new r f
    → OpensGrammar old new bytes width (failed f)
grammar_refused old new bytes width w r f is may keeps =
    subst
    (λ (o : Option Width).
    MatchOption o (FindsNone old new (failed f))
    (λ x. Reads (grammar_bytes x bytes) (AddsGrammar old new) old new (failed f)))
    (sym is)
    (is_refused (grammar_bytes w bytes) (λ (g : CheckedGrammar). g) (AddsGrammar old new) old new r f may keeps)

-- the text of a document was refused
pub document_refused : {X : Type 0} (view : X → Forest) (old new : ContextState) (rules : ℕ) (bytes : List ℕ)
    (a : AcceptedNestingSchedule) (r : Refusal) (f : Fault) → slice_get old.rules rules ≡ Some a
    → Answers (document_bytes a bytes) view (refused X r) → Refuses old new r f → OpensPage old new rules bytes (failed f)
document_refused view old new rules bytes a r f is may keeps =
    subst
    (λ (o : Option AcceptedNestingSchedule).
    MatchOption o (FindsNone old new (failed f))
    (λ x. Reads (document_bytes x bytes) (AddsPage old new x) old new (failed f)))
    (sym is)
    (is_refused (document_bytes a bytes) view (AddsPage old new a) old new r f may keeps)

-- a number, as the result of such a call
abbrev pub told : ℕ → Result ℕ Fault
told n = Ok n

-- the state with one more page
abbrev pub with_page : ContextState → PageState → ContextState
with_page c p = record c { pages = c.pages ++ Some (record { page = p; touched = [] }) ∷ [] }

-- the page of a document was added, or no memory was left for that
pub document_read : (old new : ContextState) (rules : ℕ) (bytes : List ℕ) (a : AcceptedNestingSchedule) (page : PageState)
    (done : Result ℕ Fault) → slice_get old.rules rules ≡ Some a → document_bytes a bytes (hands_on page.tree)
    → page ≡ page_read a page.tree → IfOk done (λ n. n ≡ length old.pages) → IfOk done (λ _. new ≡ with_page old page)
    → IfErr done (λ e. e ≡ fault.OutOfMemory) → OnErr done (new ≡ old) → OpensPage old new rules bytes done
document_read old new rules bytes a page (Ok number) is comes read count added memory stays =
    subst
    (λ (o : Option AcceptedNestingSchedule).
    MatchOption o (FindsNone old new (told number))
    (λ x. Reads (document_bytes x bytes) (AddsPage old new x) old new (told number)))
    (sym is)
    (page.tree, comes, (count, subst (λ (p : PageState). new ≡ with_page old p) read added))
document_read old new rules bytes a page (Err e) is comes read count added memory stays =
    subst
    (λ (o : Option AcceptedNestingSchedule).
    MatchOption o (FindsNone old new (failed e))
    (λ x. Reads (document_bytes x bytes) (AddsPage old new x) old new (failed e)))
    (sym is)
    (subst (λ (x : Fault). Reads (document_bytes a bytes) (AddsPage old new a) old new (failed x)) (sym memory) stays)
