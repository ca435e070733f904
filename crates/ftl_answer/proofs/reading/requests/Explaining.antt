-- How a page is answered whose schedule is explained.
use Rattle.std.proofs.Common.{◌≡◌, ◌≢◌, ◌≤◌, ap, inl, inr, refl, subst, sym, ℕ, List, Option, Some, None, Result, Ok, Err, IfOk}
use Rattle.ftl_deps.specs.reads.Meant.{meant}
use Rattle.ftl_example.specs.shows.Examples.{AllAreLarger, NoneShows}
use Rattle.ftl_meaning.specs.faults.Checked.{CheckedGrammar}
use Rattle.ftl_model.specs.layout.Tree.{Forest, size}
use Rattle.ftl_order.specs.declared.faults.fault.VerifyFault.{VerifyFault}
use Rattle.ftl_order.specs.declared.faults.fault.VerifyFault.TheVariants as verify
use Rattle.ftl_order.specs.orders.Pairs.{Pair}
use Rattle.ftl_nest_check.specs.check.NestFault.{first_nest_fault}
use Rattle.ftl_nest_check.specs.declared.stages.types.NestingSchedule.{NestingSchedule}
use Rattle.ftl_nest_check.specs.places.NestPlaced.{verdict_on}
use Rattle.ftl_nest_check.specs.stages.Nested.{nests_of}
use Rattle.ftl_example.specs.nests.examples.NestExamples.{IsNumberedNestExample}
use Rattle.ftl_example.specs.nests.pairs.NestPair.{IsNestFaultPair}
use Rattle.ftl_nest_text.proofs.reading.NestAnswerLemmas.{one_schedule}
use Rattle.ftl_nest_text.specs.reading.NestReading.{NestAnswers}
use Rattle.ftl_nests.specs.Nests as nests
use Rattle.ftl_schedule.specs.declared.names.fault.ScheduleFault.{ScheduleFault}
use Rattle.ftl_schedule.specs.declared.names.fault.ScheduleFault.TheVariants as schedules
use Rattle.ftl_tokens.specs.scanner.Tokenized.{Tokenized}
use Rattle.ftl_answer.specs.answers.Answer.{Answer, answer, refused}
use Rattle.ftl_answer.specs.answers.Answers.{accepted_answer, explained_by, explained_schedule, fault_refused}
use Rattle.ftl_answer.specs.answers.Explanations.{IsExplanation, example_text, larger_trees_text, no_tree_text}
use Rattle.ftl_answer.specs.answers.Stages.{Is, Outcome, Stage, Then, ends, hands_on}
use Rattle.ftl_answer.specs.answers.Texts.{spelled_schedule}
use Rattle.ftl_answer.specs.explanations.Rows.{IsExampleOf}
use Rattle.ftl_answer.specs.refusals.ScheduleLines.{schedule_line}
use Rattle.ftl_tree.specs.trees.CheckedTree.{CheckedTree}
use Rattle.ftl_answer.specs.reading.requests.Explained.{HasFaultPair, SpellsFault, SpellsFaultPair, spelled_explained}
use Rattle.ftl_answer.specs.reading.requests.RulesAnswers.{EndsIn}
use Rattle.ftl_answer.specs.reading.sections.Outcomes.{Ends, answer_of}
use Rattle.ftl_answer.specs.reading.sections.RefusalOf.{IsRefusalOf}
use Rattle.ftl_answer.proofs.reading.requests.ReadBytes.{if_ok}
use Rattle.ftl_answer.specs.declared.reading.sections.decision.Decided.{Decided}
use Rattle.ftl_answer.specs.declared.reading.sections.decision.Undecided.{Undecided}
use Rattle.ftl_answer.specs.declared.reading.sections.decision.Undecided.TheVariants.{OutOfMemory, Refused}

-- the failure, as a result of this type
abbrev failed : (X : Type 0) → Undecided → Result X Undecided
failed X u = Err u

-- the end, at an outcome of this type
abbrev ended : (X : Type 0) → Answer → Outcome X
ended X a = ends a

-- ---- ends

-- where the first of two stages hands on a schedule that is accepted
pub accepted_ends : (first : Stage NestingSchedule) (s : NestingSchedule) (d : Decided) → first (hands_on s)
    → answer_of d ≡ accepted_answer → Then {Y = ⊥} first (λ s. Is (ends accepted_answer)) (ends (answer_of d))
accepted_ends first s d found is = inr (s, found, ap (ended ⊥) is)

-- where the first may end with the refusal of a fault, a call may
pub refused_first : {X E : Type 0} (first : Stage X) (second : X → Stage ⊥) (memory : E) (tell : E → Answer) (fault : E)
    (u : Undecided) → IsRefusalOf memory tell fault u → (fault ≢ memory → first (ends (tell fault)))
    → EndsIn (Then first second) (Err u)
refused_first {X = X} first second memory tell fault (Refused d) is may =
    inl (answer_of d, subst (λ (b : Answer). first (ended X b)) (sym is.1) (may is.0), refl)
refused_first first second memory tell fault OutOfMemory is may = tt

-- a schedule that was not read is refused
pub unread_ends : (c : CheckedGrammar) (scanned : Tokenized) (fault : ScheduleFault) (u : Undecided)
    → NestAnswers c scanned (Err fault) → IsRefusalOf schedules.OutOfMemory (λ f. refused 6 (schedule_line f)) fault u
    → EndsIn (spelled_explained c scanned) (Err u)
unread_ends c scanned fault u answers is =
    refused_first (spelled_schedule c scanned) (explained_schedule c) schedules.OutOfMemory
    (λ f. refused 6 (schedule_line f)) fault u is (λ other. (fault, other, answers, refl))

-- ---- first faults

-- what a schedule without a fault comes to
pub accepted_by : (c : CheckedGrammar) (s t : NestingSchedule) (o : Option VerifyFault) (d : Decided)
    → verdict_on o s ≡ Ok t → answer_of d ≡ accepted_answer → explained_by c s o (ends (answer_of d))
accepted_by c s t None d e is = ap (ended ⊥) is
accepted_by c s t (Some fault) d e is = absurd cc

-- so is one that was spelled and verified
pub accepted_schedule : (c : CheckedGrammar) (scanned : Tokenized) (s t : NestingSchedule) (d : Decided)
    → spelled_schedule c scanned (hands_on s) → verdict_on (first_nest_fault (meant c) (nests_of s)) s ≡ Ok t
    → answer_of d ≡ accepted_answer → spelled_explained c scanned (ends (answer_of d))
accepted_schedule c scanned s t d p e is =
    inr (s, p, accepted_by c s t (first_nest_fault (meant c) (nests_of s)) d e is)

-- the fault that was told is the first
pub fault_is : (o : Option VerifyFault) (s : NestingSchedule) (fault : VerifyFault) → verdict_on o s ≡ Err fault
    → o ≡ Some fault
fault_is None s fault e = absurd cc
fault_is (Some other) s fault e = cc

-- it is no pair
abbrev pub IsNoPair : VerifyFault → Type 0
IsNoPair fault = (reader writer : ℕ) → fault ≡ verify.Unordered reader writer → ⊥

-- so it is refused
refused_by : (c : CheckedGrammar) (s : NestingSchedule) (fault : VerifyFault) → IsNoPair fault
    → explained_by c s (Some fault) (ends (fault_refused c fault))
refused_by c s (verify.Unordered reader writer) none = absurd (none reader writer refl)
refused_by c s (verify.Twice a) none = refl
refused_by c s (verify.Missing a) none = refl
refused_by c s verify.OutOfMemory none = refl

-- a fault that is no pair is refused
pub refused_ends : (c : CheckedGrammar) (scanned : Tokenized) (fault : VerifyFault) (u : Undecided) → IsNoPair fault
    → fault ≢ verify.OutOfMemory → SpellsFault c scanned fault → Ends (fault_refused c fault) u
    → EndsIn (spelled_explained c scanned) (Err u)
refused_ends c scanned fault (Refused d) none other (s, p, known) is =
    inr (
      s,
      p,
      subst (λ f. explained_by c s f (ends (answer_of d))) (sym (known other))
          (subst (λ (b : Answer). explained_by c s (Some fault) (ends b)) (sym is) (refused_by c s fault none)),
    )
refused_ends c scanned fault OutOfMemory none other spells is = tt

-- so one is of an attribute that stands twice
pub twice_ends : (c : CheckedGrammar) (scanned : Tokenized) (fault : VerifyFault) (u : Undecided) (a : ℕ)
    → fault ≡ verify.Twice a → SpellsFault c scanned fault → Ends (fault_refused c fault) u
    → EndsIn (spelled_explained c scanned) (Err u)
twice_ends c scanned fault u a is spells told =
    refused_ends c scanned fault u (λ reader writer e. absurd cc) (λ e. absurd cc) spells told

-- and one of an attribute that is missing
pub missing_ends : (c : CheckedGrammar) (scanned : Tokenized) (fault : VerifyFault) (u : Undecided) (a : ℕ)
    → fault ≡ verify.Missing a → SpellsFault c scanned fault → Ends (fault_refused c fault) u
    → EndsIn (spelled_explained c scanned) (Err u)
missing_ends c scanned fault u a is spells told =
    refused_ends c scanned fault u (λ reader writer e. absurd cc) (λ e. absurd cc) spells told

-- what was verified has this fault
pub spells_fault : (c : CheckedGrammar) (scanned : Tokenized) (s : NestingSchedule) (fault : VerifyFault)
    → spelled_schedule c scanned (hands_on s)
    → (fault ≢ verify.OutOfMemory → verdict_on (first_nest_fault (meant c) (nests_of s)) s ≡ Err fault)
    → SpellsFault c scanned fault
spells_fault c scanned s fault p exact =
    (s, p, λ other. fault_is (first_nest_fault (meant c) (nests_of s)) s fault (exact other))

-- where it is a pair
spells_pair : (c : CheckedGrammar) (scanned : Tokenized) (reader writer : ℕ)
    → SpellsFault c scanned (verify.Unordered reader writer) → SpellsFaultPair c scanned
spells_pair c scanned reader writer (s, p, known) = (s, p, (reader, writer, known (λ e. absurd cc)))

pub fault_pair : (c : CheckedGrammar) (scanned : Tokenized) (fault : VerifyFault) (reader writer : ℕ)
    → fault ≡ verify.Unordered reader writer → SpellsFault c scanned fault → SpellsFaultPair c scanned
fault_pair c scanned fault reader writer is spells =
    spells_pair c scanned reader writer (subst (SpellsFault c scanned) is spells)

-- a pair is explained
pub pair_ends : (c : CheckedGrammar) (s : NestingSchedule) (text : List ℕ) → HasFaultPair c s → IsExplanation c s text
    → explained_schedule c s (ends (answer 0 text))
pair_ends c s text (reader, writer, e) explains =
    subst (λ f. explained_by c s f (ends (answer 0 text))) (sym e) (text, explains, refl)

-- ---- the schedule that is read again

-- it is the same
pub same_read : (c : CheckedGrammar) (scanned : Tokenized) (s t : NestingSchedule)
    → spelled_schedule c scanned (hands_on s) → spelled_schedule c scanned (hands_on t) → s ≡ t
same_read c scanned s t p q =
    let same : Ok s ≡ Ok t = one_schedule c scanned (Ok s) (Ok t) (λ e. absurd cc) (λ e. absurd cc) p q in cc

pub pair_again : (c : CheckedGrammar) (scanned : Tokenized) (t : NestingSchedule) → SpellsFaultPair c scanned
    → spelled_schedule c scanned (hands_on t) → HasFaultPair c t
pair_again c scanned t (s, p, pair) q = subst (HasFaultPair c) (same_read c scanned s t p q) pair

-- ---- texts that explain

-- no tree shows the pair
pub none_explains : {V E : Type 0} (c : CheckedGrammar) (s : NestingSchedule) (items : V → List ℕ) (r : Result V E)
    → ((pair : Pair) × IsNestFaultPair (meant c) (nests_of s) pair × NoneShows (meant c) pair)
    → IfOk r (λ v. items v ≡ no_tree_text) → IfOk r (λ v. IsExplanation c s (items v))
none_explains c s items r (pair, is, none) told = if_ok r (λ v same. (pair, is, inl (none, same))) told

-- each that does is larger than an example may be
pub larger_explains : {V E : Type 0} (c : CheckedGrammar) (s : NestingSchedule) (items : V → List ℕ) (r : Result V E)
    → ((pair : Pair) × IsNestFaultPair (meant c) (nests_of s) pair × AllAreLarger (meant c) pair 512)
    → IfOk r (λ v. items v ≡ larger_trees_text) → IfOk r (λ v. IsExplanation c s (items v))
larger_explains c s items r (pair, is, larger) told = if_ok r (λ v same. (pair, is, inr (inl (larger, same)))) told

-- the tree with these numbers is an example of the pair of the schedule's first fault
abbrev pub IsFaultExample : CheckedGrammar → NestingSchedule → Forest → (reader writer : ℕ) → (order : List ℕ) → Type 0
IsFaultExample c s t reader writer order =
    (pair : Pair) × IsNestFaultPair (meant c) (nests_of s) pair
    × IsNumberedNestExample (meant c) (nests_of s) pair t reader writer order

-- the tree has its grammar
pub own_example : (c : CheckedGrammar) (s : NestingSchedule) (t : CheckedTree) (reader writer : ℕ) (order : List ℕ)
    → t.checked ≡ c → IsFaultExample c s t.tree reader writer order
    → IsFaultExample t.checked s t.tree reader writer order
own_example c s t reader writer order same shown =
    subst (λ k. IsFaultExample k s t.tree reader writer order) (sym same) shown

-- it can be printed
printable : (s : NestingSchedule) (t : CheckedTree) (reader writer : ℕ) (order : List ℕ)
    → IsFaultExample t.checked s t.tree reader writer order
    → (p : nests.NestingSchedule) × (pair : Pair) × IsExampleOf p pair t reader writer order
printable s t reader writer order (pair, is, e) = (nests_of s, pair, e)

pub is_printable : (c : CheckedGrammar) (s : NestingSchedule) (t : CheckedTree) (reader writer : ℕ)
    (order told : List ℕ) → t.checked ≡ c → told ≡ order → IsFaultExample c s t.tree reader writer order
    → (p : nests.NestingSchedule) × (pair : Pair) × IsExampleOf p pair t reader writer told
is_printable c s t reader writer order told same is shown =
    printable s t reader writer told
    (own_example c s t reader writer told same
    (subst (λ (l : List ℕ). IsFaultExample c s t.tree reader writer l) (sym is) shown))

-- what is printed of it, of whichever schedule and pair it is an example
abbrev pub TextOfExample : {V E : Type 0} → (V → List ℕ) → CheckedTree → (reader writer : ℕ) → (order : List ℕ)
    → Result V E → Type 0
TextOfExample items t reader writer order r =
    (p : nests.NestingSchedule) (pair : Pair) → (e : IsExampleOf p pair t reader writer order)
    → IfOk r (λ v. items v ≡ example_text t.checked.grammar t.tree e.reading e.written e.steps)

own_explains : {V E : Type 0} (s : NestingSchedule) (items : V → List ℕ) (t : CheckedTree) (reader writer : ℕ)
    (order : List ℕ) (r : Result V E) → size t.tree ≤ 512 → IsFaultExample t.checked s t.tree reader writer order
    → TextOfExample items t reader writer order r → IfOk r (λ v. IsExplanation t.checked s (items v))
own_explains s items t reader writer order r few (pair, is, e) text =
    if_ok r (λ v same. (pair, is, inr (inr (t.tree, reader, writer, order, e, few, same)))) (text (nests_of s) pair e)

-- it explains the pair
pub example_explains : {V E : Type 0} (c : CheckedGrammar) (s : NestingSchedule) (items : V → List ℕ) (t : CheckedTree)
    (reader writer : ℕ) (order told : List ℕ) (r : Result V E) → t.checked ≡ c → told ≡ order → size t.tree ≤ 512
    → IsFaultExample c s t.tree reader writer order → TextOfExample items t reader writer told r
    → IfOk r (λ v. IsExplanation c s (items v))
example_explains c s items t reader writer order told r same is few shown text =
    subst (λ k. IfOk r (λ v. IsExplanation k s (items v))) same
    (own_explains s items t reader writer told r few
    (own_example c s t reader writer told same
    (subst (λ (l : List ℕ). IsFaultExample c s t.tree reader writer l) (sym is) shown))
    text)
