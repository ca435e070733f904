-- What the schedule of a page comes to where it is explained.
use Rattle.std.specs.Prelude.{◌≡◌, ◌≢◌, ℕ, Some}
use Rattle.ftl_deps.specs.reads.Meant.{meant}
use Rattle.ftl_meaning.specs.faults.Checked.{CheckedGrammar}
use Rattle.ftl_nest_check.specs.check.NestFault.{first_nest_fault}
use Rattle.ftl_nest_check.specs.declared.stages.types.NestingSchedule.{NestingSchedule}
use Rattle.ftl_nest_check.specs.stages.Nested.{nests_of}
use Rattle.ftl_order.specs.declared.faults.fault.VerifyFault.{VerifyFault}
use Rattle.ftl_order.specs.declared.faults.fault.VerifyFault.TheVariants.{OutOfMemory, Unordered}
use Rattle.ftl_page.specs.declared.sections.page.Page.{Page}
use Rattle.ftl_tokens.specs.scanner.Tokenized.{Tokenized}
use Rattle.ftl_answer.specs.answers.Answers.{explained, explained_schedule}
use Rattle.ftl_answer.specs.answers.Stages.{Stage, Then, hands_on}
use Rattle.ftl_answer.specs.answers.Texts.{grammar, spelled_schedule}

-- the rules of a page
abbrev pub rules_explained : Page → Stage ⊥
rules_explained p = Then (grammar p.width p.grammar) (λ c. explained c p.schedule)

-- the schedule that the tokens spell
abbrev pub spelled_explained : CheckedGrammar → Tokenized → Stage ⊥
spelled_explained c scanned = Then (spelled_schedule c scanned) (explained_schedule c)

-- the first fault of the schedule is a pair
abbrev pub HasFaultPair : CheckedGrammar → NestingSchedule → Type 0
HasFaultPair c s =
    (reader writer : ℕ) × (first_nest_fault (meant c) (nests_of s) ≡ Some (Unordered reader writer))

-- the tokens spell a schedule whose first fault is a pair
abbrev pub SpellsFaultPair : CheckedGrammar → Tokenized → Type 0
SpellsFaultPair c scanned = (s : NestingSchedule) × spelled_schedule c scanned (hands_on s) × HasFaultPair c s

-- they spell one whose first fault is this, unless it is want of memory
abbrev pub SpellsFault : CheckedGrammar → Tokenized → VerifyFault → Type 0
SpellsFault c scanned fault =
    (s : NestingSchedule) × spelled_schedule c scanned (hands_on s)
    × (fault ≢ OutOfMemory → first_nest_fault (meant c) (nests_of s) ≡ Some fault)
