-- Canonical texts come to what the texts came to of which they were made.
use Rattle.std.proofs.Common.{◌≡◌, ◌≢◌, ℕ, List, Option, Some, None, Result, Ok, Err, inl, inr, refl, sym, ◌∙◌, ap, subst}
use Rattle.std.specs.Str.{IsUtf8}
use Rattle.ftl_answer.specs.answers.Answer.{Answer, refused}
use Rattle.ftl_answer.specs.answers.Stages.{Outcome, Then, ends, hands_on, unless}
use Rattle.ftl_answer.specs.answers.Texts.{grown_tree, ordered_schedule, scanned_as, schedule, spelled_schedule, status_of}
use Rattle.ftl_answer.specs.answers.Texts.{tokenized, tokens, wide}
use Rattle.ftl_answer.specs.refusals.ScheduleLines.{verify_line}
use Rattle.ftl_base.specs.Widths.{greatest_of_width}
use Rattle.ftl_deps.specs.reads.Meant.{meant}
use Rattle.ftl_document.specs.reading.ReadTree.{IsTreeRead}
use Rattle.ftl_document_printing.specs.round_trip.ReadBack.{IsReadBack}
use Rattle.ftl_meaning.specs.faults.Checked.{CheckedGrammar}
use Rattle.ftl_model.specs.layout.Tree.{Forest}
use Rattle.ftl_grammar.specs.reading.Printed.{IsScanned}
use Rattle.ftl_nest_check.specs.check.NestFault.{first_nest_fault}
use Rattle.ftl_nest_check.specs.declared.stages.types.NestingSchedule.{NestingSchedule}
use Rattle.ftl_nest_check.specs.stages.Nested.{nests_of}
use Rattle.ftl_nest_text.specs.printing.NestReadBack.{ReadNestsAreReadBack}
use Rattle.ftl_nest_text.specs.printing.NestWritten.{nest_written_of}
use Rattle.ftl_nest_text.specs.reading.NestReading.{NestAnswers}
use Rattle.ftl_nest_text.specs.text.NestText.{nesting_schedule_text}
use Rattle.ftl_page.specs.declared.sections.fault.Section.{Section}
use Rattle.ftl_page.specs.declared.sections.fault.Section.TheVariants as section
use Rattle.ftl_tokens.specs.declared.scanner.fault.TokenFault.{TokenFault}
use Rattle.ftl_tokens.specs.declared.scanner.kind.Token.{Token}
use Rattle.ftl_tokens.specs.scanner.Scan.{scan}
use Rattle.ftl_tokens.specs.scanner.Tokenized.{Tokenized, WideTokenized}
use Rattle.ftl_tree.specs.trees.CheckedTree.{CheckedTree}

-- the tokens that a text was scanned to
record Scanned (text : List ℕ) (result : Result (List Token) TokenFault) (scanned : Tokenized) : Type 0 where
  pub tokens : List Token
  pub found : result ≡ Ok tokens
  pub is : scanned ≡ tokenized text tokens

scanned_to : (which : Section) (text : List ℕ) (result : Result (List Token) TokenFault) (scanned : Tokenized)
    → hands_on scanned ≡ scanned_as which text result → Scanned text result scanned
scanned_to which text (Ok ts) scanned e =
    record { tokens = ts; found = refl; is = let z : scanned ≡ tokenized text ts = cc in z }
scanned_to which text (Err fault) scanned e = absurd (let z : ⊥ = cc in z)

-- what is handed on where there is no fault
handed : {X E : Type 0} (refusal : E → Answer) (fault : Option E) (x y : X) → hands_on x ≡ unless refusal fault y → x ≡ y
handed refusal None x y e = let z : x ≡ y = cc in z
handed refusal (Some fault) x y e = absurd (let z : ⊥ = cc in z)

-- the canonical text of a tree
pub document_back : (c : CheckedGrammar) (t : Forest) (text printed : List ℕ)
    → ((scanned : WideTokenized) → IsTreeRead c scanned (record { checked = c; tree = t }) → IsReadBack c t printed)
    → grown_tree c text (hands_on t) → grown_tree c printed (hands_on t)
document_back c t text printed back (inl ended) = absurd (let e = ended.2 in let z : ⊥ = cc in z)
document_back c t text printed back (inr (scanned, found, inl ended)) =
    absurd (let e = ended.2 in let z : ⊥ = cc in z)
document_back c t text printed back (inr (scanned, found, inr (read, is_read, same))) =
    let tree : t ≡ read.tree = (let z : t ≡ read.tree = cc in z) in
    let grammar : read.checked ≡ c = ap (λ (x : CheckedTree). x.checked) is_read.is in
    let whole : read ≡ record { checked = c; tree = t } =
    ap (λ (k : CheckedGrammar). record { checked = k; tree = read.tree }) grammar
    ∙ ap (λ (f : Forest). record { checked = c; tree = f }) (sym tree) in
    let again = back (wide (greatest_of_width c.width) scanned)
    (subst (IsTreeRead c (wide (greatest_of_width c.width) scanned)) whole is_read) in
    inr (
      tokenized printed again.tokens,
      sym (ap (scanned_as section.Document printed) again.scanned),
      inr (record { checked = c; tree = t }, again.read, refl),
    )

-- the canonical text of a schedule
pub schedule_back : ReadNestsAreReadBack → (c : CheckedGrammar) (s : NestingSchedule) (text : List ℕ) → IsUtf8 text
    → schedule c (Some text) (hands_on s)
    → schedule c (Some (nesting_schedule_text (nest_written_of c.grammar s))) (hands_on s)
schedule_back law c s text utf8 (inl ended) = absurd (let e = ended.2 in let z : ⊥ = cc in z)
schedule_back law c s text utf8 (inr (scanned, found, inl ended)) =
    absurd (let e = ended.2 in let z : ⊥ = cc in z)
schedule_back law c s text utf8 (inr (scanned, found, inr (read, answers, ordered))) =
    let printed = nesting_schedule_text (nest_written_of c.grammar s) in
    let at = scanned_to section.Schedule text (scan 2147483647 text) scanned found in
    let same : s ≡ read =
    handed (λ fault. refused 6 (verify_line c.grammar fault)) (first_nest_fault (meant c) (nests_of read)) s read ordered in
    let back = law c scanned s (subst IsScanned (sym at.is) (record { utf8 = utf8; tokens = at.found }))
    (subst (λ (x : NestingSchedule). NestAnswers c scanned (Ok x)) (sym same) answers) in
    inr (
      tokenized printed back.spells.tokens,
      sym (ap (scanned_as section.Schedule printed) back.spells.scanned),
      inr (
        s,
        inr (inl (record { written = nest_written_of c.grammar s; spells = back.spells.spells; answer = back.is })),
        subst (λ (x : NestingSchedule). ordered_schedule c x (hands_on s)) (sym same) ordered,
      ),
    )
