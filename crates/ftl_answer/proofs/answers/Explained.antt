-- The schedule of each page can be explained; and how a page is explained whose schedule is accepted, or refused for a
-- pair.
use Rattle.std.proofs.Common.{◌≡◌, inl, inr, ⊎_elim, refl, sym, subst, ℕ, List, map}
use Rattle.std.proofs.Common.{Option, Some, None, arith}
use Rattle.std.proofs.lemmas.Bool.{cases_order}
use Rattle.ftl_deps.specs.reads.Meant.{meant}
use Rattle.ftl_example.specs.sizes.Place.{example_size}
use Rattle.ftl_meaning.specs.faults.Checked.{CheckedGrammar}
use Rattle.ftl_meaning.specs.lawful.Faultless.{IsFaultless}
use Rattle.ftl_meaning.proofs.lawful.Lawfulness.{faultless_lawful}
use Rattle.ftl_model.specs.layout.Table.{instance_number}
use Rattle.ftl_order.specs.declared.faults.fault.VerifyFault.{VerifyFault}
use Rattle.ftl_order.specs.declared.faults.fault.VerifyFault.TheVariants as verify
use Rattle.ftl_nest_check.specs.check.NestFault.{first_nest_fault}
use Rattle.ftl_nest_check.specs.stages.Nested.{nests_of}
use Rattle.ftl_nest_check.specs.declared.stages.types.NestingSchedule.{NestingSchedule}
use Rattle.ftl_example.specs.nests.examples.NestExamples.{HasNestExample, NestExamplesBySize, NestSizeSays}
use Rattle.ftl_example.specs.nests.pairs.NestPair.{NestFaultsHavePairs}
use Rattle.ftl_example.proofs.nests.pairs.NestFaultPairs.{is_refused}
use Rattle.ftl_nest_text.proofs.reading.NestRead.{read_kept}
use Rattle.ftl_nests.specs.Nests.{nest_placing_of, outer_schedule}
use Rattle.ftl_order.proofs.faults.Entries.{stands_once}
use Rattle.ftl_order.specs.orders.Lawful.{IsLawful}
use Rattle.ftl_order.specs.orders.Pairs.{Pair}
use Rattle.ftl_page.specs.declared.sections.fault.Section.TheVariants as section
use Rattle.ftl_page.specs.declared.sections.page.Page.{Page}
use Rattle.ftl_tokens.specs.scanner.Tokenized.{Tokenized}
use Rattle.ftl_answer.specs.answers.Answer.{answer, refused}
use Rattle.ftl_answer.specs.answers.Answers.{accepted_answer, explained, explained_by, explained_page, explained_schedule}
use Rattle.ftl_answer.specs.answers.Answers.{fault_refused, rules_alone}
use Rattle.ftl_answer.specs.answers.Explanations.{Explains, IsExplanation, example_text, larger_trees_text}
use Rattle.ftl_answer.specs.answers.Explanations.{no_tree_text}
use Rattle.ftl_answer.specs.answers.Stages.{Is, Outcome, Then, ends, hands_on}
use Rattle.ftl_answer.specs.answers.Texts.{automatic_schedule, grammar, ordered_schedule, page, schedule, spelled_schedule}
use Rattle.ftl_answer.specs.answers.Texts.{tokens}
use Rattle.ftl_answer.specs.refusals.ScheduleLines.{verify_line}
use Rattle.ftl_answer.proofs.answers.Ones.{HasSome, goes_on, handed, is_one, then_handed, then_some}
use Rattle.ftl_answer.proofs.answers.Rules.{grammar_handed, grammar_one, schedule_one, spelled_schedule_one}

-- ---- there is an explanation

module _ (by_size : NestExamplesBySize) (pairs : NestFaultsHavePairs) where
  module _ (c : CheckedGrammar) (fine : IsFaultless c.grammar) (scanned : Tokenized) (s : NestingSchedule)
      (read : spelled_schedule c scanned (hands_on s)) where
    law : IsLawful (meant c)
    law = faultless_lawful c.grammar c.width fine

    of_example : (pair : Pair) → HasNestExample (meant c) (nests_of s) pair 512 → (text : List ℕ) × Explains c s pair text
    of_example pair (t, r, w, steps, is, few) = (
      example_text c.grammar t r w steps,
      inr (inr (
        t,
        instance_number (meant c) t r,
        instance_number (meant c) t w,
        map (instance_number (meant c) t) steps,
        record {
          reading = r;
          written = w;
          steps = steps;
          is = is;
          reader_is = refl;
          writer_is = refl;
          order_is = refl;
        },
        few,
        refl,
      )),
    )

    of_size : (pair : Pair) (size : Option ℕ) → NestSizeSays (meant c) (nests_of s) pair 512 size
        → (text : List ℕ) × Explains c s pair text
    of_size pair None none = (no_tree_text, inl (none, refl))
    of_size pair (Some n) says =
        ⊎_elim (λ same. of_example pair (says.0 (omega (arith, same))))
        (⊎_elim (λ less. of_example pair (says.0 (omega (arith, less))))
        (λ more. (larger_trees_text, inr (inl (says.1 more, refl)))))
        (cases_order n 512)

    explanation_of : (r w : ℕ) → first_nest_fault (meant c) (nests_of s) ≡ Some (verify.Unordered r w)
        → (text : List ℕ) × IsExplanation c s text
    explanation_of r w e =
        let g = meant c in
        let n = nests_of s in
        let refusal = is_refused g n r w e in
        let found = pairs g (nest_placing_of n) r w law refusal.refused in
        let once = stands_once g (outer_schedule n) refusal.twice refusal.missing in
        let told = of_size found.0 (example_size g found.0)
        (by_size g n found.0 512 law once (read_kept c fine.faults fine.kinds scanned s read).sides found.1.is
        found.1.unordered) in
        (told.0, (found.0, (r, w, e, found.1), told.1))

    by_fault : (o : Option VerifyFault) → first_nest_fault (meant c) (nests_of s) ≡ o → HasSome (explained_by c s o)
    by_fault None e = (ends accepted_answer, refl)
    by_fault (Some (verify.Unordered r w)) e =
        let x = explanation_of r w e in (ends (answer 0 x.0), (x.0, x.1, refl))
    by_fault (Some (verify.Twice a)) e = (ends (fault_refused c (verify.Twice a)), refl)
    by_fault (Some (verify.Missing a)) e = (ends (fault_refused c (verify.Missing a)), refl)
    by_fault (Some verify.OutOfMemory) e = (ends (fault_refused c verify.OutOfMemory), refl)

  explained_some : (c : CheckedGrammar) (fine : IsFaultless c.grammar) (text : Option (List ℕ))
      → HasSome (explained c text)
  explained_some c fine None =
      then_some (automatic_schedule c) (λ s. Is (ends accepted_answer)) (schedule_one c fine None).some
      (λ s is. (ends accepted_answer, refl))
  explained_some c fine (Some text) =
      then_some (tokens section.Schedule 2147483647 text)
      (λ scanned. Then (spelled_schedule c scanned) (explained_schedule c)) (is_one _).some
      (λ scanned is.
      then_some (spelled_schedule c scanned) (explained_schedule c) (spelled_schedule_one c scanned).some
      (λ s read. by_fault c fine scanned s read (first_nest_fault (meant c) (nests_of s)) refl))

  pub page_explained : (bytes : List ℕ) → HasSome (explained_page bytes)
  page_explained bytes =
      then_some (page rules_alone bytes) (λ p. Then (grammar p.width p.grammar) (λ c. explained c p.schedule))
      (is_one _).some
      (λ p read.
      then_some (grammar p.width p.grammar) (λ c. explained c p.schedule) (grammar_one p.width p.grammar).some
      (λ c is. explained_some c (grammar_handed p.width p.grammar c is).faultless p.schedule))

-- ---- how a page is explained

-- by its schedule, where its grammar is this one
pub rules_go_on : (bytes : List ℕ) (p : Page) (c : CheckedGrammar) → page rules_alone bytes (hands_on p)
    → grammar p.width p.grammar (hands_on c) → (o : Outcome ⊥) → explained_page bytes o → explained c p.schedule o
rules_go_on bytes p c read lawful o x =
    goes_on (grammar p.width p.grammar) (λ c. explained c p.schedule) (grammar_one p.width p.grammar) c lawful o
    (goes_on (page rules_alone bytes) (λ p. Then (grammar p.width p.grammar) (λ c. explained c p.schedule)) (is_one _) p
    read o x)

-- what it is to have an accepted schedule of a text
record IsOrderedText (c : CheckedGrammar) (text : List ℕ) (s : NestingSchedule) : Type 0 where
  scanned : Tokenized
  read : tokens section.Schedule 2147483647 text (hands_on scanned)
  spelled : spelled_schedule c scanned (hands_on s)
  none : first_nest_fault (meant c) (nests_of s) ≡ None

ordered_text : (c : CheckedGrammar) (text : List ℕ) (s : NestingSchedule) → schedule c (Some text) (hands_on s)
    → IsOrderedText c text s
ordered_text c text s ordered =
    let a =
    then_handed (tokens section.Schedule 2147483647 text)
    (λ scanned. Then (spelled_schedule c scanned) (ordered_schedule c)) s ordered in
    let b = then_handed (spelled_schedule c a.0) (ordered_schedule c) s a.2 in
    let d =
    handed (λ fault. refused 6 (verify_line c.grammar fault)) (first_nest_fault (meant c) (nests_of b.0)) b.0 s b.2 in
    record {
      scanned = a.0;
      read = a.1;
      spelled = subst (λ (x : NestingSchedule). spelled_schedule c a.0 (hands_on x)) (sym d.1) b.1;
      none = subst (λ (x : NestingSchedule). first_nest_fault (meant c) (nests_of x) ≡ None) (sym d.1) d.0;
    }

-- the schedule that the tokens of a text spell is explained
pub spelled_goes_on : (c : CheckedGrammar) (text : List ℕ) (scanned : Tokenized) (s : NestingSchedule)
    → tokens section.Schedule 2147483647 text (hands_on scanned) → spelled_schedule c scanned (hands_on s)
    → (o : Outcome ⊥) → explained c (Some text) o → explained_schedule c s o
spelled_goes_on c text scanned s read spelled o x =
    goes_on (spelled_schedule c scanned) (explained_schedule c) (spelled_schedule_one c scanned) s spelled o
    (goes_on (tokens section.Schedule 2147483647 text)
    (λ scanned. Then (spelled_schedule c scanned) (explained_schedule c)) (is_one _) scanned read o x)

-- an accepted schedule is so, and no other way
pub accepted_alone : (c : CheckedGrammar) (fine : IsFaultless c.grammar) (text : Option (List ℕ)) (s : NestingSchedule)
    → schedule c text (hands_on s) → (o : Outcome ⊥) → explained c text o → o ≡ ends accepted_answer
accepted_alone c fine None s ordered o x =
    goes_on (automatic_schedule c) (λ s. Is (ends accepted_answer)) (schedule_one c fine None) s ordered o x
accepted_alone c fine (Some text) s ordered o x =
    let is = ordered_text c text s ordered in
    subst (λ f. explained_by c s f o) is.none (spelled_goes_on c text is.scanned s is.read is.spelled o x)

pub accepted_explained : (c : CheckedGrammar) (text : Option (List ℕ)) (s : NestingSchedule) → schedule c text (hands_on s)
    → explained c text (ends accepted_answer)
accepted_explained c None s ordered = inr (s, ordered, refl)
accepted_explained c (Some text) s ordered =
    let is = ordered_text c text s ordered in
    inr (
      is.scanned,
      is.read,
      inr (s, is.spelled, subst (λ f. explained_by c s f (ends accepted_answer)) (sym is.none) refl),
    )
