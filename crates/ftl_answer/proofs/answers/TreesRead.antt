-- A page has one document, or one refusal of it.
use Rattle.std.proofs.Common.{◌≡◌, ◌≤◌, refl, sym, ap, subst, ℕ, List, [], ◌∷◌, length, Option, Some, None, Result, Ok, Err, arith}
use Rattle.std.proofs.lemmas.List.{length-map}
use Rattle.std.specs.Str.{IsUtf8}
use Rattle.ftl_base.specs.Widths.{greatest_of_width}
use Rattle.ftl_model.specs.layout.Tree.{Forest}
use Rattle.ftl_model.specs.layout.TreeOf.{IsTreeOf}
use Rattle.ftl_tokens.specs.scanner.Scan.{scan}
use Rattle.ftl_tokens.specs.scanner.Tokenized.{AreTokensOf, Tokenized, WideTokenized, symbol_of, symbols_of}
use Rattle.ftl_tokens.specs.declared.scanner.fault.TokenFault.{TokenFault}
use Rattle.ftl_tokens.specs.declared.scanner.kind.Token.{Token}
use Rattle.ftl_tokens.proofs.scanner.TokenLemmas.{are_tokens_of}
use Rattle.ftl_tokens.specs.reading.Reader.{AreAtMost}
use Rattle.ftl_tokens.proofs.reading.NarrowLemmas.{at_most-symbols}
use Rattle.ftl_page.specs.declared.sections.fault.Section.{Section}
use Rattle.ftl_page.specs.declared.sections.fault.Section.TheVariants as section
use Rattle.ftl_meaning.proofs.counts.TokenCounts.{few_tokens}
use Rattle.ftl_meaning.specs.faults.Checked.{CheckedGrammar}
use Rattle.ftl_meaning.specs.lawful.Faultless.{IsFaultless}
use Rattle.ftl_deps.specs.reads.Meant.{meant}
use Rattle.ftl_nest_check.specs.stages.Nested.{nests_of}
use Rattle.ftl_nest_check.specs.declared.stages.types.NestingSchedule.{NestingSchedule}
use Rattle.ftl_nests.specs.Nests.{outer_schedule}
use Rattle.ftl_document.proofs.syntax.NumberLemmas.{document-within}
use Rattle.ftl_document.specs.faults.FirstFault.{first_node_fault, first_there, instance_count_of, too_many_instances}
use Rattle.ftl_document.specs.faults.Within.{IsWithin}
use Rattle.ftl_document.specs.declared.faults.fault.DocFault.{DocFault}
use Rattle.ftl_document.specs.declared.faults.fault.DocFault.TheVariants as document
use Rattle.ftl_document.proofs.faults.RightTrees.{faultless_is_tree}
use Rattle.ftl_tree.specs.trees.CheckedTree.{CheckedTree}
use Rattle.ftl_document.specs.reading.ReadTree.{IsTreeRead, ReadsTree}
use Rattle.ftl_document.proofs.reading.Widths.{fields_within}
use Rattle.ftl_document.proofs.reading.ReadOnce.{any_two_trees, some_tree}
use Rattle.ftl_step_value.specs.limits.faults.PlanFaults.{first_fault}
use Rattle.ftl_answer.specs.refusals.DocumentLines.{document_line}
use Rattle.ftl_answer.specs.refusals.PlanLines.{plan_line}
use Rattle.ftl_answer.specs.refusals.TextLines.{token_line}
use Rattle.ftl_answer.specs.answers.Answer.{refused}
use Rattle.ftl_answer.specs.answers.Stages.{Is, Stage, Then, hands_on}
use Rattle.ftl_answer.specs.answers.Texts.{grown_tree, planned_tree, scanned_as, spelled_tree, status_of, tokenized}
use Rattle.ftl_answer.specs.answers.Texts.{tokens}
use Rattle.ftl_answer.specs.answers.Texts.{tree, wide}
use Rattle.ftl_answer.proofs.answers.Ones.{HasOne, end_is_no_value, handed, is_one, same_value, then_handed, then_one, result_one}

-- ---- tokens

-- what the tokens of a text are
pub record AreScanned (greatest : ℕ) (text : List ℕ) (scanned : Tokenized) : Type 0 where
  pub text_is : scanned.text ≡ text
  pub found : scan greatest text ≡ Ok scanned.tokens

scanned_by : (which : Section) (greatest : ℕ) (text : List ℕ) (scanned : Tokenized)
    (found : Result (List Token) TokenFault) → scan greatest text ≡ found → hands_on scanned ≡ scanned_as which text found
    → AreScanned greatest text scanned
scanned_by which greatest text scanned (Ok list) e is =
    let same : scanned ≡ tokenized text list = same_value scanned (tokenized text list) is in
    subst (AreScanned greatest text) (sym same) (record { text_is = refl; found = e })
scanned_by which greatest text scanned (Err fault) e is =
    absurd (end_is_no_value (refused (status_of which) (token_line which fault)) scanned (sym is))

pub are_scanned : (which : Section) (greatest : ℕ) (text : List ℕ) (scanned : Tokenized)
    → tokens which greatest text (hands_on scanned) → AreScanned greatest text scanned
are_scanned which greatest text scanned is = scanned_by which greatest text scanned (scan greatest text) refl is

-- the tokens of a short text in UTF-8 are few, and their numbers in range
pub record AreFew (s : WideTokenized) : Type 0 where
  pub few : length s.tokenized.tokens ≤ 4294967295
  pub numbers : AreAtMost s.greatest (symbols_of s.tokenized)

pub few_of : (greatest : ℕ) (text : List ℕ) (scanned : Tokenized) → AreScanned greatest text scanned
    → length text ≤ 67108864 → IsUtf8 text → AreFew (wide greatest scanned)
few_of greatest text scanned are short utf8 =
    let of_text : AreTokensOf greatest text 0 scanned.tokens = are_tokens_of greatest text scanned.tokens utf8 are.found in
    let own : AreTokensOf greatest scanned.text 0 scanned.tokens =
    subst (λ (t : List ℕ). AreTokensOf greatest t 0 scanned.tokens) (sym are.text_is) of_text in
    let count = few_tokens greatest scanned own in
    let same : length scanned.text ≡ length text = ap length are.text_is in
    record {
      few = omega (arith, count, same, short, length-map scanned.tokens (symbol_of scanned.text));
      numbers = at_most-symbols greatest scanned.text 0 scanned.tokens own;
    }

-- ---- the tree

module _ (c : CheckedGrammar) (text : List ℕ) (short : length text ≤ 67108864) (utf8 : IsUtf8 text) where
  few_in : (scanned : Tokenized) → tokens section.Document (greatest_of_width c.width) text (hands_on scanned)
      → AreFew (wide (greatest_of_width c.width) scanned)
  few_in scanned is =
      few_of (greatest_of_width c.width) text scanned
      (are_scanned section.Document (greatest_of_width c.width) text scanned is) short utf8

  abbrev after : Tokenized → Stage Forest
  after scanned =
      Then (spelled_tree c (wide (greatest_of_width c.width) scanned)) (λ (t : CheckedTree). Is (hands_on t.tree))

  pub grown_one : HasOne (grown_tree c text)
  grown_one =
      then_one (tokens section.Document (greatest_of_width c.width) text) after (is_one _)
      (λ scanned is.
      let w = wide (greatest_of_width c.width) scanned in
      then_one (spelled_tree c w) (λ (t : CheckedTree). Is (hands_on t.tree))
      (result_one document.OutOfMemory (λ fault. refused 7 (document_line c.grammar fault)) (ReadsTree c w)
      (some_tree c w (few_in scanned is).few (few_in scanned is).numbers) (any_two_trees c w))
      (λ t read. is_one _))

  pub tree_one : (s : NestingSchedule) → HasOne (tree c s text)
  tree_one s = then_one (grown_tree c text) (planned_tree c s) grown_one (λ t grown. is_one _)

  -- a document without a fault has no node with one
  nodes_fine : (o more : Option DocFault) → first_there (o ∷ more ∷ []) ≡ None → o ≡ None
  nodes_fine None more e = refl
  nodes_fine (Some x) more e = absurd cc

  -- the tree is one of the grammar
  read_is_tree : IsFaultless c.grammar → (w : WideTokenized) → w.greatest ≡ greatest_of_width c.width → AreFew w
      → (t : CheckedTree) → IsTreeRead c w t → IsTreeOf (meant c) t.tree
  read_is_tree law w width few t read =
      let within = document-within w.greatest read.spelled.spells few.numbers in
      subst (λ (x : CheckedTree). IsTreeOf (meant c) x.tree) (sym read.is)
      (faultless_is_tree (greatest_of_width c.width) c.grammar law.faults read.node
      (nodes_fine (first_node_fault c.grammar read.node) (too_many_instances (instance_count_of c.grammar read.node)) read.none)
      (subst (λ n. IsWithin n read.node) width (fields_within w.greatest read.node.fields within)))

  pub grown_fits : IsFaultless c.grammar → (t : Forest) → grown_tree c text (hands_on t) → IsTreeOf (meant c) t
  grown_fits law t all =
      let a = then_handed (tokens section.Document (greatest_of_width c.width) text) after t all in
      let w = wide (greatest_of_width c.width) a.0 in
      let b = then_handed (spelled_tree c w) (λ (x : CheckedTree). Is (hands_on x.tree)) t a.2 in
      subst (IsTreeOf (meant c)) (sym (same_value t b.0.tree b.2)) (read_is_tree law w refl (few_in a.0 a.1) b.0 b.1)

  pub tree_fits : (s : NestingSchedule) → IsFaultless c.grammar → (t : Forest) → tree c s text (hands_on t)
      → IsTreeOf (meant c) t
  tree_fits s law t all =
      let a = then_handed (grown_tree c text) (planned_tree c s) t all in
      let d = handed (λ fault. refused 7 (plan_line fault)) (first_fault (meant c) (outer_schedule (nests_of s)) a.0) a.0 t a.2 in
      subst (IsTreeOf (meant c)) (sym d.1) (grown_fits law a.0 a.1)
