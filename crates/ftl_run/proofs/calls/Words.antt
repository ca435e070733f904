-- The words of values that solve show these values.
use Rattle.std.proofs.Common.{◌≡◌, ◌<◌, ◌∙◌, refl, ap, ℕ, Bool, if◌then◌else◌, List, length, get_or, map, arith}
use Rattle.std.proofs.lemmas.List.{ext_get_or, get_or-map, length-map}
use Rattle.std.proofs.lemmas.Simd.{map-map}
use Rattle.ftl_tree.specs.boxes.WordValues.{WordsAreUndone, table_of_words, value_of_word}
use Rattle.ftl_deps.specs.reads.Meant.{meant}
use Rattle.ftl_model.specs.layout.Solves.{Instance}
use Rattle.ftl_model.specs.layout.Table.{instance_count, value_in}
use Rattle.ftl_model.specs.layout.Values.{IsValue, Value, overflow, word_of_value}
use Rattle.ftl_tree.specs.trees.CheckedTree.{CheckedTree}
use Rattle.ftl_answer.specs.answers.Answer.{answer}
use Rattle.ftl_answer.specs.answers.Answers.{shown_answer}
use Rattle.ftl_meaning.specs.grammars.GrammarOf.{names_of}
use Rattle.ftl_model.specs.layout.Boxes.{shows_overflow}
use Rattle.ftl_demand.specs.demand.Solved.{IsSolvedBy}
use Rattle.ftl_run.specs.calls.ShownTables.{text_by}
use Rattle.ftl_answer.specs.reading.requests.ShownTexts.{text_shown}
use Rattle.ftl_answer.specs.declared.reading.requests.shown.Shown.{Shown}
use Rattle.ftl_answer.specs.declared.reading.requests.shown.Shown.TheVariants as shown

pub back : WordsAreUndone → (values : List Value) → ((i : ℕ) → i < length values → IsValue (get_or values i overflow))
    → map value_of_word (map word_of_value values) ≡ values
back undone values in_range =
    let long = length-map values (λ v. value_of_word (word_of_value v)) in
    map-map value_of_word word_of_value values
    ∙ ext_get_or overflow (map (λ v. value_of_word (word_of_value v)) values) values long
    (λ i within.
    let known : i < length values = omega (arith, within, long) in
    get_or-map (λ v. value_of_word (word_of_value v)) values i overflow overflow known
    ∙ undone (get_or values i overflow) (in_range i known))

module _ (t : CheckedTree) (words : List ℕ) (x : IsSolvedBy t words) where
  -- one for each instance
  pub words_count : length words ≡ instance_count (meant t.checked) t.tree
  words_count = ap length x.held ∙ length-map x.values word_of_value ∙ x.solves.count

  pub same_table : WordsAreUndone → table_of_words t words ≡ value_in (meant t.checked) t.tree x.values
  same_table undone =
      ap (λ ws. value_in (meant t.checked) t.tree (map value_of_word ws)) x.held
      ∙ ap (value_in (meant t.checked) t.tree) (back undone x.values x.in_range)

-- ---- the table, shown

same_text : (how : Shown) (t : CheckedTree) (values : List Value)
    → text_by how t (value_in (meant t.checked) t.tree values) ≡ text_shown how t.checked t.tree values
same_text shown.Boxes t values = refl
same_text (shown.Summary name) t values = refl

pub shown_is : (how : Shown) (t : CheckedTree) (values : List Value) (s : Instance → Value) (status : ℕ)
    (text : List ℕ) (overflows : Bool) → s ≡ value_in (meant t.checked) t.tree values
    → status ≡ (if overflows then 8 else 0) → overflows ≡ shows_overflow (names_of t.checked.grammar) t.tree s
    → text ≡ text_by how t s → answer status text ≡ shown_answer (text_shown how) t.checked t.tree values
shown_is how t values s status text overflows same status_is overflows_is text_is =
    let table = value_in (meant t.checked) t.tree values in
    let over = shows_overflow (names_of t.checked.grammar) t.tree table in
    ap (λ n. answer n text)
    (status_is
    ∙ ap (λ b. if b then 8 else 0)
    (overflows_is ∙ ap (λ (f : Instance → Value). shows_overflow (names_of t.checked.grammar) t.tree f) same))
    ∙ ap (answer (if over then 8 else 0))
    (text_is ∙ ap (λ (f : Instance → Value). text_by how t f) same ∙ same_text how t values)
