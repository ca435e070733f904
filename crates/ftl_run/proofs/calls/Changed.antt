-- A tree that was laid out anew after edits, shown.
use Rattle.std.proofs.Common.{◌≡◌, ◌∙◌, refl, sym, ap, subst, ℕ, List, [], ◌∷◌, length, map, Result, Ok, Err, IfOk}
use Rattle.std.proofs.lemmas.List.{length-map}
use Rattle.ftl_deps.specs.reads.Meant.{meant}
use Rattle.ftl_edits.specs.declared.meaning.types.Edit.{Edit}
use Rattle.ftl_meaning.specs.faults.Checked.{CheckedGrammar}
use Rattle.ftl_model.specs.layout.Table.{SolvesList, instance_count}
use Rattle.ftl_model.specs.layout.Tree.{Forest}
use Rattle.ftl_model.specs.layout.Values.{Value}
use Rattle.ftl_model.specs.lists.Lists.{place_in}
use Rattle.ftl_model.specs.layout.AttributeGrammar.{AttributeGrammar, class_inputs}
use Rattle.ftl_model.specs.layout.Path.{class_at, node_at}
use Rattle.ftl_model.specs.layout.WithInput.{changed, with_input}
use Rattle.ftl_model.proofs.layout.SameTrees.{same_instance_count}
use Rattle.ftl_relayout.specs.laws.Edits as change
use Rattle.ftl_relayout.specs.relaid.Relaid.{IsRelaid, edited_tree}
use Rattle.ftl_tree.proofs.trees.Changed.{keeps_lengths, same-changed}
use Rattle.ftl_tree.specs.boxes.WordValues.{WordsAreUndone, value_of_word}
use Rattle.ftl_tree.specs.trees.CheckedTree.{CheckedTree}
use Rattle.ftl_answer.specs.answers.Answer.{Answer}
use Rattle.ftl_answer.specs.answers.Answers.{boxes_and_touched, edited_by, shown_answer}
use Rattle.ftl_answer.specs.answers.Stages.{Outcome, ends}
use Rattle.ftl_demand.specs.demand.Solved.{IsSolvedBy}
use Rattle.ftl_run.specs.calls.ChangedTrees.{IsRelaidBy}
use Rattle.ftl_run.proofs.calls.Words.{back}

-- what holds of a value where the call succeeds
pub if_ok : {X E : Type 0} {P Q : X → Type 0} (r : Result X E) → ((x : X) → P x → Q x) → IfOk r P → IfOk r Q
if_ok (Ok x) each holds = each x holds
if_ok (Err e) each holds = tt

-- the values of the words of a tree that was solved solve it
pub values_solve : WordsAreUndone → (t : CheckedTree) (words : List ℕ) → IsSolvedBy t words
    → SolvesList (meant t.checked) t.tree (map value_of_word words)
values_solve undone t words x =
    subst (SolvesList (meant t.checked) t.tree)
    (sym (ap (map value_of_word) x.held ∙ back undone x.values x.in_range)) x.solves

-- so do values that are these
pub cells_solve : WordsAreUndone → (t : CheckedTree) (k : CheckedGrammar) → t.checked ≡ k → (words : List ℕ)
    → IsSolvedBy t words → (cells : List Value) → cells ≡ map value_of_word words → SolvesList (meant k) t.tree cells
cells_solve undone t k grammar words x cells are =
    subst (λ (c : CheckedGrammar). SolvesList (meant c) t.tree cells) grammar
    (subst (SolvesList (meant t.checked) t.tree) (sym are) (values_solve undone t words x))

-- edits keep the number of instances
same_count : (g : AttributeGrammar) (t : Forest) (es : List Edit)
    → instance_count g t ≡ instance_count g (change.with_edits g t es)
same_count g t [] = refl
same_count g t (e ∷ es) =
    let place = place_in (class_inputs g (class_at t (node_at t e.node))) e.attr in
    let u = with_input g t e.node e.attr e.value in
    same_instance_count t u
    (same-changed (changed e.node place e.value) (keeps_lengths e.node place e.value) 0 t) g
    ∙ same_count g u es

-- so there are as many values after edits as before
pub as_many : (c : CheckedGrammar) (t u : Forest) (edits : List Edit) (old values : List Value) (count : ℕ)
    → SolvesList (meant c) t old → u ≡ edited_tree c t edits → IsRelaidBy c u old values count
    → length values ≡ length old
as_many c t u edits old values count solved changed relaid =
    relaid.2.solves.count
    ∙ (ap (instance_count (meant c)) changed
    ∙ (sym (same_count (meant c) t edits) ∙ sym solved.count))

-- the words of values that solve a tree are as many as its instances
pub words_fit : (c : CheckedGrammar) (u : Forest) (old values : List Value) (words : List ℕ) (count : ℕ)
    → IsRelaidBy c u old values count → map value_of_word words ≡ values
    → length words ≡ instance_count (meant c) u
words_fit c u old values words count relaid are =
    sym (length-map words value_of_word) ∙ (ap length are ∙ relaid.2.solves.count)

abbrev ended : Answer → Outcome ⊥
ended a = ends a

-- what is shown is the answer to the edits
pub change_is_shown : (c : CheckedGrammar) (t u : Forest) (edits : List Edit) (old values : List Value)
    (words : List ℕ) (count : ℕ) (a : Answer) → SolvesList (meant c) t old → u ≡ edited_tree c t edits
    → IsRelaidBy c u old values count → map value_of_word words ≡ values
    → a ≡ shown_answer (boxes_and_touched count) c u (map value_of_word words)
    → edited_by c t edits (ends a)
change_is_shown c t u edits old values words count a solved changed relaid are told =
    let touched = relaid.0 in (
      values,
      touched,
      record {
        old = old;
        solved = solved;
        anew = subst (λ f. IsRelaid c f old values touched) changed relaid.2;
      },
      ap ended
          (told
          ∙ (ap (λ vs. shown_answer (boxes_and_touched count) c u vs) are
          ∙ (ap (λ n. shown_answer (boxes_and_touched n) c u values) relaid.1
          ∙ ap (λ f. shown_answer (boxes_and_touched (length touched)) c f values) changed))),
    )
