use Rattle.std.proofs.Common.{◌∙◌, ap, map, subst, sym, Result, Ok, Err, IfOk}
use Rattle.ftl_deps.specs.reads.Meant.{meant}
use Rattle.ftl_model.specs.layout.Table.{SolvesList}
use Rattle.ftl_tree.specs.boxes.WordValues.{value_of_word}
use Rattle.ftl_grammar_cases.proofs.WordValues.{values_solve}
use Rattle.ftl_grammar_cases.proofs.documents.values.values_by_demand.Goals as goal

-- what holds of a value where the call succeeds
if_ok : {X E : Type 0} {P Q : X → Type 0} (r : Result X E) → ((x : X) → P x → Q x) → IfOk r P → IfOk r Q
if_ok (Ok x) each holds = each x holds
if_ok (Err e) each holds = tt

pub returns : goal.returns
returns c =
    let t = c.args.tree.now in
    let k = c.args.checked.now in
    record {
      solved =
          if_ok c.values_of.result
          (λ v is.
          subst (SolvesList (meant k) t.tree) (sym (is ∙ ap (map value_of_word) c.as_slice.ensures.value))
          (values_solve c.words_are_undone.ensures.undone t k c.requires.grammar c.in_ok-words.words.items
          c.in_ok-words.ensures.solution))
          c.values_of.ensures.values;
    }
