use Rattle.std.proofs.Common.{◌≡◌, ◌∙◌, arith, sym, ap, subst, ℕ, List, length, map}
use Rattle.ftl_deps.specs.reads.Meant.{meant}
use Rattle.ftl_meaning.specs.faults.Checked.{CheckedGrammar}
use Rattle.ftl_model.specs.layout.Table.{instance_count}
use Rattle.ftl_tree.specs.boxes.WordValues.{value_of_word}
use Rattle.ftl_answer.specs.answers.Answers.{boxes_and_touched, edited_by, shown_answer}
use Rattle.ftl_answer.specs.answers.Stages.{ends}
use Rattle.ftl_answer.specs.reading.sections.Outcomes.{answer_of}
use Rattle.ftl_run.proofs.calls.Changed.{as_many, cells_solve, change_is_shown, if_ok, words_fit}
use Rattle.ftl_run.proofs.calls.Mapped.{written_over}
use Rattle.ftl_run.proofs.calls.change.edited_shown.Goals as goal

pub laid_out_anew-requires-clause-values : goal.laid_out_anew-requires-clause-values
laid_out_anew-requires-clause-values c =
    let cells : c.as_mut_slice-cells.result.now ≡ map value_of_word c.args.words.items =
    c.as_mut_slice-cells.ensures.value
    ∙ (c.in_ok-values.ensures.values ∙ ap (map value_of_word) c.as_slice.ensures.value) in
    cells_solve c.words_are_undone.ensures.undone c.args.tree c.args.checked.now c.requires.grammar c.args.words.items
    c.requires.solved c.as_mut_slice-cells.result.now cells

pub change_shown-requires : goal.change_shown-requires
change_shown-requires c =
    let u = c.laid_out_anew.new.tree in
    let k = c.args.checked.now in
    let old = c.as_mut_slice-cells.result.now in
    let new = c.laid_out_anew.new.values in
    let cells : old ≡ map value_of_word c.args.words.items =
    c.as_mut_slice-cells.ensures.value
    ∙ (c.in_ok-values.ensures.values ∙ ap (map value_of_word) c.as_slice.ensures.value) in
    let solved =
    cells_solve c.words_are_undone.ensures.undone c.args.tree k c.requires.grammar c.args.words.items c.requires.solved old
    cells in
    let same =
    as_many k c.args.tree.tree u.tree c.args.edits.now old new c.in_ok-touched.touched solved c.in_ok-touched.ensures.tree
    c.in_ok-touched.ensures.relaid in
    let long = ap length c.as_mut_slice-cells.ensures.value in
    let len = c.as_mut_slice-cells.ensures.len in
    let whole : c.as_slice-2.result.now ≡ new =
    c.as_slice-2.ensures.value
    ∙ written_over c.in_ok-values.values.len new c.in_ok-values.values.items (omega (arith, same, long, len))
    (omega (arith, same, long)) in
    record {
      words =
          ap length c.as_slice-3.ensures.value
          ∙ (words_fit k u.tree old new c.in_ok-words.words.items c.in_ok-touched.touched
          c.in_ok-touched.ensures.relaid (c.in_ok-words.ensures.values ∙ whole)
          ∙ ap (λ (x : CheckedGrammar). instance_count (meant x) u.tree) (sym c.in_ok-touched.ensures.grammar));
    }

pub returns : goal.returns
returns c =
    let t = c.args.tree.tree in
    let u = c.laid_out_anew.new.tree in
    let k = c.args.checked.now in
    let edits = c.args.edits.now in
    let old = c.as_mut_slice-cells.result.now in
    let new = c.laid_out_anew.new.values in
    let words = c.in_ok-words.words.items in
    let count = c.in_ok-touched.touched in
    let cells : old ≡ map value_of_word c.args.words.items =
    c.as_mut_slice-cells.ensures.value
    ∙ (c.in_ok-values.ensures.values ∙ ap (map value_of_word) c.as_slice.ensures.value) in
    let solved =
    cells_solve c.words_are_undone.ensures.undone c.args.tree k c.requires.grammar c.args.words.items c.requires.solved old
    cells in
    let same =
    as_many k t u.tree edits old new count solved c.in_ok-touched.ensures.tree c.in_ok-touched.ensures.relaid in
    let long = ap length c.as_mut_slice-cells.ensures.value in
    let len = c.as_mut_slice-cells.ensures.len in
    let whole : c.as_slice-2.result.now ≡ new =
    c.as_slice-2.ensures.value
    ∙ written_over c.in_ok-values.values.len new c.in_ok-values.values.items (omega (arith, same, long, len))
    (omega (arith, same, long)) in
    record {
      outcome =
          if_ok c.change_shown.result
          (λ d told.
          subst (λ (x : CheckedGrammar). edited_by x t edits (ends (answer_of d))) (sym c.requires.grammar)
          (change_is_shown k t u.tree edits old new words count (answer_of d) solved c.in_ok-touched.ensures.tree
          c.in_ok-touched.ensures.relaid (c.in_ok-words.ensures.values ∙ whole)
          (told
          ∙ (ap (λ (x : CheckedGrammar). shown_answer (boxes_and_touched count) x u.tree (map value_of_word c.as_slice-3.result.now))
          c.in_ok-touched.ensures.grammar
          ∙ ap (λ (ws : List ℕ). shown_answer (boxes_and_touched count) k u.tree (map value_of_word ws))
          c.as_slice-3.ensures.value))))
          c.change_shown.ensures.outcome;
    }
