use Rattle.std.proofs.Common.{ap}
use Rattle.ftl_answer.specs.answers.Answer.{Answer}
use Rattle.ftl_answer.specs.answers.Stages.{Outcome, ends}
use Rattle.ftl_tree.specs.boxes.WordValues.{table_of_words}
use Rattle.ftl_run.proofs.calls.Words.{same_table, shown_is, words_count}
use Rattle.ftl_run.proofs.calls.shown.table_shown.Goals as goal

abbrev ended : Answer → Outcome ⊥
ended a = ends a

pub printed-requires : goal.printed-requires
printed-requires c = record { words = words_count c.args.tree.now c.args.words.now c.requires.solved }

pub returns : goal.returns
returns c =
    let t = c.args.tree.now in
    let x = c.requires.solved in
    record {
      outcome = (
        x.values,
        x.solves,
        ap ended
            (shown_is c.args.shown.now t x.values (table_of_words t c.args.words.now) c.status_by-status.result.0
            c.in_ok-text.field-0.text.items c.in_ok-text.field-0.overflows
            (same_table t c.args.words.now x c.words_are_undone.ensures.undone) c.status_by-status.ensures.status
            c.in_ok-text.ensures.overflows c.in_ok-text.ensures.text),
      );
    }
