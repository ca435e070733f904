use Rattle.std.proofs.Common.{not, ◌≢◌, ◌∙◌, ◌+◌, ◌≤◌, ap, sym, subst, inl, inr, ⊎_elim, set, arith}
use Rattle.std.proofs.lemmas.List.{get_or_read}
use Rattle.ftl_model.specs.layout.Values.{overflow}
use Rattle.ftl_relayout.specs.queue.Nets.{IsReaderBy, table}
use Rattle.ftl_relayout.specs.queue.Trails.{cells_of, total_cost, undone}
use Rattle.ftl_relayout.specs.declared.queue.trail.Before.{Before}
use Rattle.ftl_relayout.proofs.queue.Trails.{cells-last, more_spent, on_ok, undone_same, undone_written}
use Rattle.ftl_relayout.proofs.queue.run.run_one.Goals as goal

pub returns-then-is_same-clause-spent : goal.returns-then-is_same-clause-spent
returns-then-is_same-clause-spent g c =
    let b : Before = record { cell = c.cell-cell.result; value = c.index-values-cell.result } in
    let cost = (g.R.Rules.net c.args.rules.now).cost in
    subst
    (λ xs. g.R.Rules.spent c.compute-value.new.self + total_cost cost (cells_of c.args.trail.now.items)
    ≤ g.R.Rules.spent c.args.rules.now + total_cost cost (cells_of xs))
    (sym c.in_ok-push.ensures.items)
    (more_spent cost c.args.trail.now.items b (g.R.Rules.spent c.args.rules.now) (g.R.Rules.spent c.compute-value.new.self)
    c.compute-value.ensures.spent)

pub returns-then-is_same-clause-undone : goal.returns-then-is_same-clause-undone
returns-then-is_same-clause-undone g c =
    let vs = c.args.values.now in
    let b : Before = record { cell = c.cell-cell.result; value = c.index-values-cell.result } in
    let within = c.cell-cell.ensures.step.within in
    let count = c.requires.count in
    let is = get_or_read vs c.cell-cell.result c.index-values-cell.result (omega (arith, within, count))
    c.index-values-cell.is overflow in
    ap (λ xs. undone xs vs) c.in_ok-push.ensures.items ∙ undone_same c.args.trail.now.items b vs overflow is

pub returns-clause-ran : goal.returns-clause-ran
returns-clause-ran g c =
    let vs = c.args.values.now in
    let b : Before = record { cell = c.cell-cell.result; value = c.index-values-cell.result } in
    let within = c.cell-cell.ensures.step.within in
    let count = c.requires.count in
    let is = get_or_read vs c.cell-cell.result c.index-values-cell.result (omega (arith, within, count))
    c.index-values-cell.is overflow in
    let value = c.compute-value.ensures.value in
    let cell = c.cell-cell.result in
    let n = g.R.Rules.net c.args.rules.now in
    let differs : n.value (table vs) cell ≢ table vs cell =
    (λ e. c.is_same.ensures.differ (ap not c.if-is_same.false) (value ∙ e ∙ sym is)) in
    on_ok c.add_readers.result
    (λ readers.
    record {
      cell = cell;
      step = c.cell-cell.ensures.step;
      key_is = c.cell-cell.ensures.key;
      written = ap (set vs cell) value;
      ran = ap cells_of c.in_ok-push.ensures.items ∙ cells-last c.args.trail.now.items b;
      kept = c.add_readers.ensures.kept;
      readers = λ d k r. readers k (subst (λ m. IsReaderBy m cell k) (sym c.compute-value.ensures.stays) r);
      no_others = λ k h.
          ⊎_elim (λ old. inl old) (λ r. inr (subst (λ m. IsReaderBy m cell k) c.compute-value.ensures.stays r, differs))
          (c.add_readers.ensures.no_others k h);
    })
    c.add_readers.ensures.readers

pub returns-clause-spent : goal.returns-clause-spent
returns-clause-spent g c =
    let b : Before = record { cell = c.cell-cell.result; value = c.index-values-cell.result } in
    let cost = (g.R.Rules.net c.args.rules.now).cost in
    subst
    (λ xs. g.R.Rules.spent c.compute-value.new.self + total_cost cost (cells_of c.args.trail.now.items)
    ≤ g.R.Rules.spent c.args.rules.now + total_cost cost (cells_of xs))
    (sym c.in_ok-push.ensures.items)
    (more_spent cost c.args.trail.now.items b (g.R.Rules.spent c.args.rules.now) (g.R.Rules.spent c.compute-value.new.self)
    c.compute-value.ensures.spent)

pub returns-clause-undone : goal.returns-clause-undone
returns-clause-undone g c =
    let vs = c.args.values.now in
    let b : Before = record { cell = c.cell-cell.result; value = c.index-values-cell.result } in
    let within = c.cell-cell.ensures.step.within in
    let count = c.requires.count in
    let is = get_or_read vs c.cell-cell.result c.index-values-cell.result (omega (arith, within, count))
    c.index-values-cell.is overflow in
    ap (λ xs. undone xs (set vs c.cell-cell.result c.compute-value.result)) c.in_ok-push.ensures.items
    ∙ undone_written c.args.trail.now.items b vs c.compute-value.result overflow is
