-- The cell is that of an input, whose value in the tree is compared.
use Rattle.std.proofs.Common.{rules, FitsSigned, not, sym, ◌∙◌, ap, arith, inl, inr, ⊎_elim, w64}
use Rattle.std.proofs.lemmas.List.{get_or_read}
use Rattle.std.proofs.lemmas.Int.{to_z-of_z}
use Rattle.ftl_model.specs.layout.Values.{number, overflow}
use Rattle.ftl_relayout.specs.queue.Nets.{table}
use Rattle.ftl_relayout.specs.readers.Sites.{site_grammar}
use Rattle.ftl_relayout.proofs.queue.Trails.{on_ok}
use Rattle.ftl_relayout.proofs.relayouter.Dues.{edited_attribute, edited_input}
use Rattle.ftl_relayout.proofs.relayouter.due.add_changed.Goals as goal

pub instance-cell-requires-clause-attr : goal.instance-cell-requires-clause-attr
instance-cell-requires-clause-attr c =
    let x = c.args.readers.now in
    (edited_input (site_grammar x) x.tree.now.tree c.args.edit c.requires.edit).attribute

pub bounds-values-cell : goal.bounds-values-cell
bounds-values-cell c =
    let x = c.args.readers.now in
    let w = (edited_input (site_grammar x) x.tree.now.tree c.args.edit c.requires.edit).within in
    let count = c.requires.count in
    let is = c.instance-cell.ensures.instance in
    omega (arith, w, count, is)

pub returns-then-has_number-clause-all : goal.returns-then-has_number-clause-all
returns-then-has_number-clause-all c = λ k by.
    let fits : FitsSigned w64 c.input.result = search rules in
    let x = c.args.readers.now in
    let vs = c.args.values.now in
    let w = (edited_input (site_grammar x) x.tree.now.tree c.args.edit c.requires.edit).within in
    let count = c.requires.count in
    let here = c.instance-cell.ensures.instance in
    let is = get_or_read vs c.instance-cell.result c.index-values-cell.result (omega (arith, w, count, here))
    c.index-values-cell.is overflow in
    absurd
    (by.changed
    (ap (table vs) (sym here) ∙ sym is ∙ c.has_number.ensures.same c.if-has_number.true
    ∙ ap number (to_z-of_z w64 c.input.result fits) ∙ sym c.input.ensures.input))

pub add_readers-requires-clause-attribute : goal.add_readers-requires-clause-attribute
add_readers-requires-clause-attribute c =
    edited_attribute c.args.readers.now c.requires.site c.args.edit c.requires.edit

pub returns-clause-adds : goal.returns-clause-adds
returns-clause-adds c =
    let fits : FitsSigned w64 c.input.result = search rules in
    let x = c.args.readers.now in
    let vs = c.args.values.now in
    let w = (edited_input (site_grammar x) x.tree.now.tree c.args.edit c.requires.edit).within in
    let count = c.requires.count in
    let here = c.instance-cell.ensures.instance in
    let is = get_or_read vs c.instance-cell.result c.index-values-cell.result (omega (arith, w, count, here))
    c.index-values-cell.is overflow in
    record {
      kept = c.add_readers.ensures.adds.kept;
      only = λ k h.
          ⊎_elim (λ before. inl before)
          (λ by.
          inr
          (record {
            edit = c.requires.edit;
            changed = λ same.
                c.has_number.ensures.differ (ap not c.if-has_number.false)
                (is ∙ ap (table vs) here ∙ same ∙ c.input.ensures.input
                ∙ ap number (sym (to_z-of_z w64 c.input.result fits)));
            reader = by;
          }))
          (c.add_readers.ensures.adds.only k h);
    }

pub returns-clause-all : goal.returns-clause-all
returns-clause-all c = on_ok c.add_readers.result (λ all k by. all k by.reader) c.add_readers.ensures.all
