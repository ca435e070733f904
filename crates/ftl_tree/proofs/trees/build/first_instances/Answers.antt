use Rattle.std.proofs.Common.{◌≡◌, ◌<◌, ◌≤◌, ap, arith, get_or, length, map, subst, sum, sym, ◌∙◌, IfOk, List, ℕ}
use Rattle.std.specs.List.{All}
use Rattle.ftl_deps.specs.reads.Meant.{meant}
use Rattle.ftl_tree.specs.declared.rows.row.NodeRow.{NodeRow}
use Rattle.ftl_tree.specs.rows.Rows.{attribute_width, starts_by, sums_from}
use Rattle.ftl_tree.proofs.rows.RowWidths.{classes_known, few_attributes, same_widths}
use Rattle.ftl_tree.proofs.trees.build.first_instances.Goals as goal

pub class_starts-requires-clause-known : goal.class_starts-requires-clause-known
class_starts-requires-clause-known c =
    let g = meant c.args.checked.now in
    let table = c.in_ok-table.table.items in
    subst (λ (xs : List ℕ). All (λ (row : NodeRow). row.class < length xs) c.args.rows.now) (sym c.deref.ensures.value)
    (classes_known g c.requires.rows.0 c.args.rows.now c.requires.rows.1 table c.in_ok-table.ensures.widths.length_is)

pub class_starts-requires-clause-bound : goal.class_starts-requires-clause-bound
class_starts-requires-clause-bound c =
    let g = meant c.args.checked.now in
    let table = c.in_ok-table.table.items in
    let few = few_attributes g c.requires.rows.0 c.args.rows.now c.requires.rows.1 table c.in_ok-table.ensures.widths in
    subst (λ (xs : List ℕ). sum (map (λ (row : NodeRow). get_or xs row.class 0) c.args.rows.now) ≤ 4294967295) (sym c.deref.ensures.value) (omega (arith, few))

pub returns : goal.returns
returns c =
    let g = meant c.args.checked.now in
    let table = c.in_ok-table.table.items in
    let same = ap (λ (xs : List ℕ). starts_by (λ k. get_or xs k 0) c.args.rows.now) c.deref.ensures.value
    ∙ ap (sums_from 0) (same_widths g c.requires.rows.0 c.args.rows.now c.requires.rows.1 (attribute_width g) table c.in_ok-table.ensures.widths) in
    record { starts = subst (λ (ys : List ℕ). IfOk c.class_starts.result (λ v. v.items ≡ ys)) same c.class_starts.ensures.starts }
