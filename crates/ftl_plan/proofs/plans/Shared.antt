-- The work of a stage may be shared by threads, as may all that it borrows. Each type has a lemma of its own, since
-- a search that goes through several of them breaks off.
use denote.Builtin.{u32, i64}
use denote.Param.Send.{IsSync, AllSync, sendable}
use denote.Ref.{NamedLft}
use denote.Struct.Declared.{fields}
use Rattle.std.proofs.Crossing.{Vec-sync}
use Rattle.sqlite_items.proofs.boxed.Boxed.TheSendSync as boxed
use Rattle.sqlite_items.proofs.items.Items.TheSendSync as items
use Rattle.ftl_base.proofs.comparison.Cmp.TheSendSync as comparison
use Rattle.ftl_base.proofs.width.Width.TheSendSync as width
use Rattle.ftl_tokens.proofs.scanner.name.Name.TheSendSync as name
use Rattle.ftl_grammar.proofs.syntax.expression.Atom.TheLaws.TheKnot as knot
use Rattle.ftl_grammar.proofs.syntax.expression.Read.TheSendSync as read
use Rattle.ftl_grammar.proofs.syntax.rules.AttrDecl.TheSendSync as declaration
use Rattle.ftl_grammar.proofs.syntax.rules.Child.TheSendSync as child
use Rattle.ftl_grammar.proofs.syntax.rules.Interface.TheSendSync as interface
use Rattle.ftl_grammar.proofs.syntax.rules.Target.TheSendSync as target
use Rattle.ftl_grammar.specs.contracts.syntax.expression.Expr as Expr
use Rattle.ftl_grammar.specs.contracts.syntax.rules.Body as Body
use Rattle.ftl_grammar.specs.contracts.syntax.rules.Rule as Rule
use Rattle.ftl_grammar.specs.contracts.syntax.rules.Class as Class
use Rattle.ftl_grammar.specs.contracts.syntax.rules.Grammar as Grammar
use Rattle.ftl_checked.proofs.lookup.tables.Tables.TheSendSync as tables
use Rattle.ftl_meaning.proofs.faults.info.AttrInfo.TheSendSync as attribute
use Rattle.ftl_meaning.proofs.faults.info.RuleInfo.TheSendSync as rule
use Rattle.ftl_checked.proofs.grammars.numbered_read.PartReads.TheSendSync as part_reads
use Rattle.ftl_checked.specs.contracts.grammars.checked.Checked as Checked
use Rattle.ftl_tree.proofs.rows.class_row.ClassRow.TheSendSync as class_row
use Rattle.ftl_tree.proofs.rows.row.NodeRow.TheSendSync as node_row
use Rattle.ftl_tree.specs.contracts.rows.class_row.ClassRow as ClassRow
use Rattle.ftl_tree.specs.contracts.rows.row.NodeRow as NodeRow
use Rattle.ftl_tree.specs.contracts.trees.tree.Tree as Tree
use Rattle.ftl_tree.specs.contracts.trees.tree.Tree.TheInside as tree_inside
use Rattle.ftl_cursors.specs.contracts.items.by_host.TreeRows as TreeRows
use Rattle.ftl_cursors.specs.contracts.items.columns.ItemRows as ItemRows
use Rattle.ftl_schedule.proofs.stages.types.Pass.TheSendSync as pass
use Rattle.ftl_cursors.specs.contracts.items.view.StageItems as StageItems
use Rattle.ftl_visit.proofs.passes.pass_visits.PassVisits.TheSendSync as visits
use Rattle.ftl_visit.proofs.passes.rule_target.RuleTarget.TheSendSync as rule_target
use Rattle.ftl_cursors.proofs.sequence.block_places.SequencePlaces.TheSendSync as places
use Rattle.ftl_cursors.specs.contracts.item_cursor.item.ItemTables as ItemTables
use Rattle.ftl_host_cursors.proofs.nest_rows.NestRows.TheSendSync as nest_rows
use Rattle.ftl_host_cursors.specs.contracts.tables.NestTables as NestTables
use Rattle.ftl_nest_check.proofs.places.placed.PlacedNests.TheSendSync as placed_nests
use Rattle.ftl_nest_check.specs.contracts.check.accepted.AcceptedNests as AcceptedNests
use Rattle.ftl_nest_check.specs.contracts.check.accepted.AcceptedNests.TheInside as accepted_nests_inside
use Rattle.ftl_schedule.proofs.places.placed.Placed.TheSendSync as placed
use Rattle.ftl_schedule.specs.contracts.check.accepted.Accepted as Accepted
use Rattle.ftl_schedule.specs.contracts.check.accepted.Accepted.TheInside as accepted_inside
use Rattle.ftl_visit.proofs.compiled.programs.Programs.TheSendSync as programs
use Rattle.ftl_step_value.proofs.limits.reads.tables.ReadTables.TheSendSync as reads
use Rattle.ftl_step_value.proofs.neighbours.parts.NeighbourParts.TheSendSync as neighbours
use Rattle.ftl_step_value.proofs.forms.SharedForms.{rule_form_sync}
use Rattle.ftl_plan.specs.contracts.plans.parts.StageParts as StageParts
use Rattle.ftl_plan.specs.contracts.plans.work.StageWork as StageWork

-- ---- the grammar

expr_sync : IsSync (Expr.the_field).row
expr_sync =
    search (
      knot.sync-Expr,
      read.the_field_sync,
      name.the_sync,
      comparison.the_field_sync,
      boxed.the_sync,
      items.the_sync,
      sendable,
    ) depth 30

body_sync : IsSync (Body.the_field).row
body_sync = search (expr_sync, name.the_sync, sendable) depth 30

rule_sync : IsSync Rule.the_row
rule_sync = search (body_sync, target.the_field_sync, sendable) depth 30

class_sync : IsSync Class.the_row
class_sync =
    search (rule_sync, name.the_sync, declaration.the_sync, child.the_sync, items.the_sync, sendable) depth 30

grammar_sync : IsSync (Grammar.the_field).row
grammar_sync = search (class_sync, name.the_sync, interface.the_sync, items.the_sync, sendable) depth 30

checked_sync : IsSync (Checked.the_field).row
checked_sync =
    search (
      grammar_sync,
      width.the_field_sync,
      tables.the_field_sync,
      attribute.the_sync,
      rule.the_sync,
      part_reads.the_sync,
      items.the_sync,
      sendable,
    ) depth 30

-- ---- the tree and its items

-- of each field: the grammar, and twelve rows
tree_fields_sync : (κ : NamedLft) → AllSync (fields (tree_inside.the_type κ))
tree_fields_sync κ =
    let numbers = Vec-sync u32 (search sendable) in
    let inputs = Vec-sync i64 (search sendable) in
    let classes = Vec-sync ClassRow.the_row class_row.the_sync in
    let nodes = Vec-sync NodeRow.the_row node_row.the_sync in (
      search (checked_sync, sendable),
      (
        classes,
        (numbers, (nodes, (numbers, (inputs, (numbers, (numbers, (numbers, (numbers, (numbers, (numbers, (numbers, tt))))))))))),
      ),
    )

tree_sync : (κ : NamedLft) → IsSync (Tree.the_field κ).row
tree_sync κ = let all = tree_fields_sync κ in search sendable depth 30

item_rows_sync : (κ : NamedLft) → IsSync (ItemRows.the_field κ).row
item_rows_sync κ = search (tree_sync, Vec-sync, sendable) depth 30

tree_rows_sync : (κ : NamedLft) → IsSync (TreeRows.the_field κ).row
tree_rows_sync κ = search (tree_sync, item_rows_sync, Vec-sync, sendable) depth 30

stage_items_sync : (κ : NamedLft) → IsSync (StageItems.the_field κ).row
stage_items_sync κ = search (tree_rows_sync, pass.the_sync, sendable) depth 30

item_tables_sync : (κ : NamedLft) → IsSync (ItemTables.the_field κ).row
item_tables_sync κ =
    search (stage_items_sync, visits.the_sync, places.the_sync, rule_target.the_sync, sendable) depth 30

nest_tables_sync : (κ : NamedLft) → IsSync (NestTables.the_field κ).row
nest_tables_sync κ = search (item_tables_sync, nest_rows.the_sync, sendable) depth 30

-- ---- the stage

accepted_fields_sync : (κ : NamedLft) → AllSync (fields (accepted_inside.the_type κ))
accepted_fields_sync κ = (search (checked_sync, sendable), (placed.the_sync, tt))

accepted_sync : (κ : NamedLft) → IsSync (Accepted.the_field κ).row
accepted_sync κ = let all = accepted_fields_sync κ in search sendable depth 30

accepted_nests_fields_sync : (κ : NamedLft) → AllSync (fields (accepted_nests_inside.the_type κ))
accepted_nests_fields_sync κ =
    (search (checked_sync, sendable), (placed_nests.the_sync, (search (accepted_sync, sendable), tt)))

accepted_nests_sync : (κ : NamedLft) → IsSync (AcceptedNests.the_field κ).row
accepted_nests_sync κ = let all = accepted_nests_fields_sync κ in search sendable depth 30

parts_sync : (κ : NamedLft) → IsSync (StageParts.the_field κ).row
parts_sync κ =
    search (
      nest_tables_sync,
      accepted_nests_sync,
      programs.the_sync,
      reads.the_field_sync,
      neighbours.the_sync,
      rule_form_sync,
      sendable,
    ) depth 30

pub stage_work_sync : (κ : NamedLft) → IsSync (StageWork.the_field κ).row
stage_work_sync κ = search (parts_sync, sendable) depth 30
