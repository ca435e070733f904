-- Exactly one table solves the tree of a page that is accepted.
use Rattle.std.proofs.Common.{ℕ, List, Option, Some, None}
use Rattle.ftl_page.specs.declared.commands.command.Command.{Command}
use Rattle.ftl_page.specs.declared.commands.command.Command.TheVariants as command
use Rattle.ftl_page.specs.declared.sections.page.Need.{Need}
use Rattle.ftl_deps.specs.reads.Meant.{meant}
use Rattle.ftl_edits.specs.declared.meaning.types.Edit.{Edit}
use Rattle.ftl_meaning.specs.faults.Checked.{CheckedGrammar}
use Rattle.ftl_model.specs.layout.Tree.{Forest}
use Rattle.ftl_model.specs.layout.TreeOf.{IsTreeOf}
use Rattle.ftl_relayout.specs.relaid.Relaid.{edited_tree}
use Rattle.ftl_noncircular.specs.grammars.NoncircularLaws.{OneListWhereNoncircular}
use Rattle.ftl_answer.specs.answers.Answers.{document_text, edited_page, unscheduled_page, whole_page}
use Rattle.ftl_answer.proofs.answers.Commands.{HasOneChange, page_read, tables_of_edits}
use Rattle.ftl_answer.proofs.answers.Rules.{grammar_handed, handed_law, one_list}
use Rattle.ftl_answer.proofs.answers.TreesRead.{grown_fits, tree_fits}
use Rattle.ftl_answer.specs.headline.Headline.{AreEditsAccepted, HasOneChangedTable, HasOneTable, HasOneTableWhere}
use Rattle.ftl_answer.specs.headline.Headline.{IsAcceptedFor, IsAcceptedForDemand, IsAcceptedForEdits, OneTableOf}

-- exactly one table solves the tree of a page of which so much is accepted
pub one_for : (need : Need) (bytes : List ℕ) → HasOneTableWhere (IsAcceptedFor need) bytes
one_for need bytes c t x =
    let p = x.sections in
    let read = page_read need bytes p x.read in
    let law = grammar_handed p.width p.grammar c x.lawful in
    one_list c law.faultless p.schedule x.order x.ordered t
    (tree_fits c (document_text p) read.short read.utf8 x.order law.faultless t x.spelled)

pub accepted_one : (bytes : List ℕ) → HasOneTable bytes
accepted_one bytes = one_for whole_page bytes

-- and what accepted edits make of it
pub changed_one : (bytes : List ℕ) (c : CheckedGrammar) (t : Forest) (es : List Edit) → AreEditsAccepted bytes c t es
    → IsTreeOf (meant c) (edited_tree c t es) × HasOneChange c t es
changed_one bytes c t es x =
    let y = x.accepted in
    let p = y.sections in
    tables_of_edits c y.order p t es (page_read edited_page bytes p y.read)
    (grammar_handed p.width p.grammar c y.lawful) y.ordered y.spelled x.read

pub edited_one : (bytes : List ℕ) → HasOneTableWhere IsAcceptedForEdits bytes × HasOneChangedTable bytes
edited_one bytes = (
  one_for edited_page bytes,
  λ c t es x.
      let y = x.accepted in
      let p = y.sections in
      let law = grammar_handed p.width p.grammar c y.lawful in
      one_list c law.faultless p.schedule y.order y.ordered (edited_tree c t es) (changed_one bytes c t es x).0,
)

-- so it does without a schedule, where the grammar is noncircular
demanded_one : OneListWhereNoncircular → (bytes : List ℕ) → HasOneTableWhere IsAcceptedForDemand bytes
demanded_one by_demand bytes c t x =
    let p = x.sections in
    let read = page_read unscheduled_page bytes p x.read in
    let law = grammar_handed p.width p.grammar c x.lawful in
    by_demand (meant c) t (handed_law p.width c law) x.noncircular
    (grown_fits c (document_text p) read.short read.utf8 law.faultless t x.spelled)

pub one_table_of : OneListWhereNoncircular → (c : Option Command) (told : Option (List ℕ)) → OneTableOf c told
one_table_of by_demand None told = tt
one_table_of by_demand (Some (command.Run how)) told = λ bytes are. accepted_one bytes
one_table_of by_demand (Some command.Check) told = λ bytes are. accepted_one bytes
one_table_of by_demand (Some command.Schedule) told = λ bytes are. accepted_one bytes
one_table_of by_demand (Some command.Explain) told = λ bytes are. accepted_one bytes
one_table_of by_demand (Some command.Demand) told = λ bytes are. demanded_one by_demand bytes
one_table_of by_demand (Some (command.Edit how)) told = λ bytes are. edited_one bytes
one_table_of by_demand (Some (command.Sample pieces name how)) told = λ text is. accepted_one text
