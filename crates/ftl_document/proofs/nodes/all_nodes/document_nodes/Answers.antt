use Rattle.std.proofs.Common.{◌∙◌, sym, ap, ap₂, subst, List, length}
use Rattle.ftl_document.specs.syntax.Rows.{document_rows}
use Rattle.ftl_document.specs.syntax.Written.{NameText}
use Rattle.ftl_document.specs.declared.syntax.row.WrittenRow.{WrittenRow}
use Rattle.ftl_document.specs.nodes.Tables.{AreTables}
use Rattle.ftl_document.proofs.nodes.Whole.{whole_nodes}
use Rattle.ftl_document.proofs.nodes.all_nodes.document_nodes.Goals as goal

pub all-requires-clause-ready : goal.all-requires-clause-ready
all-requires-clause-ready c =
    record {
      lawful = c.in_ok-tables.ensures.lawful;
      tables = subst (AreTables c.args.checked.now.grammar) (sym c.as_slice.ensures.value)
          c.in_ok-tables.ensures.tables;
      count = ap length c.as_slice.ensures.value ∙ c.in_ok-tables.ensures.count;
    }

pub returns-clause-nodes : goal.returns-clause-nodes
returns-clause-nodes c node greatest is within =
    whole_nodes c.args.checked.now.grammar c.in_ok-tables.ensures.lawful c.args.document.now c.requires.written node is
    c.in_ok-progress.progress
    (c.in_ok-progress.ensures.exact node
    (ap₂ (λ (x : NameText) (ys : List WrittenRow). document_rows x ys) c.class.ensures.class c.rows.ensures.rows ∙ is))
    greatest within c.if-progress-gt-MOST_INSTANCES.false
