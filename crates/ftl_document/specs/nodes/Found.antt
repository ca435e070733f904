-- What a walk over a document answers.
use Rattle.std.specs.Prelude.{◌≡◌, ◌≢◌, ◌≤◌, Option, Some, None, Result, Ok, Err}
use Rattle.ftl_model.specs.layout.Limits.{most_nodes}
use Rattle.ftl_document.specs.syntax.Rows.{DocumentRows, document_rows, rows_of_fields}
use Rattle.ftl_document.specs.syntax.Sizes.{node_count}
use Rattle.ftl_document.specs.syntax.Written.{WrittenNode}
use Rattle.ftl_document.specs.declared.faults.fault.DocFault.{DocFault}
use Rattle.ftl_document.specs.declared.faults.fault.DocFault.TheVariants as fault

-- success only where there is no fault, and else the fault, unless memory ran out
abbrev pub FindsFault : {A : Type 0} → Option DocFault → Result A DocFault → Type 0
FindsFault expected (Ok x) = expected ≡ None
FindsFault expected (Err e) = e ≢ fault.OutOfMemory → expected ≡ Some e

-- the rows are those of this document
abbrev pub AreRowsOf : WrittenNode → DocumentRows → Type 0
AreRowsOf node d = d ≡ document_rows node.class (rows_of_fields node.fields)

-- the rows are those of some document, with no more nodes than there may be
pub record IsWritten (d : DocumentRows) : Type 0 where
  pub node : WrittenNode
  pub is : AreRowsOf node d
  pub few : node_count node ≤ most_nodes
