use Rattle.std.proofs.Common.{◌≡◌, ◌++◌, string_bytes, length}
use Rattle.std.specs.Prelude.{IfSome}
use Rattle.ftl_tokens.specs.writing.Written.{text_of}
use Rattle.ftl_document.specs.faults.WrittenOf.{written_of}
use Rattle.ftl_document_printing.specs.text.DocumentText.{document_text}
use Rattle.ftl_document_printing.specs.trees.Left.{IsWriterPlace, left}
use Rattle.ftl_document_printing.proofs.trees.print.write_nodes.Given as goal

abbrev pub invariant-loop-next : goal.invariant-loop-next
invariant-loop-next l = record {
  rest : string_bytes l.out ++ text_of (left l.tree l.next)
      ≡ string_bytes l.fn.out ++ document_text (written_of l.tree.checked.grammar l.tree.tree);
  writer_place : IfSome l.next (IsWriterPlace l.tree);
}

abbrev pub decreases-loop-next : goal.decreases-loop-next
decreases-loop-next l = length (left l.tree l.next)
