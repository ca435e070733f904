use Rattle.ftl_document_printing.proofs.round_trip.ReadAgain.{Laws}
use Rattle.ftl_document_printing.proofs.round_trip.ReadNames.{names_are_said}
use Rattle.ftl_document_printing.proofs.round_trip.ReadTrees.{read_is_printable, read_is_read_back}
use Rattle.ftl_document_printing.proofs.round_trip.laws.read_documents.Goals as goal

pub returns : goal.returns
returns c =
    let laws : Laws = record {
      spells = c.canonical_documents.ensures.spells;
      shallow = c.shallow_documents.ensures.shallow;
      opened = c.shallow_documents.ensures.opened;
      means = c.trees_are_written.ensures.tree;
      right = c.trees_are_written.ensures.right;
      within = c.trees_are_written.ensures.within;
      counts = c.faultless_documents_are_trees.ensures.instances;
    } in
    record {
      printable = read_is_printable laws;
      said = names_are_said;
      read_back = read_is_read_back laws;
    }
