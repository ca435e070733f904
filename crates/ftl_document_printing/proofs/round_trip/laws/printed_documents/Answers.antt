use Rattle.ftl_document_printing.proofs.round_trip.ReadAgain.{read_again}
use Rattle.ftl_document_printing.proofs.round_trip.laws.printed_documents.Goals as goal

pub returns : goal.returns
returns c = record {
  read_back = read_again (record {
    spells = c.canonical_documents.ensures.spells;
    shallow = c.shallow_documents.ensures.shallow;
    opened = c.shallow_documents.ensures.opened;
    means = c.trees_are_written.ensures.tree;
    right = c.trees_are_written.ensures.right;
    within = c.trees_are_written.ensures.within;
    counts = c.faultless_documents_are_trees.ensures.instances;
  });
}
