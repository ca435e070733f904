use Rattle.ftl_model.specs.layout.Notes.{notes}
use Rattle.ftl_order.proofs.orders.NotesLawful.{notes_lawful}
use Rattle.ftl_order.proofs.orders.NotesOrders.{notes_ordered}
use Rattle.ftl_order.proofs.orders.notes.notes_are_lawful.Goals as goal

pub returns : goal.returns
returns c = record { lawful = notes_lawful; ordered = notes_ordered }
