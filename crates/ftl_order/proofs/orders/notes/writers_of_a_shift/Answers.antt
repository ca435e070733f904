use Rattle.ftl_model.specs.layout.Notes.{notes}
use Rattle.ftl_order.proofs.orders.NotesOrders.{shift_writer}
use Rattle.ftl_order.proofs.orders.notes.writers_of_a_shift.Goals as goal

pub returns : goal.returns
returns c = record { shift = shift_writer }
