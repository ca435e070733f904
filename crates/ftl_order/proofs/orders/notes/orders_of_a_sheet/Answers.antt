use Rattle.ftl_model.specs.layout.Notes.{notes}
use Rattle.ftl_order.proofs.orders.NotesOrders.{notes_order_legal, size_twice_illegal}
use Rattle.ftl_order.proofs.orders.notes.orders_of_a_sheet.Goals as goal

pub returns : goal.returns
returns c = record { legal = notes_order_legal; twice = size_twice_illegal }
