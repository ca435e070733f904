use Rattle.ftl_order.proofs.worked.WorkedOrders.{sheet_first_illegal, without_y_illegal, x_first_legal, y_first_legal}
use Rattle.ftl_order.proofs.worked.worked.legal_orders_of_an_empty_column.Goals as goal

pub returns : goal.returns
returns c = record { x_first = x_first_legal; y_first = y_first_legal; sheet_first = sheet_first_illegal; without_y = without_y_illegal }
