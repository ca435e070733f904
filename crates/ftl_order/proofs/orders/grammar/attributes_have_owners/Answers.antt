use Rattle.ftl_order.proofs.orders.Owners.{attribute_known, has_owner, one_owner, class_distinct}
use Rattle.ftl_order.proofs.orders.grammar.attributes_have_owners.Goals as goal

pub returns : goal.returns
returns c = record { known = attribute_known; owned = has_owner; one = one_owner; distinct = class_distinct }
