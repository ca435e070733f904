use Rattle.ftl_building.proofs.building.Within.{closed_within, kid_within, list_within, node_within, number_within}
use Rattle.ftl_building.proofs.building.Within.{whole_within}
use Rattle.ftl_building.proofs.building.laws.numbers_stay_within.Goals as goal

pub returns-clause-number : goal.returns-clause-number
returns-clause-number c = number_within

pub returns-clause-node : goal.returns-clause-node
returns-clause-node c = node_within

pub returns-clause-list : goal.returns-clause-list
returns-clause-list c = list_within

pub returns-clause-kid : goal.returns-clause-kid
returns-clause-kid c = kid_within

pub returns-clause-closed : goal.returns-clause-closed
returns-clause-closed c = closed_within

pub returns-clause-rows : goal.returns-clause-rows
returns-clause-rows c = whole_within
