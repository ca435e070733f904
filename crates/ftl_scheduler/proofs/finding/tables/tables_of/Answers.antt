use Rattle.ftl_order.specs.orders.Schedule.{bottomup, inorder, topdown}
use Rattle.ftl_deps.specs.reads.Meant.{meant}
use Rattle.ftl_scheduler.proofs.finding.Entering.{are_constraints}
use Rattle.ftl_scheduler.proofs.finding.Targets.{sized, whole}
use Rattle.ftl_scheduler.proofs.finding.tables.tables_of.Goals as goal

pub returns-clause-tables : goal.returns-clause-tables
returns-clause-tables c =
    let g = meant c.args.checked.now in
    record {
      down = are_constraints g topdown c.in_ok-constraints_of_kind.field-0 c.in_ok-constraints_of_kind.ensures.entered;
      up = are_constraints g bottomup c.in_ok-constraints_of_kind-2.field-0 c.in_ok-constraints_of_kind-2.ensures.entered;
      in_order = are_constraints g inorder c.in_ok-constraints_of_kind-3.field-0 c.in_ok-constraints_of_kind-3.ensures.entered;
    }

pub returns-clause-usable : goal.returns-clause-usable
returns-clause-usable c =
    let checked = c.args.checked.now in
    let none = c.grammar.ensures.lawful in
    let kinds = c.grammar.ensures.kinds in
    let all = c.computed_row.result in
    let has = c.computed_row.ensures.computed in
    let down = c.in_ok-constraints_of_kind.ensures.entered in
    let up = c.in_ok-constraints_of_kind-2.ensures.entered in
    let in_order = c.in_ok-constraints_of_kind-3.ensures.entered in
    record {
      down_sized = sized checked none kinds topdown c.in_ok-constraints_of_kind.field-0 all down has;
      down_whole = whole checked none kinds topdown c.in_ok-constraints_of_kind.field-0 all down has;
      up_sized = sized checked none kinds bottomup c.in_ok-constraints_of_kind-2.field-0 all up has;
      up_whole = whole checked none kinds bottomup c.in_ok-constraints_of_kind-2.field-0 all up has;
      in_order_sized = sized checked none kinds inorder c.in_ok-constraints_of_kind-3.field-0 all in_order has;
      in_order_whole = whole checked none kinds inorder c.in_ok-constraints_of_kind-3.field-0 all in_order has;
    }
