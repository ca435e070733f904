-- What is found by the rows of a kind is the list of this kind.
use Rattle.std.specs.Prelude.{ℕ, List}
use Rattle.ftl_model.specs.layout.AttributeGrammar.{AttributeGrammar}
use Rattle.ftl_order.specs.orders.Lawful.{IsLawful}
use Rattle.ftl_order.specs.orders.Schedule.{PassKind}
use Rattle.ftl_order.specs.automatic.Fitting.{IsListOf}
use Rattle.ftl_scheduler.specs.largest_sets.LargestList.{IsLargestList}
use Rattle.ftl_scheduler.specs.largest_sets.Rows.{Row}
use Rattle.ftl_scheduler.specs.declared.largest_sets.constraints.Constraints.{Constraints}
use Rattle.ftl_scheduler.specs.outcomes.ConstraintRows.{AreConstraintsOf, HasComputed, IsRowOf}

-- of a lawful grammar, by rows of what is computed and what is done
abbrev pub RowsGiveLists : Type 0
RowsGiveLists =
    (g : AttributeGrammar) (kind : PassKind) (n : Constraints) (all done_row : Row) (done list : List ℕ) → IsLawful g
    → AreConstraintsOf g kind n → HasComputed g all → IsRowOf done done_row → IsLargestList n all done_row list
    → IsListOf g kind done list
