-- Under an ordered schedule exactly one table solves, and runs end in it; for values of any type.
use Rattle.std.proofs.Common.{◌≡◌, List, length, ◌<◌, ◌≢◌, suc}
use Rattle.ftl_model.specs.lists.Lists.{StandsBefore}
use Rattle.ftl_model.specs.layout.AttributeGrammar.{AttributeGrammar, input}
use Rattle.ftl_model.specs.layout.Solves.{Instance}
use Rattle.ftl_model.specs.layout.Table.{SolvesList, instance_count}
use Rattle.ftl_model.specs.layout.Tree.{Forest}
use Rattle.ftl_model.specs.layout.TreeOf.{IsTreeOf}
use Rattle.ftl_model.specs.layout.Values.{Value}
use Rattle.ftl_order.specs.orders.Lawful.{IsLawful}
use Rattle.ftl_order.specs.orders.LegalOrder.{HoldsInputs, IsLegalOrder, IsStep, MustPrecede, run}
use Rattle.ftl_order.specs.orders.OneTable.{ExactlyOneList, ExactlyOneTable}
use Rattle.ftl_order.specs.orders.Ordered.{EachPairOrdered}
use Rattle.ftl_order.specs.orders.Reads.{Reads}
use Rattle.ftl_order.specs.orders.Schedule.{Schedule, placing_of}
use Rattle.ftl_order.proofs.orders.LegalOrders.{order_by_number, order_by_number_legal, placing_of-one_kind, writer_before, writer_precedes}
use Rattle.ftl_order.proofs.orders.OneList.{one_list_by}
use Rattle.ftl_order.proofs.orders.OrderRank.{rank_falls, read_rank, step_rank, step_rises}
use Rattle.ftl_order.proofs.orders.Runs.{run_solves}
use Rattle.ftl_order.proofs.orders.TreeEquations.{one_table_by, reads_end_by}

module _ (g : AttributeGrammar) (s : Schedule) (t : Forest) (law : IsLawful g)
    (pairs : EachPairOrdered g (placing_of s))
    (fits : IsTreeOf g t) where
  rises : (i j : Instance) → IsStep g t i → MustPrecede g t s i j
      → step_rank g (placing_of s) t i < step_rank g (placing_of s) t j
  rises i j step first = step_rises g (placing_of s) t (placing_of-one_kind s) i j step.0 first

  pub precedes_under : (i j : Instance) → IsStep g t i → Reads g t i j → g.sort j.attribute ≢ input
      → MustPrecede g t s j i
  precedes_under = writer_precedes g (placing_of s) t law pairs fits

  pub order_under : (order : List Instance) × IsLegalOrder g t s order
  order_under = (
    order_by_number g t law fits (MustPrecede g t s) (step_rank g (placing_of s) t) rises,
    order_by_number_legal g t law fits (MustPrecede g t s) (step_rank g (placing_of s) t) rises,
  )

  pub writer_before_under : (order : List Instance) → IsLegalOrder g t s order → (i j : Instance) → IsStep g t i
      → Reads g t i j → g.sort j.attribute ≢ input → StandsBefore order j i
  writer_before_under =
      writer_before g t law fits (MustPrecede g t s) (step_rank g (placing_of s) t) rises precedes_under

  pub one_table_under : ExactlyOneTable g t
  one_table_under =
      one_table_by g law t fits (λ i. suc (read_rank g (placing_of s) t i))
      (reads_end_by g law t fits (read_rank g (placing_of s) t)
      (rank_falls g (placing_of s) t (placing_of-one_kind s) law pairs fits))

  pub one_list_under : ExactlyOneList g t
  one_list_under = one_list_by g law t fits one_table_under

  pub run_under : (order : List Instance) → IsLegalOrder g t s order
      → (values : List Value) → length values ≡ instance_count g t → HoldsInputs g t values
      → SolvesList g t (run g t order values)
  run_under order legal =
      run_solves g t law fits (MustPrecede g t s) (step_rank g (placing_of s) t) rises precedes_under
      one_table_under.some_solves.0 one_table_under.some_solves.1
      order legal
