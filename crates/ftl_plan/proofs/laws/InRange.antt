-- The values of the solution are in range.
use Rattle.std.proofs.Common.{ℕ, suc, ◌<◌, ◌≤◌, subst, ⊎_elim, arith, get_or}
use Rattle.std.proofs.lemmas.Int.{ints}
use Rattle.ftl_model.specs.layout.AttributeGrammar.{AttributeGrammar}
use Rattle.ftl_model.specs.layout.Table.{instance_count, instances, value_in}
use Rattle.ftl_model.specs.layout.Tree.{Forest}
use Rattle.ftl_model.specs.layout.TreeOf.{IsTreeOf}
use Rattle.ftl_model.specs.layout.Values.{IsValue, IsValueIn, Value, number, overflow, wide}
use Rattle.ftl_items.specs.stage_items.StageWork.{no_instance}
use Rattle.ftl_order.specs.orders.GrammarLaws.{TablesAreInRange}
use Rattle.ftl_order.specs.orders.Lawful.{IsLawful}
use Rattle.ftl_order.specs.orders.OneTable.{ReadsEndByRank}
use Rattle.ftl_order.specs.orders.Ordered.{IsOrdered}
use Rattle.ftl_order.specs.orders.Schedule.{Schedule, placing_of}
use Rattle.ftl_order.proofs.orders.Instances.{instance_here}
use Rattle.ftl_order.proofs.orders.LegalOrders.{placing_of-one_kind}
use Rattle.ftl_order.proofs.orders.OrderRank.{rank_falls, read_rank}
use Rattle.ftl_items.specs.solution.Solution.{IsOnlySolution, solution}

in_wide : (greatest : ℕ) (v : Value) → greatest ≤ wide → IsValueIn greatest v → IsValue v
in_wide greatest (number n) most h =
    ((let low = h.0 in omega (arith, ints, low, most)), (let high = h.1 in omega (arith, ints, high, most)))
in_wide greatest overflow most h = tt

greatest_is : (g : AttributeGrammar) → IsLawful g → g.greatest ≤ wide
greatest_is g law =
    ⊎_elim (λ e. let z : g.greatest ≤ wide = omega (arith, e) in z)
    (λ e. let z : g.greatest ≤ wide = omega (arith, e) in z) law.width

module _ (g : AttributeGrammar) (s : Schedule) (t : Forest) (law : IsLawful g) (ordered : IsOrdered g s)
    (fits : IsTreeOf g t) where
  pub in_range : TablesAreInRange g → ReadsEndByRank → IsOnlySolution g t (solution g t)
      → (c : ℕ) → c < instance_count g t → IsValue (get_or (solution g t) c overflow)
  in_range tables ends only c below =
      let i = get_or (instances g t) c no_instance in
      let here = instance_here g t law fits c no_instance below in
      let rank = read_rank g (placing_of s) t in
      let end = ends g t law fits rank
      (rank_falls g (placing_of s) t (placing_of-one_kind s) law ordered.pairs fits) in
      let range : IsValueIn g.greatest (value_in g t (solution g t) i) =
      tables t fits (λ j. suc (rank j)) end (value_in g t (solution g t)) only.solves.solves i here.0 in
      in_wide g.greatest (get_or (solution g t) c overflow) (greatest_is g law)
      (subst (λ n. IsValueIn g.greatest (get_or (solution g t) n overflow)) here.1 range)
