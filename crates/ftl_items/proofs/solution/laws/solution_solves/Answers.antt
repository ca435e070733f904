use Rattle.ftl_order.specs.orders.Schedule.{placing_of}
use Rattle.ftl_order.proofs.orders.LegalOrders.{placing_of-one_kind}
use Rattle.ftl_order.proofs.orders.OrderRank.{rank_falls, read_rank}
use Rattle.ftl_items.proofs.solution.Rounds.{solution_solves_by}
use Rattle.ftl_items.proofs.solution.laws.solution_solves.Goals as goal

pub returns : goal.returns
returns c = record {
  ordered = λ g s t law ordered fits.
      solution_solves_by g law t fits (read_rank g (placing_of s) t)
      (rank_falls g (placing_of s) t (placing_of-one_kind s) law ordered.pairs fits);
  by_rank = λ g t law fits rank falls. solution_solves_by g law t fits rank falls;
}
