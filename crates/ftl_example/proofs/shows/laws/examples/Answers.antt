use Rattle.ftl_order.specs.orders.Schedule.{placing_of}
use Rattle.ftl_example.proofs.shows.BySize.{by_size}
use Rattle.ftl_example.proofs.shows.ShownRead.{shown_read}
use Rattle.ftl_example.proofs.shows.ShownRows.{shown_ordered}
use Rattle.ftl_example.proofs.shows.laws.examples.Goals as goal

pub returns : goal.returns
returns c = record {
  read = λ g t pair r w is shows. shown_read g t pair is r w shows;
  ordered = λ g s t pair r w law fits is shows first. shown_ordered g law (placing_of s) t fits pair r w is shows first;
  by_size = λ g s pair most law is unordered. by_size g s law pair most is unordered;
}
