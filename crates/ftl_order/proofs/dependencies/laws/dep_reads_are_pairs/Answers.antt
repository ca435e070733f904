use Rattle.ftl_order.specs.orders.Lawful.{class_of_rule}
use Rattle.ftl_order.proofs.dependencies.ReadsThere.{in_parts, of_parts}
use Rattle.ftl_order.proofs.dependencies.Writers.{sites_say, writers_are_rules, writers_of_pairs}
use Rattle.ftl_order.proofs.dependencies.laws.dep_reads_are_pairs.Goals as goal

pub returns : goal.returns
returns c = record {
  parts = λ x r. (in_parts x r, (λ h. of_parts x r h.0 h.1));
  sites = λ g w r law rule in_it. sites_say g law (class_of_rule w) r;
  writers = λ g w r law rule in_it. writers_of_pairs g law w r rule in_it;
  rules = λ g w r law rule in_it. writers_are_rules g law w r rule in_it;
}
