use Rattle.ftl_model.proofs.lists.Sorted.{in_sorted, sorted_has, distinct-sorted, none_falls-sorted}
use Rattle.ftl_model.proofs.lists.laws.sorted_lists.Goals as goal

pub returns : goal.returns
returns c = record {
  same = sorted_has (λ n. n);
  no_more = in_sorted (λ n. n);
  order = none_falls-sorted (λ n. n);
  distinct = distinct-sorted (λ n. n);
}
