use Rattle.std.proofs.Common.{ap, ◌∙◌, ◌||◌}
use Rattle.std.specs.Cmp.{nat_cmp_total}
use Rattle.std.specs.FinSet as set
use Rattle.ftl_scheduler.proofs.largest_sets.largest_list.copy_of.Goals as goal

-- the union of none and a row
pub returns : goal.returns
returns c = record {
  same = set.same_set nat_cmp_total set.nat_cmp-IsAntisymmetric c.union_into.new.self c.args.row.now (λ a.
      ap (λ r. set.contains r a) c.union_into.ensures.joined
      ∙ set.contains-union nat_cmp_total c.empty-copy.result c.args.row.now a
      ∙ ap (λ r. set.contains r a || set.contains c.args.row.now a) c.empty-copy.ensures.none
      ∙ ap (λ t. t || set.contains c.args.row.now a) (set.contains-empty _ a));
}
