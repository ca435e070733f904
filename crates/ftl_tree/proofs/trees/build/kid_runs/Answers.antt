use Rattle.std.proofs.Common.{ap, subst, ◌∙◌, List, ℕ}
use Rattle.ftl_tree.specs.rows.KidRuns.{HasRuns}
use Rattle.ftl_tree.specs.rows.Rows.{sums_from}
use Rattle.ftl_tree.proofs.trees.build.kid_runs.Goals as goal

pub returns : goal.returns
returns c = record {
  runs = λ g t h.
      subst (λ (xs : List ℕ). HasRuns g t c.args.slots.now xs c.in_ok-kids.kids.items) c.deref-2.ensures.value
      (c.in_ok-kids.ensures.runs g t c.in_ok-counts.counts.items h (c.in_ok-counts.ensures.counts g t h)
      (c.deref-2.ensures.value ∙ c.in_ok-starts.ensures.sums ∙ ap (sums_from 0) c.deref.ensures.value));
  known = c.in_ok-kids.ensures.known;
}
