use Rattle.std.proofs.Common.{ℕ, ◌∙◌, ap, Option}
use Rattle.ftl_cursors.specs.items.StageItems.{tree_in}
use Rattle.ftl_cursors.specs.items.WholeTrees.{is_whole_at}
use Rattle.ftl_host_cursors.proofs.StageCuts.{whole_is}
use Rattle.ftl_host_cursors.proofs.laws.rows_cut_as_nests.Goals as goal

pub returns : goal.returns
returns c = record {
  cuts = λ rows nest host p.
      ap (λ (h : Option ℕ). is_whole_at h (tree_in rows) rows.grain p) host ∙ whole_is nest (tree_in rows) rows.grain p;
}
