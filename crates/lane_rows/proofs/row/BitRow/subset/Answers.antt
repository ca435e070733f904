use Rattle.std.proofs.Common.{◌∙◌, sym, ap, not}
use Rattle.std.proofs.lemmas.Bool.{not-false}
use Rattle.lane_rows.proofs.Lowest.{tells_subset}
use Rattle.lane_rows.proofs.row.BitRow.subset.Goals as goal

pub returns : goal.returns
returns c = record {
  within =
      let none = c.first_missing.ensures.none in
      tells_subset c.is_none.result c.args.self.now c.args.other.now
      (λ e. none.0 (c.is_none.ensures ∙ ap not e)) (λ e. not-false c.is_none.result (sym c.is_none.ensures ∙ none.1 e));
}
