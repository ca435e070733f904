use Rattle.ftl_document.proofs.nodes.NextSteps.{row_within}
use Rattle.ftl_document.proofs.nodes.walk.Walk.step.Goals as goal

pub row_at-row-requires : goal.row_at-row-requires
row_at-row-requires c =
    let w = c.requires.walked in
    record {
      within = row_within c.args.self.now.checked.now.grammar w.node c.args.self.now.rows.now
          c.args.progress.now c.args.region c.requires.within w.walked;
    }
