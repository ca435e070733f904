use Rattle.ftl_relayout.proofs.laws.Relaid.{runs_lay_out_anew}
use Rattle.ftl_relayout.proofs.laws.runs_lay_out_anew.Goals as goal

pub returns : goal.returns
returns c = record { runs = runs_lay_out_anew }
