use Rattle.std.proofs.Common.{sym}
use Rattle.ftl_plan.proofs.plans.Bridge.{most_reads}
use Rattle.ftl_plan.proofs.plans.meant.StageWorkWork.max_reads.Goals as goal

pub returns : goal.returns
returns c = record { bound = sym (most_reads c.args.self.now) }
