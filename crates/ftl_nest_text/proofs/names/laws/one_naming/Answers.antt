use Rattle.ftl_nest_text.proofs.names.OneNaming.{one_naming}
use Rattle.ftl_nest_text.proofs.names.laws.one_naming.Goals as goal

pub returns : goal.returns
returns c = record { one = one_naming }
