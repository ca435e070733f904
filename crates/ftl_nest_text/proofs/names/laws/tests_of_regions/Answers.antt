use Rattle.ftl_nest_text.proofs.names.TestLaws.{tests_tell}
use Rattle.ftl_nest_text.proofs.names.laws.tests_of_regions.Goals as goal

pub returns : goal.returns
returns c = record { told = tests_tell }
