use Rattle.ftl_page.proofs.sections.NeverMemory.{never_memory}
use Rattle.ftl_page.proofs.sections.laws.faults_are_of_pages.Goals as goal

pub returns : goal.returns
returns c = record { memory = never_memory }
