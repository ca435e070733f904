use Rattle.ftl_noncircular.proofs.grammars.NoncircularTrees.{reads_end}
use Rattle.ftl_noncircular.proofs.grammars.laws.chains_of_reads_end.Goals as goal

pub returns : goal.returns
returns c = record { chains = λ g t law noncircular fits. reads_end g t law noncircular fits }
