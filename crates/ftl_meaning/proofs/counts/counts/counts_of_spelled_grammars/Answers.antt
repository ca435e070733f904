use Rattle.ftl_meaning.proofs.counts.GrammarCounts.{small_counts}
use Rattle.ftl_meaning.proofs.counts.TokenCounts.{few_tokens}
use Rattle.ftl_meaning.proofs.faults.SpelledKinds.{spelled_kinds}
use Rattle.ftl_meaning.proofs.counts.counts.counts_of_spelled_grammars.Goals as goal

pub returns : goal.returns
returns c = record { spelled = small_counts; kinds = λ tokens g spelled. spelled_kinds spelled; tokens = few_tokens }
