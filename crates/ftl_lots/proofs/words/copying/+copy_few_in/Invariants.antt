use Rattle.std.proofs.Common.{length}
use Rattle.ftl_lots.proofs.words.copying.+copy_few_in.Given as goal

abbrev pub decreases-copy_few_in : goal.decreases-copy_few_in
decreases-copy_few_in l = length l.parts.now
