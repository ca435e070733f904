use Rattle.std.proofs.Common.{length}
use Rattle.ftl_lots.proofs.words.copying.+copy_few_out.Given as goal

abbrev pub decreases-copy_few_out : goal.decreases-copy_few_out
decreases-copy_few_out l = length l.parts.now
