use Rattle.std.proofs.Common.{refl}
use Rattle.ftl_pool.specs.Count.{begins}
use Rattle.ftl_pool.proofs.count.Count.new.Goals as goal

pub of_words-requires : goal.of_words-requires
of_words-requires c = (0, refl, begins)
