use Rattle.std.proofs.Common.{arith}
use Rattle.std.proofs.lemmas.Grind.{common_steps}
use Rattle.ftl_edge.proofs.Reading.{ReadConsumes-copied}
use Rattle.ftl_edge.proofs.mem_source.MemSourceSource.read_some.Goals as goal

pub returns-clause-bytes : goal.returns-clause-bytes
returns-clause-bytes c =
    ReadConsumes-copied c.args.self.now.left _ c.args.room.now _ c.self.inside.chunk c.copy_front-count.result
    (grind arith) (grind (arith, common_steps)) (grind (arith, common_steps)) (grind (arith, common_steps))
