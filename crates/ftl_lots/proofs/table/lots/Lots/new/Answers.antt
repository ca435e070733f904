use Rattle.std.proofs.Common.{rules, arith, vec_len}
use Rattle.ftl_lots.proofs.table.Keeps.{opens}
use Rattle.ftl_lots.proofs.table.lots.Lots.new.Goals as goal

pub new-requires : goal.new-requires
new-requires g c =
    opens (g.F.FillLots.wanted c.args.filler.now) (vec_len c.args.parts) c.as_slice.result.now c.args.parts.items
    (search rules) (omega arith) (omega (arith, c.requires.count)) c.requires.begun
