use Rattle.std.proofs.Common.{arith}
use Rattle.std.proofs.lemmas.Grind.{common_steps}
use Rattle.std.specs.Str.{bytes_eq}
use Rattle.ftl_checked.proofs.lookup.Seconds.{front_any}
use Rattle.ftl_checked.proofs.lookup.among.stands_before.Goals as goal

pub returns : goal.returns
returns c =
    let front = front_any (bytes_eq c.args.name.now) c.args.table.now c.args.place in
    grind (arith, common_steps)
