use Rattle.std.proofs.Common.{rules, ◌≡◌, ◌<◌, length, get_or}
use Rattle.ftl_pool.specs.Pool.{StealHoldModel}
use Rattle.ftl_steal.proofs.Rounds.{puts_one}
use Rattle.ftl_steal.proofs.dealing.deal_to.Goals as goal

pub returns-clause-puts : goal.returns-clause-puts
returns-clause-puts g c =
    let old : StealHoldModel = c.index_mut.result.now in
    let is : old ≡ get_or c.args.holds.now.items c.args.worker old = search rules in
    let l : c.args.worker < length c.args.holds.now.items = search rules in
    puts_one (g.W.Meant.meaning c.args._work.now) c.args.pool.now c.args.item c.args.holds.now.items c.args.worker old
    c.put.new.hold l is c.put.ensures.puts
