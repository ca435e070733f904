use Rattle.std.proofs.Common.{rules, ◌≤◌, ap, vec_capacity}
use Rattle.ftl_cells.specs.shared.Work.{item_total}
use Rattle.ftl_cells.specs.shared.State.{HandState}
use Rattle.ftl_steal.proofs.Members.{is_idle}
use Rattle.ftl_steal.proofs.stage.equip.Goals as goal

-- its hand is new, so all that its hold has put was dealt to it
pub returns-clause-member : goal.returns-clause-member
returns-clause-member g c =
    let m = g.W.Meant.meaning c.args.cells.now.1 in
    let reads : m.max_reads ≤ vec_capacity c.in_ok-reads.reads = search rules in
    let stack : m.max_stack ≤ c.in_ok-stack.stack.room = search rules in
    is_idle m c.args.cells.now.0 c.args._pool.now (item_total m) c.new-2.result _ c.new-2.ensures c.another.ensures.made
    (ap (λ (v : HandState). v.place) c.another.ensures.new) (ap (λ (v : HandState). v.released) c.another.ensures.new)
    c.requires.free reads stack
