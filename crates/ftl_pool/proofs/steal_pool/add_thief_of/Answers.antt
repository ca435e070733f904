use Rattle.std.proofs.Common.{rules, ◌≡◌, ◌<◌, ◌∙◌, ◌∷◌, [], ◌++◌, List, length, ap, get_or}
use Rattle.ftl_pool.specs.Pool.{StealHoldModel}
use Rattle.ftl_pool.specs.Deque.{ThiefModel, DequeName}
use Rattle.ftl_pool.proofs.Thieves.{own_stays, one_more, name_at, still_fresh}
use Rattle.ftl_pool.proofs.steal_pool.add_thief_of.Goals as goal

pub returns-clause-fresh : goal.returns-clause-fresh
returns-clause-fresh c =
    let old : StealHoldModel = c.index_mut.result.now in
    let is : old ≡ get_or c.args.holds.now.items c.args.worker old = search rules in
    let l : c.args.worker < length c.args.holds.now.items = search rules in
    still_fresh c.args.holds.now.items c.args.worker old c.add_thief.new.self l is c.args._count.now
    c.in_ok-thief.thief.deque c.in_ok-thief.thief.pass.taken c.requires.fresh c.in_ok-add_thief.ensures.hold
    c.in_ok-add_thief.ensures.others c.in_ok-add_thief.ensures.taken
    (ap (λ (t : ThiefModel). t.pass.taken) c.in_ok-thief.ensures.new)

pub returns-clause-own : goal.returns-clause-own
returns-clause-own c =
    let old : StealHoldModel = c.index_mut.result.now in
    let is : old ≡ get_or c.args.holds.now.items c.args.worker old = search rules in
    let l : c.args.worker < length c.args.holds.now.items = search rules in
    own_stays c.args.holds.now.items c.args.worker old c.add_thief.new.self l is c.in_ok-add_thief.ensures.own

-- the thief is one of the other hold's own deque
pub returns-clause-others : goal.returns-clause-others
returns-clause-others c =
    let old : StealHoldModel = c.index_mut.result.now in
    let is : old ≡ get_or c.args.holds.now.items c.args.worker old = search rules in
    let l : c.args.worker < length c.args.holds.now.items = search rules in
    let other : StealHoldModel = c.index.result.now in
    let other_is : other ≡ get_or c.args.holds.now.items c.args.other other = search rules in
    let other_l : c.args.other < length c.args.holds.now.items = search rules in
    let name : c.in_ok-thief.thief.deque ≡ other.own = ap (λ (t : ThiefModel). t.deque) c.in_ok-thief.ensures.new
    ∙ ap (λ (h : StealHoldModel). h.own) c.behind-holds.view_is in
    one_more c.args.holds.now.items c.args.worker old c.add_thief.new.self l is _
    (c.in_ok-add_thief.ensures.others
    ∙ ap (λ (x : List DequeName). old.others ++ x)
    (ap (λ (x : DequeName). x ∷ []) name ∙ name_at c.args.holds.now.items c.args.other other other_l other_is))
