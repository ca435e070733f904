use Rattle.std.proofs.Common.{subst, ap, ◌∙◌, ◌∷◌}
use Rattle.ftl_pool.specs.Pool.{StealHoldModel}
use Rattle.ftl_pool.specs.Deque.{TakesFromOne}
use Rattle.ftl_pool.proofs.Taking.{thieves_take, thieves_stay, by_thieves}
use Rattle.ftl_pool.proofs.steal_pool.StealHold.find_once.Goals as goal

-- the own deque gave nothing
pub returns-clause-taken : goal.returns-clause-taken
returns-clause-taken c =
    let took = thieves_take c.self.inside.own.taken c.pop.new.self.taken c.self.inside.thieves.items
    c.steal_once.new.thieves.items
    c.steal_once.result c.in_default.ensures.taken c.steal_once.ensures.taken in
    subst (λ (h : StealHoldModel). TakesFromOne h.taken c.steal_once.result
    (c.pop.new.self.taken ∷ by_thieves c.steal_once.new.thieves.items)) c.self.view_is took

-- no thief takes from another deque than before
pub returns-clause-deques : goal.returns-clause-deques
returns-clause-deques c =
    let own = c.in_default.ensures.deque ∙ ap (λ (h : StealHoldModel). h.own) c.self.view_is in
    let names = thieves_stay c.self.inside.thieves.items c.steal_once.new.thieves.items c.steal_once.result
    c.steal_once.ensures.taken in
    (own, names ∙ ap (λ (h : StealHoldModel). h.others) c.self.view_is)
