use Rattle.std.proofs.Common.{rules, ℕ, ◌≡◌, ◌+◌, ◌*◌, ◌≤◌, ◌∙◌, min, max, ap, arith}
use Rattle.ftl_cells.specs.shared.Work.{item_total}
use Rattle.ftl_steal.specs.Workers.{steps_made}
use Rattle.ftl_steal.proofs.stage.run_stage.Goals as goal

pub returns-clause-given_up : goal.returns-clause-given_up
returns-clause-given_up g c =
    let items : c.items-items.result ≡ item_total (g.W.Meant.meaning c.args.cells.now.1) = search rules in
    let workers : c.min-workers.result
    ≡ min c.args.workers (max (item_total (g.W.Meant.meaning c.args.cells.now.1)) 1) =
    c.min-workers.ensures ∙ ap (min c.args.workers) (c.max.ensures ∙ ap (λ (x : ℕ). max x 1) items) in
    let least : steps_made c.gather.new.hand.state + 2 * c.min-workers.result ≤ steps_made c.give_up_all.result.state =
    search rules in
    omega (arith, workers, c.in_ok-members.ensures.steps, least)
