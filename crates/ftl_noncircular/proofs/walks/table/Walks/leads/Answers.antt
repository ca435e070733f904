use Rattle.std.proofs.Common.{arith, get_or, length, true, ◌≡◌, ◌↔◌, ◌<◌, sym, ap, subst, ◌∙◌}
use Rattle.std.specs.FinSet as set
use Rattle.ftl_noncircular.specs.walks.WalkTables.{IsFrom}
use Rattle.lane_rows.proofs.Rows.{get_or-any}
use Rattle.ftl_noncircular.proofs.walks.LedRows.{exact_tells}
use Rattle.ftl_noncircular.proofs.walks.table.Walks.leads.Goals as goal

pub returns : goal.returns
returns c =
    let within : c.args.start < length c.self.inside.rows.items =
    omega (arith, c.self.invariant.count, c.requires.start, ap (λ w. length w.starts) c.self.view_is) in
    let tells =
    exact_tells c.self.inside.edges (get_or c.self.inside.starts.items c.args.start 0)
    (get_or c.self.inside.rows.items c.args.start set.empty) (c.self.invariant.each c.args.start within) c.args.to in
    let is : c.has.result ≡ set.contains (get_or c.self.inside.rows.items c.args.start set.empty) c.args.to =
    c.has.ensures.member
    ∙ ap (λ r. set.contains r c.args.to)
    (c.index.ensures ∙ get_or-any c.self.inside.rows.items c.args.start c.index.result.now set.empty within) in
    record {
      leads =
          subst (λ w. (c.has.result ≡ true) ↔ IsFrom w.edges (get_or w.starts c.args.start 0) c.args.to) c.self.view_is
          ((λ e. tells.0 (sym is ∙ e)), (λ h. is ∙ tells.1 h));
    }
