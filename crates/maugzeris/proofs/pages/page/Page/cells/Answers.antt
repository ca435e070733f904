use Rattle.std.proofs.Common.{◌≡◌, ◌∙◌, ap, sym, subst, true, length, List}
use Rattle.ftl_deps.specs.reads.Meant.{meant}
use Rattle.ftl_model.specs.layout.Table.{SolvesList, instance_count}
use Rattle.ftl_model.specs.layout.Values.{Value}
use Rattle.maugzeris.specs.pages.PageState.{IsLaidOut, PageState, values_on}
use Rattle.maugzeris.proofs.pages.Values.{are_there, those_there}
use Rattle.maugzeris.proofs.pages.page.Page.cells.Goals as goal

pub returns : goal.returns
returns c =
    let x = c.self.inside in
    let solves : List Value → Type 0 = SolvesList (meant x.rules.now.checked) x.tree.tree in
    let laid : x.laid_out ≡ true =
    are_there x.laid_out x.values.items solves (subst IsLaidOut (sym c.self.view_is) c.requires.laid_out) in
    record {
      values =
          c.as_slice.ensures.value
          ∙ (sym (those_there x.laid_out x.values.items laid) ∙ ap values_on c.self.view_is);
      count =
          ap length c.as_slice.ensures.value
          ∙ ((c.self.invariant.solved laid).count
          ∙ ap (λ (p : PageState). instance_count (meant p.checked) p.tree) c.self.view_is);
    }
