use Rattle.std.proofs.Common.{◌<◌, List, ap, get_or, length, ◌∙◌, sym, subst}
use Rattle.ftl_cursors.specs.declared.items.columns.ItemRows.{ItemRows}
use Rattle.ftl_cursors.proofs.items.RowsByHost.{numbered_are}
use Rattle.ftl_cursors.proofs.items.by_host.TreeRows.numbered.Goals as goal

pub bounds-rows-number : goal.bounds-rows-number
bounds-rows-number c =
    subst (λ (rs : List ItemRows). c.args.number < length rs) (sym c.as_slice-rows.ensures.value) c.requires.known

pub returns : goal.returns
returns c =
    let s = c.args.self.now in
    let n = c.args.number in
    let r = c.index-rows-number.result in
    record {
      rows =
          numbered_are s n r s.fit c.requires.known
          (c.index-rows-number.is ∙ ap (λ (rs : List ItemRows). get_or rs n r) c.as_slice-rows.ensures.value);
    }
