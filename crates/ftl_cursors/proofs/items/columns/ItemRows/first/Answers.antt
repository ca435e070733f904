use Rattle.std.proofs.Common.{◌≡◌, ◌<◌, ◌-◌, get_or, length, ap, sym, subst, ◌∙◌, arith}
use Rattle.ftl_model.specs.layout.Path.{number_of, top}
use Rattle.ftl_schedule.specs.declared.syntax.kind.PassKind.{PassKind}
use Rattle.ftl_cursors.specs.items.RowsCut.{is_whole_in}
use Rattle.ftl_cursors.specs.items.StageItems.{tops_of, tree_in}
use Rattle.ftl_cursors.proofs.items.RowFacts.{first_up}
use Rattle.ftl_cursors.proofs.items.columns.ItemRows.first.Goals as goal

pub returns-in-BottomUp : goal.returns-in-BottomUp
returns-in-BottomUp c =
    let s = c.args.self.now in
    let kind = c.in-BottomUp.is in
    let read : c.index-in-BottomUp.result.now
    ≡ get_or s.firsts.items (c.len.result - 1 - c.args.item) c.index-in-BottomUp.result.now =
    c.index-in-BottomUp.ensures in
    let count : c.len.result ≡ length s.firsts.items = omega (arith, c.len.ensures) in
    record {
      first =
          read
          ∙ ap (λ n. get_or s.firsts.items (n - 1 - c.args.item) c.index-in-BottomUp.result.now) count
          ∙ first_up (is_whole_in s) s.tree.now.tree s.firsts.items s.before.items s.fit c.args.item
          c.index-in-BottomUp.result.now
          (subst (λ (k : PassKind). c.args.item < length (tops_of s k)) kind c.requires.item)
          ∙ ap (λ (k : PassKind). number_of (tree_in s) (get_or (tops_of s k) c.args.item top)) (sym kind);
    }
