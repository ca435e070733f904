use Rattle.std.proofs.Common.{◌≡◌, ◌+◌, ap, sym, ◌∙◌, subst, arith, length, length-append, [], ◌∷◌, ◌++◌}
use Rattle.ftl_relayout.specs.readers.Tables.{HasNone}
use Rattle.ftl_relayout.proofs.readers.AllReaders.{none_more}
use Rattle.ftl_relayout.proofs.readers.table.no_readers.Goals as goal

pub loop-list-preserved : goal.loop-list-preserved
loop-list-preserved c =
    let now : c.push.new.self.items ≡ c.loop-list.lists.items ++ [] ∷ [] =
    c.in_ok-push.ensures.items ∙ ap (λ x. c.loop-list.lists.items ++ x ∷ []) c.new.ensures in
    let long = c.loop-list.invariant.long in
    record {
      long =
          ap length now
          ∙ (let sum = length-append c.loop-list.lists.items ([] ∷ []) in
          let z : length (c.loop-list.lists.items ++ [] ∷ []) ≡ c.loop-list._list + 1 = omega (arith, sum, long) in
          z);
      none = subst HasNone (sym now) (none_more c.loop-list.lists.items c.loop-list.invariant.none);
    }
