use Rattle.std.proofs.Common.{◌≡◌, get_or}
use Rattle.ftl_noncircular.specs.search.Tables.{IsTable}
use Rattle.ftl_noncircular.proofs.search.class_walks.starts_of.Given as goal

abbrev pub invariant-loop-attr : goal.invariant-loop-attr
invariant-loop-attr g l =
    IsTable (λ j x. x ≡ get_or l.shape.places (get_or l.attrs j 0) 0) 0 l.attr-index l.starts.items
