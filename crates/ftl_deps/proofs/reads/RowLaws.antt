-- The rows of the table, by the rules that they are of.
use Rattle.std.proofs.Common.{◌≡◌, ℕ, zero, suc, List, [], ◌∷◌, map, get_or, Some, None, ◌∙◌, ap}
use Rattle.std.specs.List.{slice_get}
use Rattle.std.proofs.lemmas.Option.{none-some, same_Some}
use Rattle.ftl_order.specs.orders.Lawful.{class_of_rule}
use Rattle.ftl_order.specs.dependencies.DepReads.{rule_reads}
use Rattle.ftl_order.specs.dependencies.Writers.{first_writer}
use Rattle.ftl_deps.specs.reads.DepRows.{RowsAreOfRules, WritersAreFirst, rule_writers}

-- an entry of a list that is made of another
row_at : {X Y : Type 0} (f : X → Y) (xs : List X) (n : ℕ) (x : X) (d : Y) → slice_get xs n ≡ Some x
    → get_or (map f xs) n d ≡ f x
row_at f [] n x d is = absurd (none-some x is)
row_at f (y ∷ ys) zero x d is = ap f (same_Some y x is)
row_at f (y ∷ ys) (suc n) x d is = row_at f ys n x d is

pub rows_are : RowsAreOfRules
rows_are g r w at = row_at (rule_reads g) g.rules r w [] at

pub writers_are : WritersAreFirst
writers_are g r k w d at reads =
    ap (λ row. get_or row k None) (row_at (rule_writers g) g.rules r w [] at)
    ∙ row_at (first_writer g (class_of_rule w)) (rule_reads g w) k d None reads
