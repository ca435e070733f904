-- The least sizes of trees of all interfaces, as a table for each round.
use Rattle.std.specs.Prelude.{◌≡◌, ◌<◌, ℕ, zero, suc, Option, None, List, map, replicate, slice_index_or}
use Rattle.std.specs.List.{range_with_len}
use Rattle.ftl_model.specs.layout.AttributeGrammar.{AttributeGrammar}
use Rattle.ftl_order.specs.orders.Lawful.{IsLawful}
use Rattle.ftl_example.specs.sizes.Least.{best_up_to, least_up_to}

-- the size of an interface by a table; none past the end
abbrev pub by_table : List (Option ℕ) → ℕ → Option ℕ
by_table sizes i = slice_index_or sizes i None

-- one round more
abbrev pub next_table : AttributeGrammar → (most : ℕ) → List (Option ℕ) → List (Option ℕ)
next_table g most sizes =
    map (λ i. best_up_to most g (by_table sizes) i g.class_count) (range_with_len 0 g.interface_count)

-- the table after so many rounds
abbrev pub table_after : AttributeGrammar → (most rounds : ℕ) → List (Option ℕ)
table_after g most zero = replicate g.interface_count None
table_after g most (suc k) = next_table g most (table_after g most k)

-- the tables have the sizes of the rounds
abbrev pub TablesAreSizes : Type 0
TablesAreSizes =
    (g : AttributeGrammar) (most k i : ℕ) → IsLawful g → i < g.interface_count
    → by_table (table_after g most k) i ≡ least_up_to most g k i
