-- The least sizes of the place of a pair, and of ways to it, as tables.
use Rattle.std.specs.Prelude.{◌≡◌, ℕ, zero, suc, ◌<◌, Option, List, map}
use Rattle.std.specs.List.{range_with_len}
use Rattle.ftl_model.specs.layout.AttributeGrammar.{AttributeGrammar}
use Rattle.ftl_order.specs.orders.Lawful.{IsLawful}
use Rattle.ftl_order.specs.orders.Pairs.{IsPair, Pair}
use Rattle.ftl_example.specs.pairs.PairMeant.{GoesOver}
use Rattle.ftl_example.specs.declared.pairs.refused_pair.RefusedPair.{RefusedPair}
use Rattle.ftl_example.specs.sizes.Least.{capped, lesser}
use Rattle.ftl_example.specs.sizes.Limited.{best_way_up_to, place_size_up_to}
use Rattle.ftl_example.specs.sizes.Place.{example_size}
use Rattle.ftl_example.specs.sizes.SizeTable.{by_table, table_after}

-- the classes of both rules are there, and the part goes over the child that the pair says
pub record IsKnownPair (g : AttributeGrammar) (p : RefusedPair) : Type 0 where
  pub reader : p.reader.class < g.class_count
  pub writer : p.writer.class < g.class_count
  pub over : GoesOver g p

-- the least size of the place as a node of each interface, by the least sizes
abbrev pub start_table : AttributeGrammar → (most : ℕ) → Pair → (sizes : List (Option ℕ)) → List (Option ℕ)
start_table g most pair sizes =
    map (λ i. place_size_up_to most g (by_table sizes) pair.runs_at pair i) (range_with_len 0 g.interface_count)

-- one round more of the ways
abbrev pub next_ways : AttributeGrammar → (most : ℕ) → (sizes starts next : List (Option ℕ)) → List (Option ℕ)
next_ways g most sizes starts next =
    map (λ i. lesser (by_table starts i) (best_way_up_to most g (by_table sizes) (by_table next) i g.class_count))
    (range_with_len 0 g.interface_count)

-- the ways after so many rounds
abbrev pub ways_after : AttributeGrammar → (most : ℕ) → (sizes starts : List (Option ℕ)) → (rounds : ℕ)
    → List (Option ℕ)
ways_after g most sizes starts zero = starts
ways_after g most sizes starts (suc k) = next_ways g most sizes starts (ways_after g most sizes starts k)

-- the last table has the size of a least tree that shows the pair, counted up to a number
abbrev pub TablesShowExamples : Type 0
TablesShowExamples =
    (g : AttributeGrammar) (most : ℕ) (pair : Pair) → IsLawful g → IsPair g pair
    → by_table
    (ways_after g most (table_after g most g.interface_count) (start_table g most pair (table_after g most g.interface_count))
    g.interface_count) g.root
    ≡ capped most (example_size g pair)
