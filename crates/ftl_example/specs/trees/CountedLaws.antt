-- What is built by counted sizes.
use Rattle.std.specs.Prelude.{◌≡◌, ℕ, ◌<◌, Option, Some, List}
use Rattle.ftl_model.specs.layout.AttributeGrammar.{AttributeGrammar}
use Rattle.ftl_model.specs.layout.Tree.{Forest, none, tree}
use Rattle.ftl_order.specs.orders.Lawful.{IsLawful}
use Rattle.ftl_order.specs.orders.Pairs.{IsPair, Pair}
use Rattle.ftl_example.specs.declared.trees.tables.Tables.{Tables}
use Rattle.ftl_example.specs.shows.Bare.{bare_inputs}
use Rattle.ftl_example.specs.sizes.Place.{example_size}
use Rattle.ftl_example.specs.sizes.PlaceTable.{start_table, ways_after}
use Rattle.ftl_example.specs.sizes.SizeTable.{by_table, table_after}
use Rattle.ftl_example.specs.trees.CountedChoices.{choices_up_to}
use Rattle.ftl_example.specs.trees.ExampleTree.{Want, example_choices, way_tree}
use Rattle.ftl_example.specs.trees.Grown.{Choices, grown}

-- the last tables: of least sizes, of the place, and of ways to it
abbrev pub last_sizes : AttributeGrammar → (most : ℕ) → List (Option ℕ)
last_sizes g most = table_after g most g.interface_count

abbrev pub last_starts : AttributeGrammar → (most : ℕ) → Pair → List (Option ℕ)
last_starts g most pair = start_table g most pair (last_sizes g most)

abbrev pub last_ways : AttributeGrammar → (most : ℕ) → Pair → List (Option ℕ)
last_ways g most pair = ways_after g most (last_sizes g most) (last_starts g most pair) g.interface_count

-- the choices by them
abbrev pub table_choices : AttributeGrammar → (most : ℕ) → Pair → Choices Want
table_choices g most pair =
    choices_up_to most g pair (by_table (last_sizes g most)) (by_table (last_starts g most pair))
    (by_table (last_ways g most pair))

-- a tree of fewer nodes than the sizes are counted up to is built as by the sizes themselves
abbrev pub CountedTreesAreGrown : Type 0
CountedTreesAreGrown =
    (g : AttributeGrammar) (most : ℕ) (pair : Pair) (n : ℕ) → IsLawful g → IsPair g pair → example_size g pair ≡ Some n
    → n < most
    → grown g (table_choices g most pair) n way_tree g.root ≡ grown g (example_choices g pair) n way_tree g.root

-- the tree that is built for a pair whose least example has so many nodes
abbrev pub example_tree : AttributeGrammar → Pair → (nodes : ℕ) → Forest
example_tree g pair n =
    let node = grown g (example_choices g pair) n way_tree g.root in tree node.0 0 (bare_inputs g node.0) node.1 none

-- code's tables are the last ones
pub record AreLastTables (g : AttributeGrammar) (pair : Pair) (t : Tables) : Type 0 where
  pub sizes : t.sizes.items ≡ last_sizes g 513
  pub starts : t.starts.items ≡ last_starts g 513 pair
  pub ways : t.ways.items ≡ last_ways g 513 pair
