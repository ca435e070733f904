-- What is to be built, as code has it.
use Rattle.std.specs.Prelude.{ℕ, List, [], ◌∷◌}
use Rattle.ftl_model.specs.layout.AttributeGrammar.{AttributeGrammar}
use Rattle.ftl_model.specs.layout.Tree.{Forest}
use Rattle.ftl_order.specs.orders.Pairs.{Pair}
use Rattle.ftl_example.specs.sizes.SizeTable.{by_table}
use Rattle.ftl_example.specs.trees.CountedChoices.{choices_up_to}
use Rattle.ftl_example.specs.trees.ExampleTree.{Want, any_tree, class_tree, place_tree, reader_tree, way_tree}
use Rattle.ftl_example.specs.trees.Grown.{Choices, grown}
use Rattle.ftl_example.specs.declared.trees.tables.Tables.{Tables}
use Rattle.ftl_example.specs.declared.trees.want.Want as code_want
use Rattle.ftl_example.specs.declared.trees.want.Want.TheVariants as want
use Rattle.ftl_example.specs.declared.trees.want.Wants.{Wants}
use Rattle.ftl_example.specs.declared.trees.want.Wants.TheVariants as wants

-- what code calls so
abbrev pub want_meant : code_want.Want → Want
want_meant want.AnyTree = any_tree
want_meant (want.ClassTree k) = class_tree k
want_meant want.ReaderTree = reader_tree
want_meant want.PlaceTree = place_tree
want_meant want.WayTree = way_tree

-- what is wanted in a child
abbrev pub wants_meant : Wants → List Want
wants_meant wants.Nothing = []
wants_meant (wants.One x) = want_meant x ∷ []
wants_meant (wants.Two x y) = want_meant x ∷ want_meant y ∷ []

-- the choices by these tables
abbrev pub choices_of : AttributeGrammar → Pair → Tables → Choices Want
choices_of g pair t = choices_up_to 513 g pair (by_table t.sizes.items) (by_table t.starts.items) (by_table t.ways.items)

-- the tree that is built by them, at most so many steps deep
abbrev pub built : AttributeGrammar → Pair → Tables → (steps : ℕ) → Want → (interface : ℕ) → ℕ × Forest
built g pair t steps w i = grown g (choices_of g pair t) steps w i
