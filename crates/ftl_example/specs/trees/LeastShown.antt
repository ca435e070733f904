-- A least tree that shows a pair.
use Rattle.std.specs.Prelude.{ℕ, ◌≤◌}
use Rattle.ftl_model.specs.layout.AttributeGrammar.{AttributeGrammar}
use Rattle.ftl_model.specs.layout.Solves.{Instance}
use Rattle.ftl_model.specs.layout.Tree.{Forest, size}
use Rattle.ftl_model.specs.layout.TreeOf.{IsTreeOf}
use Rattle.ftl_order.specs.orders.Pairs.{Pair}
use Rattle.ftl_example.specs.shows.Bare.{IsBare}
use Rattle.ftl_example.specs.shows.Examples.{ShowsPair}
use Rattle.ftl_example.specs.shows.Shows.{Shows}

-- the tree is of the grammar, has every input 0, shows the pair, and has no more nodes than any tree that does, and no
-- more than so many
pub record IsLeastShown (g : AttributeGrammar) (pair : Pair) (most : ℕ) (t : Forest) : Type 0 where
  pub tree : IsTreeOf g t
  pub bare : IsBare g t
  pub shows : (r w : Instance) × Shows g t pair r w
  pub fewest : (u : Forest) → ShowsPair g pair u → size t ≤ size u
  pub few : size t ≤ most
