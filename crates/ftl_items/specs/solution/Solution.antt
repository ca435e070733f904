-- The values that solve a tree, by rounds: each equation at once, again and again, from Overflow everywhere.
use Rattle.std.specs.Prelude.{◌≡◌, ℕ, zero, suc, List, map}
use Rattle.ftl_model.specs.layout.AttributeGrammar.{AttributeGrammar}
use Rattle.ftl_model.specs.layout.Solves.{Instance, equation_value}
use Rattle.ftl_model.specs.layout.Table.{SolvesList, instance_count, instances}
use Rattle.ftl_model.specs.layout.Tree.{Forest}
use Rattle.ftl_model.specs.layout.TreeOf.{IsTreeOf}
use Rattle.ftl_model.specs.layout.Values.{Value, overflow}
use Rattle.ftl_order.specs.orders.Lawful.{IsLawful}
use Rattle.ftl_order.specs.orders.Reads.{FallsAlongReads}
use Rattle.ftl_order.specs.orders.Schedule.{Schedule}

-- what the equations give for the values of a table
abbrev pub next_values : AttributeGrammar → Forest → (Instance → Value) → Instance → Value
next_values g t s i = equation_value g t s (g.sort i.attribute) i.node i.attribute

-- the values after so many rounds
abbrev pub values_after : AttributeGrammar → Forest → (rounds : ℕ) → Instance → Value
values_after g t zero = λ i. overflow
values_after g t (suc n) = next_values g t (values_after g t n)

-- the values of all instances, after as many rounds as there are instances
unfoldable pub solution : AttributeGrammar → Forest → List Value
solution g t = map (values_after g t (instance_count g t)) (instances g t)

-- these values solve, and no others do
pub record IsOnlySolution (g : AttributeGrammar) (t : Forest) (values : List Value) : Type 0 where
  pub solves : SolvesList g t values
  pub only : (others : List Value) → SolvesList g t others → others ≡ values

-- so do those after the rounds, under an ordered schedule
abbrev pub SolutionSolves : AttributeGrammar → Schedule → Forest → Type 0
SolutionSolves g s t = IsOnlySolution g t (solution g t)

-- and wherever a number falls along the reads
abbrev pub SolutionSolvesByRank : Type 0
SolutionSolvesByRank =
    (g : AttributeGrammar) (t : Forest) → IsLawful g → IsTreeOf g t
    → (rank : Instance → ℕ) → FallsAlongReads g t rank → IsOnlySolution g t (solution g t)
