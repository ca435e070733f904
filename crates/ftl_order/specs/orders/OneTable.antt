-- Exactly one table solves: some table does, and any two that do are equal.
use Rattle.std.specs.Prelude.{◌≡◌, ℕ, suc, List}
use Rattle.ftl_model.specs.layout.AttributeGrammar.{AttributeGrammar}
use Rattle.ftl_model.specs.layout.Solves.{Instance, IsInstance, Solves}
use Rattle.ftl_model.specs.layout.Table.{SolvesList}
use Rattle.ftl_model.specs.layout.Tree.{Forest}
use Rattle.ftl_model.specs.layout.TreeOf.{IsTreeOf}
use Rattle.ftl_model.specs.layout.Values.{Value}
use Rattle.ftl_order.specs.orders.Lawful.{IsLawful}
use Rattle.ftl_order.specs.orders.Reads.{FallsAlongReads, ReadsEnd}

-- some table solves, and any two that solve agree at each instance
pub record ExactlyOneTable (g : AttributeGrammar) (t : Forest) : Type 0 where
  pub some_solves : (s : Instance → Value) × Solves g t s
  pub any_two_agree :
      (r s : Instance → Value) → Solves g t r → Solves g t s → (i : Instance) → IsInstance g t i → r i ≡ s i

-- some list of values solves, and any two that solve are equal
pub record ExactlyOneList (g : AttributeGrammar) (t : Forest) : Type 0 where
  pub some_solves : (values : List Value) × SolvesList g t values
  pub any_two_equal : (xs ys : List Value) → SolvesList g t xs → SolvesList g t ys → xs ≡ ys

-- of a tree of a lawful grammar, where chains of reads end
abbrev pub OneTableWhereReadsEnd : Type 0
OneTableWhereReadsEnd =
    (g : AttributeGrammar) (t : Forest) → IsLawful g → IsTreeOf g t
    → (number : Instance → ℕ) → ReadsEnd g t number → ExactlyOneTable g t

-- and one list of values
abbrev pub OneListWhereReadsEnd : Type 0
OneListWhereReadsEnd =
    (g : AttributeGrammar) (t : Forest) → IsLawful g → IsTreeOf g t
    → (number : Instance → ℕ) → ReadsEnd g t number → ExactlyOneList g t

-- where a number falls along the reads, chains of reads end
abbrev pub ReadsEndByRank : Type 0
ReadsEndByRank =
    (g : AttributeGrammar) (t : Forest) → IsLawful g → IsTreeOf g t
    → (rank : Instance → ℕ) → FallsAlongReads g t rank → ReadsEnd g t (λ i. suc (rank i))
