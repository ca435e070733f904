-- What holds of circular vertices and of noncircular grammars.
use Rattle.std.specs.Prelude.{◌≡◌, ◌↔◌, ℕ, Bool, true}
use Rattle.ftl_model.specs.layout.AttributeGrammar.{AttributeGrammar}
use Rattle.ftl_model.specs.layout.Solves.{Instance, IsInstance}
use Rattle.ftl_model.specs.layout.Table.{instance_count}
use Rattle.ftl_model.specs.layout.Tree.{Forest}
use Rattle.ftl_model.specs.layout.TreeOf.{IsTreeOf}
use Rattle.ftl_order.specs.orders.Lawful.{IsLawful}
use Rattle.ftl_order.specs.orders.OneTable.{ExactlyOneList, ExactlyOneTable}
use Rattle.ftl_order.specs.orders.Reads.{EndsWithin}
use Rattle.ftl_noncircular.specs.grammars.FirstCircular.{IsDecided}
use Rattle.ftl_noncircular.specs.grammars.Noncircular.{Dependence, IsCircular, IsCircularIn, IsClosed, IsNoncircular}
use Rattle.ftl_noncircular.specs.grammars.Noncircular.{Vertex, family_of}

-- each chain of reads of a tree has fewer reads than the tree has instances
abbrev pub ChainsEnd : Type 0
ChainsEnd =
    (g : AttributeGrammar) (t : Forest) → IsLawful g → IsNoncircular g → IsTreeOf g t
    → (i : Instance) → IsInstance g t i → EndsWithin g t (instance_count g t) i

-- exactly one table solves each tree
abbrev pub OneTableWhereNoncircular : Type 0
OneTableWhereNoncircular =
    (g : AttributeGrammar) (t : Forest) → IsLawful g → IsNoncircular g → IsTreeOf g t → ExactlyOneTable g t

-- and one list of values
abbrev pub OneListWhereNoncircular : Type 0
OneListWhereNoncircular =
    (g : AttributeGrammar) (t : Forest) → IsLawful g → IsNoncircular g → IsTreeOf g t → ExactlyOneList g t

-- each grammar is noncircular, or has a first circular vertex
abbrev pub CirclesAreDecided : Type 0
CirclesAreDecided = (g : AttributeGrammar) → IsDecided g

-- each pair that the test tells is one of the least family
abbrev pub IsSound : AttributeGrammar → (ℕ → ℕ → Bool) → Type 0
IsSound g has = (a b : ℕ) → has a b ≡ true → Dependence g a b

-- a closed family that has no other pairs than the least one tells the same circular vertices
abbrev pub FoundDecides : Type 0
FoundDecides =
    (g : AttributeGrammar) (has : ℕ → ℕ → Bool) → IsSound g has → IsClosed g (family_of has)
    → (class : ℕ) (v : Vertex) → IsCircular g class v ↔ IsCircularIn g (family_of has) class v

-- the least closed family is closed
abbrev pub DependenceIsClosed : Type 0
DependenceIsClosed = (g : AttributeGrammar) → IsClosed g (Dependence g)
