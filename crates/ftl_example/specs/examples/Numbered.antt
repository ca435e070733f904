-- Examples by number: the pair of a schedule's first fault, and an example of it whose instances are numbers of its tree.
use Rattle.std.specs.Prelude.{◌≡◌, ℕ, List, map, Some}
use Rattle.ftl_model.specs.layout.AttributeGrammar.{AttributeGrammar}
use Rattle.ftl_model.specs.layout.Solves.{Instance}
use Rattle.ftl_model.specs.layout.Table.{instance_number}
use Rattle.ftl_model.specs.layout.Tree.{Forest}
use Rattle.ftl_order.specs.declared.faults.fault.VerifyFault.TheVariants.{Unordered}
use Rattle.ftl_order.specs.faults.FirstFault.{first_fault}
use Rattle.ftl_order.specs.orders.Lawful.{IsLawful}
use Rattle.ftl_order.specs.orders.Pairs.{Pair}
use Rattle.ftl_order.specs.orders.Schedule.{Schedule, placing_of}
use Rattle.ftl_example.specs.pairs.FirstPair.{IsPairOf}
use Rattle.ftl_example.specs.shows.Examples.{IsExample}

-- the pair of a schedule's first fault
abbrev pub IsFaultPair : AttributeGrammar → Schedule → Pair → Type 0
IsFaultPair g s pair =
    (reader writer : ℕ) × (first_fault g s ≡ Some (Unordered reader writer))
    × IsPairOf g (placing_of s) reader writer pair

-- there is only one
abbrev pub FaultPairsAreOne : Type 0
FaultPairsAreOne =
    (g : AttributeGrammar) (s : Schedule) (x y : Pair) → IsLawful g → IsFaultPair g s x → IsFaultPair g s y → x ≡ y

-- an example of a pair, its instances by number
pub record IsNumberedExample (g : AttributeGrammar) (s : Schedule) (pair : Pair) (t : Forest) (reader writer : ℕ)
    (order : List ℕ) : Type 0 where
  pub reading : Instance
  pub written : Instance
  pub steps : List Instance
  pub is : IsExample g s pair t reading written steps
  pub reader_is : reader ≡ instance_number g t reading
  pub writer_is : writer ≡ instance_number g t written
  pub order_is : order ≡ map (instance_number g t) steps
