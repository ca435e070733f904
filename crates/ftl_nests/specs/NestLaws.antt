-- What holds of regions and hosts, and what an ordered schedule with nests gives.
use Rattle.std.specs.Prelude.{◌≡◌, ◌≢◌, ◌↔◌, ℕ, ◌<◌, Bool, true, None, Some, List, length}
use Rattle.ftl_model.specs.layout.AttributeGrammar.{AttributeGrammar, input}
use Rattle.ftl_model.specs.layout.Path.{Above, AtOrAbove, Has, Path, class_at}
use Rattle.ftl_model.specs.layout.Solves.{Instance}
use Rattle.ftl_model.specs.layout.Table.{SolvesList, instance_count}
use Rattle.ftl_model.specs.layout.Tree.{Forest}
use Rattle.ftl_model.specs.layout.TreeOf.{IsTreeOf}
use Rattle.ftl_model.specs.layout.Values.{Value}
use Rattle.ftl_model.specs.lists.Lists.{StandsBefore}
use Rattle.ftl_order.specs.orders.Lawful.{IsLawful}
use Rattle.ftl_order.specs.orders.LegalOrder.{HoldsInputs, IsLegalBy, IsLegalOrder, IsStep, MustPrecede, run, turn_of}
use Rattle.ftl_order.specs.orders.OneTable.{ExactlyOneTable}
use Rattle.ftl_order.specs.orders.Ordered.{IsOrdered}
use Rattle.ftl_order.specs.orders.Reads.{Reads}
use Rattle.ftl_order.specs.orders.Schedule.{IsOnePass, Schedule, bottomup, inorder, placing_of, topdown}
use Rattle.ftl_order.specs.orders.Sequence.{sequence_at}
use Rattle.ftl_items.specs.stage_items.Items.{pass_place}
use Rattle.ftl_nests.specs.Flat.{flat_schedule, plain}
use Rattle.ftl_nests.specs.Hosted.{IsHost, MustPrecedeWithNests, PrecedesDirectlyWithNests}
use Rattle.ftl_nests.specs.Nests.{IsNestOrdered, NestingSchedule, home_pass, inner_stages, nest_placing_of}
use Rattle.ftl_nests.specs.Region.{HasChildOf, InRegion, IsClosed}

-- these interfaces have those of the host's children, and with an interface those of the children of its classes
pub record IsRegionSet (g : AttributeGrammar) (host : ℕ) (In : ℕ → Type 0) : Type 0 where
  pub of_host : (i : ℕ) → HasChildOf g host i → In i
  pub of_classes : (class i : ℕ) → class < g.class_count → In (g.interface class) → HasChildOf g class i → In i

-- the region is such a set
abbrev pub RegionIsSet : Type 0
RegionIsSet = (g : AttributeGrammar) (host : ℕ) → IsRegionSet g host (InRegion g host)

-- and lies in each that a test decides
abbrev pub RegionIsLeast : Type 0
RegionIsLeast =
    (g : AttributeGrammar) (host : ℕ) (test : ℕ → Bool) → IsRegionSet g host (λ i. test i ≡ true)
    → (i : ℕ) → InRegion g host i → test i ≡ true

-- ---- hosts

-- of each tree, and each host class whose nests are closed
abbrev pub OfClosed : (AttributeGrammar → (host : ℕ) → Forest → Type 0) → Type 0
OfClosed P = (g : AttributeGrammar) (host : ℕ) (t : Forest) → IsClosed g host → IsTreeOf g t → P g host t

-- the node is below a node of this class
abbrev pub IsBelowHost : Forest → (class : ℕ) → Path → Type 0
IsBelowHost t class p = (h : Path) × Has t h × (class_at t h ≡ class) × Above h p

-- the nodes of the region are those below a node of the host class
abbrev pub RegionNodesAreBelowHosts : AttributeGrammar → (host : ℕ) → Forest → Type 0
RegionNodesAreBelowHosts g host t =
    (p : Path) → Has t p → InRegion g host (g.interface (class_at t p)) ↔ IsBelowHost t host p

-- no node has two hosts
abbrev pub HostsAreOne : AttributeGrammar → (host : ℕ) → Forest → Type 0
HostsAreOne g host t = (h m p : Path) → IsHost t host h p → IsHost t host m p → h ≡ m

-- ---- under an ordered schedule with nests, on each tree of a lawful grammar

abbrev pub UnderNests : (AttributeGrammar → NestingSchedule → Forest → Type 0) → Type 0
UnderNests P =
    (g : AttributeGrammar) (s : NestingSchedule) (t : Forest) → IsLawful g → IsNestOrdered g s → IsTreeOf g t → P g s t

-- a step that stands in a nest has exactly one host
abbrev pub HostedStepsHaveOneHost : AttributeGrammar → NestingSchedule → Forest → Type 0
HostedStepsHaveOneHost g s t =
    (i : Instance) (class : ℕ) → IsStep g t i → (nest_placing_of s).host i.attribute ≡ Some class
    → (h : Path) × IsHost t class h (turn_of g i).visit
    × ((m : Path) → IsHost t class m (turn_of g i).visit → m ≡ h)

-- what a step reads, unless an input, stands directly before it
abbrev pub WritersPrecedeDirectly : AttributeGrammar → NestingSchedule → Forest → Type 0
WritersPrecedeDirectly g s t =
    (i j : Instance) → IsStep g t i → Reads g t i j → g.sort j.attribute ≢ input
    → PrecedesDirectlyWithNests g t (nest_placing_of s) j i

-- and it must precede the step
abbrev pub WritersMustPrecede : AttributeGrammar → NestingSchedule → Forest → Type 0
WritersMustPrecede g s t =
    (i j : Instance) → IsStep g t i → Reads g t i j → g.sort j.attribute ≢ input
    → MustPrecedeWithNests g t (nest_placing_of s) j i

-- of two steps that stand in the nest of one pass, at two hosts, neither must precede
abbrev pub HostsAreFree : AttributeGrammar → NestingSchedule → Forest → Type 0
HostsAreFree g s t =
    (i j : Instance) → IsOnePass ((nest_placing_of s).outer i.attribute) ((nest_placing_of s).outer j.attribute)
    → (class : ℕ) → (nest_placing_of s).host i.attribute ≡ Some class
    → (nest_placing_of s).host j.attribute ≡ Some class
    → (h m : Path) → IsHost t class h (turn_of g i).visit → IsHost t class m (turn_of g j).visit → h ≢ m
    → MustPrecedeWithNests g t (nest_placing_of s) i j → ⊥

-- Of one pass, the first in its own list and the second in its nest. The first must precede exactly where the pass is
-- topdown and it runs at the second's host or above; the second exactly where the pass is bottomup and the first runs
-- there.
abbrev pub OwnStepsAreBound : AttributeGrammar → NestingSchedule → Forest → Type 0
OwnStepsAreBound g s t =
    (i j : Instance) → IsOnePass ((nest_placing_of s).outer i.attribute) ((nest_placing_of s).outer j.attribute)
    → (nest_placing_of s).host i.attribute ≡ None
    → (class : ℕ) → (nest_placing_of s).host j.attribute ≡ Some class
    → (h : Path) → IsHost t class h (turn_of g j).visit
    → (MustPrecedeWithNests g t (nest_placing_of s) i j
    ↔ ((((nest_placing_of s).outer j.attribute).kind ≡ topdown) × AtOrAbove (turn_of g i).visit h))
    × (MustPrecedeWithNests g t (nest_placing_of s) j i
    ↔ ((((nest_placing_of s).outer i.attribute).kind ≡ bottomup) × AtOrAbove (turn_of g i).visit h))

-- and the first runs below no node of the host class
abbrev pub OwnStepsRunBelowNoHost : AttributeGrammar → NestingSchedule → Forest → Type 0
OwnStepsRunBelowNoHost g s t =
    (i j : Instance) → IsStep g t i
    → IsOnePass ((nest_placing_of s).outer i.attribute) ((nest_placing_of s).outer j.attribute)
    → (nest_placing_of s).host i.attribute ≡ None
    → (class : ℕ) → (nest_placing_of s).host j.attribute ≡ Some class
    → (h : Path) → class_at t h ≡ class → Above h (turn_of g i).visit → ⊥

-- of two steps of one inorder pass of a nest, at one host, the first must precede the second exactly where it stands
-- before it in the sequence of the pass over the host and all below it
abbrev pub InnerStepsStandInSequence : AttributeGrammar → NestingSchedule → Forest → Type 0
InnerStepsStandInSequence g s t =
    (i j : Instance) → IsStep g t i → IsStep g t j
    → IsOnePass ((nest_placing_of s).outer i.attribute) ((nest_placing_of s).outer j.attribute)
    → IsOnePass ((nest_placing_of s).inner i.attribute) ((nest_placing_of s).inner j.attribute)
    → ((nest_placing_of s).inner j.attribute).kind ≡ inorder
    → (class : ℕ) → (nest_placing_of s).host i.attribute ≡ Some class
    → (nest_placing_of s).host j.attribute ≡ Some class
    → (h : Path) → IsHost t class h (turn_of g i).visit → IsHost t class h (turn_of g j).visit
    → MustPrecedeWithNests g t (nest_placing_of s) i j
    ↔ StandsBefore (sequence_at g (placing_of (inner_stages (home_pass s j.attribute).nest))
    (pass_place ((nest_placing_of s).inner j.attribute).stage ((nest_placing_of s).inner j.attribute).pass) t h) i j

-- ---- legal orders

-- all steps, each once, and none before one that must precede it
abbrev pub IsLegalWithNests : AttributeGrammar → NestingSchedule → Forest → List Instance → Type 0
IsLegalWithNests g s t order = IsLegalBy g t (MustPrecedeWithNests g t (nest_placing_of s)) order

-- there is one
abbrev pub LegalOrderExistsWithNests : AttributeGrammar → NestingSchedule → Forest → Type 0
LegalOrderExistsWithNests g s t = (order : List Instance) × IsLegalWithNests g s t order

-- in each the writer of each read stands before the reader
abbrev pub WritersStandBefore : AttributeGrammar → NestingSchedule → Forest → Type 0
WritersStandBefore g s t =
    (order : List Instance) → IsLegalWithNests g s t order
    → (i j : Instance) → IsStep g t i → Reads g t i j → g.sort j.attribute ≢ input → StandsBefore order j i

-- each legal order of the flat schedule is one
abbrev pub FlatOrdersAreLegal : AttributeGrammar → NestingSchedule → Forest → Type 0
FlatOrdersAreLegal g s t =
    (order : List Instance) → IsLegalOrder g t (flat_schedule s) order → IsLegalWithNests g s t order

-- exactly one table solves
abbrev pub OneTableSolvesWithNests : AttributeGrammar → NestingSchedule → Forest → Type 0
OneTableSolvesWithNests g s t = ExactlyOneTable g t

-- computing the steps in any legal order, from values that are right at the inputs, ends in the values that solve
abbrev pub RunsWithNestsSolve : AttributeGrammar → NestingSchedule → Forest → Type 0
RunsWithNestsSolve g s t =
    (order : List Instance) → IsLegalWithNests g s t order
    → (values : List Value) → length values ≡ instance_count g t → HoldsInputs g t values
    → SolvesList g t (run g t order values)

-- ---- schedules without nests

-- an ordered schedule stays ordered when each pass becomes stages of its own
abbrev pub FlatIsOrdered : Type 0
FlatIsOrdered =
    (g : AttributeGrammar) (s : NestingSchedule) → IsLawful g → IsNestOrdered g s → IsOrdered g (flat_schedule s)

-- one without nests is ordered exactly as before
abbrev pub PlainIsOrdered : Type 0
PlainIsOrdered = (g : AttributeGrammar) (s : Schedule) → IsNestOrdered g (plain s) ↔ IsOrdered g s

-- and its steps must precede one another as before
abbrev pub PlainStepsPrecede : Type 0
PlainStepsPrecede =
    (g : AttributeGrammar) (s : Schedule) (t : Forest) (i j : Instance)
    → MustPrecedeWithNests g t (nest_placing_of (plain s)) i j ↔ MustPrecede g t s i j

-- some schedule with nests is ordered exactly where one without is
abbrev pub NestsAddNothing : Type 0
NestsAddNothing =
    (g : AttributeGrammar) → IsLawful g
    → ((s : NestingSchedule) × IsNestOrdered g s) ↔ ((s : Schedule) × IsOrdered g s)
