-- What an ordered schedule gives: the writer of each read stands before the reader, a legal order exists, exactly one
-- table solves, and a run along any legal order ends in it. It speaks of the project's values.
use Rattle.std.specs.Prelude.{◌≡◌, ◌≢◌, ◌⊎◌, ◌↔◌, List, length, Contains}
use Rattle.ftl_model.specs.lists.Lists.{AreDistinct, StandsBefore}
use Rattle.ftl_model.specs.layout.AttributeGrammar.{AttributeGrammar, input}
use Rattle.ftl_model.specs.layout.Path.{AtOrAbove, Has, Path}
use Rattle.ftl_model.specs.layout.Solves.{Instance}
use Rattle.ftl_model.specs.layout.Table.{SolvesList, instance_count}
use Rattle.ftl_model.specs.layout.Tree.{Forest}
use Rattle.ftl_model.specs.layout.TreeOf.{IsTreeOf}
use Rattle.ftl_model.specs.layout.Values.{Value}
use Rattle.ftl_order.specs.orders.Lawful.{IsLawful}
use Rattle.ftl_order.specs.orders.LegalOrder.{HoldsInputs, IsLegalOrder, PrecedesDirectly, IsStep, MustPrecede, run}
use Rattle.ftl_order.specs.orders.LegalOrder.{turn_of}
use Rattle.ftl_order.specs.orders.OneTable.{ExactlyOneList, ExactlyOneTable}
use Rattle.ftl_order.specs.orders.Ordered.{IsOrdered}
use Rattle.ftl_order.specs.orders.Reads.{Reads}
use Rattle.ftl_order.specs.orders.Schedule.{IsOnePass, Schedule, SchedulePlace, inorder, placing_of}
use Rattle.ftl_order.specs.orders.Sequence.{sequence, sequence_at}

-- of each tree of a lawful grammar, under each schedule that is ordered for it
abbrev pub UnderOrderedSchedules : (AttributeGrammar → Schedule → Forest → Type 0) → Type 0
UnderOrderedSchedules P =
    (g : AttributeGrammar) (s : Schedule) (t : Forest) → IsLawful g → IsOrdered g s → IsTreeOf g t → P g s t

-- what a step reads, unless it is an input, stands in an earlier stage, or in the same pass: in the same visit by key,
-- at the parent (topdown), at a kid (bottomup), or earlier in the sequence (inorder)
abbrev pub WritersPrecedeDirectly : AttributeGrammar → Schedule → Forest → Type 0
WritersPrecedeDirectly g s t =
    (i j : Instance) → IsStep g t i → Reads g t i j → g.sort j.attribute ≢ input → PrecedesDirectly g t s j i

-- and it must precede the step
abbrev pub WritersPrecede : AttributeGrammar → Schedule → Forest → Type 0
WritersPrecede g s t =
    (i j : Instance) → IsStep g t i → Reads g t i j → g.sort j.attribute ≢ input → MustPrecede g t s j i

-- in every legal order the writer of each read stands before the reader
abbrev pub WritersStandBefore : AttributeGrammar → Schedule → Forest → Type 0
WritersStandBefore g s t =
    (order : List Instance) → IsLegalOrder g t s order
    → (i j : Instance) → IsStep g t i → Reads g t i j → g.sort j.attribute ≢ input → StandsBefore order j i

-- there is a legal order
abbrev pub LegalOrderExists : AttributeGrammar → Schedule → Forest → Type 0
LegalOrderExists g s t = (order : List Instance) × IsLegalOrder g t s order

-- exactly one table solves
abbrev pub OneTableSolves : AttributeGrammar → Schedule → Forest → Type 0
OneTableSolves g s t = ExactlyOneTable g t

-- exactly one list of values solves
abbrev pub OneListSolves : AttributeGrammar → Schedule → Forest → Type 0
OneListSolves g s t = ExactlyOneList g t

-- from values that are right at the inputs
abbrev pub RunsEndInTheTable : AttributeGrammar → Schedule → Forest → Type 0
RunsEndInTheTable g s t =
    (order : List Instance) → IsLegalOrder g t s order
    → (values : List Value) → length values ≡ instance_count g t → HoldsInputs g t values
    → SolvesList g t (run g t order values)

-- of two steps of an inorder pass one must precede the other exactly where it stands before it in the pass's sequence
abbrev pub InorderStepsStandInSequence : AttributeGrammar → Schedule → Forest → Type 0
InorderStepsStandInSequence g s t =
    (i j : Instance) → IsStep g t i → IsStep g t j
    → IsOnePass (placing_of s i.attribute) (placing_of s j.attribute) → (placing_of s j.attribute).kind ≡ inorder
    → MustPrecede g t s i j ↔ StandsBefore (sequence g (placing_of s) (placing_of s j.attribute) t) i j

-- and in the sequence at any node, of two steps that run at that node or below it
abbrev pub StepsBelowStandInSequence : AttributeGrammar → Schedule → Forest → Type 0
StepsBelowStandInSequence g s t =
    (p : Path) (i j : Instance) → Has t p → IsStep g t i → IsStep g t j
    → AtOrAbove p (turn_of g i).visit → AtOrAbove p (turn_of g j).visit
    → IsOnePass (placing_of s i.attribute) (placing_of s j.attribute) → (placing_of s j.attribute).kind ≡ inorder
    → MustPrecede g t s i j ↔ StandsBefore (sequence_at g (placing_of s) (placing_of s j.attribute) t p) i j

-- what must precede a step that must precede a third must precede that one
abbrev pub PrecedenceIsTransitive : Type 0
PrecedenceIsTransitive =
    (g : AttributeGrammar) (t : Forest) (s : Schedule) (i j k : Instance)
    → MustPrecede g t s i j → MustPrecede g t s j k → MustPrecede g t s i k

-- of any two steps the first must precede the other, or need not
abbrev pub PrecedenceIsDecided : Type 0
PrecedenceIsDecided =
    (g : AttributeGrammar) (t : Forest) (s : Schedule) (i j : Instance)
    → MustPrecede g t s i j ⊎ (MustPrecede g t s i j → ⊥)

-- the sequence of a pass at a node has the steps of the pass that run at the node or below it, each once, and no other
abbrev pub SequencesHaveTheirSteps : AttributeGrammar → Schedule → Forest → Type 0
SequencesHaveTheirSteps g s t =
    (p : Path) (x : SchedulePlace) → Has t p
    → AreDistinct (sequence_at g (placing_of s) x t p)
    × ((i : Instance) → Contains (sequence_at g (placing_of s) x t p) i
    ↔ (IsStep g t i × IsOnePass (placing_of s i.attribute) x × AtOrAbove p (turn_of g i).visit))
