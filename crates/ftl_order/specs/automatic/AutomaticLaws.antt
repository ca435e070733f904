-- What holds of lists that fit, and of the automatic schedule.
use Rattle.std.specs.Prelude.{◌≡◌, ◌⊎◌, ◌↔◌, ℕ, not, List, ◌++◌, filter}
use Rattle.ftl_model.specs.lists.Lists.{is_listed}
use Rattle.ftl_model.specs.layout.AttributeGrammar.{AttributeGrammar}
use Rattle.ftl_order.specs.orders.Lawful.{IsLawful}
use Rattle.ftl_order.specs.orders.Ordered.{IsOrdered}
use Rattle.ftl_order.specs.orders.Schedule.{PassKind, Schedule}
use Rattle.ftl_order.specs.automatic.Automatic.{IsAutomatic, IsChain, IsStuck, SomeScheduleIsOrdered}
use Rattle.ftl_order.specs.automatic.Fitting.{Fits, IsListOf}

-- a list without the entries of another
abbrev pub without : (taken list : List ℕ) → List ℕ
without taken list = filter (λ a. not (is_listed taken a)) list

-- two lists that fit make one that fits, the second without what the first has
abbrev pub JoinedListsFit : Type 0
JoinedListsFit =
    (g : AttributeGrammar) (kind : PassKind) (done xs ys : List ℕ) → Fits g kind done xs → Fits g kind done ys
    → Fits g kind done (xs ++ without xs ys)

-- no two lists are the list of a kind after what is done
abbrev pub ListsOfKindsAreOne : Type 0
ListsOfKindsAreOne =
    (g : AttributeGrammar) (kind : PassKind) (done xs ys : List ℕ) → IsListOf g kind done xs → IsListOf g kind done ys
    → xs ≡ ys

-- and there is one
abbrev pub ListsOfKindsExist : Type 0
ListsOfKindsExist =
    (g : AttributeGrammar) (kind : PassKind) (done : List ℕ) → IsLawful g
    → (list : List ℕ) × IsListOf g kind done list

-- a grammar has one chain
abbrev pub ChainsAreOne : Type 0
ChainsAreOne = (g : AttributeGrammar) (s t : Schedule) → IsChain g s → IsChain g t → s ≡ t

-- no two schedules are automatic
abbrev pub AutomaticIsOne : Type 0
AutomaticIsOne = (g : AttributeGrammar) (s t : Schedule) → IsAutomatic g s → IsAutomatic g t → s ≡ t

-- where it is stuck, one list of attributes is left
abbrev pub LeftIsOne : Type 0
LeftIsOne = (g : AttributeGrammar) (xs ys : List ℕ) → IsStuck g xs → IsStuck g ys → xs ≡ ys

-- a grammar with an automatic schedule isn't stuck
abbrev pub NotBoth : Type 0
NotBoth = (g : AttributeGrammar) (s : Schedule) (left : List ℕ) → IsAutomatic g s → IsStuck g left → ⊥

-- there is an automatic schedule, or it is stuck
abbrev pub OneOfBoth : Type 0
OneOfBoth =
    (g : AttributeGrammar) → IsLawful g
    → ((s : Schedule) × IsAutomatic g s) ⊎ ((left : List ℕ) × IsStuck g left)

-- the automatic schedule is ordered
abbrev pub AutomaticIsOrdered : Type 0
AutomaticIsOrdered = (g : AttributeGrammar) (s : Schedule) → IsLawful g → IsAutomatic g s → IsOrdered g s

-- there is an automatic schedule exactly where some schedule is ordered
abbrev pub FoundWhereOneIsOrdered : Type 0
FoundWhereOneIsOrdered =
    (g : AttributeGrammar) → IsLawful g → ((s : Schedule) × IsAutomatic g s) ↔ SomeScheduleIsOrdered g

-- and it is stuck exactly where none is
abbrev pub StuckWhereNoneIsOrdered : Type 0
StuckWhereNoneIsOrdered =
    (g : AttributeGrammar) → IsLawful g
    → ((left : List ℕ) × IsStuck g left) ↔ (SomeScheduleIsOrdered g → ⊥)
