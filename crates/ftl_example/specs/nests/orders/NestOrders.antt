-- The plain order under a schedule with nests: that of the flat schedule; and the same with some steps brought forward.
use Rattle.std.specs.Prelude.{◌≡◌, Bool, true, false, List}
use Rattle.ftl_model.specs.lists.Lists.{StandsBefore}
use Rattle.ftl_model.specs.layout.AttributeGrammar.{AttributeGrammar}
use Rattle.ftl_model.specs.layout.Solves.{Instance}
use Rattle.ftl_model.specs.layout.Tree.{Forest}
use Rattle.ftl_model.specs.layout.TreeOf.{IsTreeOf}
use Rattle.ftl_order.specs.orders.Lawful.{IsLawful}
use Rattle.ftl_order.specs.orders.Schedule.{EachStandsOnce}
use Rattle.ftl_example.specs.orders.PlainOrder.{IsClosed, parted, plain_order}
use Rattle.ftl_nests.specs.Flat.{flat_schedule}
use Rattle.ftl_nests.specs.Hosted.{MustPrecedeWithNests}
use Rattle.ftl_nests.specs.NestLaws.{IsLegalWithNests}
use Rattle.ftl_nests.specs.Nests.{NestingSchedule, nest_placing_of, outer_schedule}

-- a nest's inner stages stand before a bottomup list and after a topdown list
abbrev pub plain_order_with_nests : AttributeGrammar → NestingSchedule → Forest → List Instance
plain_order_with_nests g s t = plain_order g (flat_schedule s) t

-- of a schedule that has each computed attribute once, whether it is ordered or not
abbrev pub PlainOrderIsLegalWithNests : Type 0
PlainOrderIsLegalWithNests =
    (g : AttributeGrammar) (s : NestingSchedule) (t : Forest) → IsLawful g → EachStandsOnce g (outer_schedule s)
    → IsTreeOf g t → IsLegalWithNests g s t (plain_order_with_nests g s t)

-- parted by a closed test a legal order is legal; a step of which the test holds stands before those of which it
-- doesn't, and before those of which it holds that it stood before
abbrev pub ClosedPartingKeepsLegalWithNests : Type 0
ClosedPartingKeepsLegalWithNests =
    (g : AttributeGrammar) (s : NestingSchedule) (t : Forest) (order : List Instance) → IsLegalWithNests g s t order
    → (test : Instance → Bool) → IsClosed g t (MustPrecedeWithNests g t (nest_placing_of s)) test
    → IsLegalWithNests g s t (parted test order)
    × ((r w : Instance) → test r ≡ true → test w ≡ false → StandsBefore (parted test order) w r → ⊥)
    × ((r w : Instance) → test r ≡ true → test w ≡ true → StandsBefore order r w
    → StandsBefore (parted test order) w r → ⊥)
