-- The schedule that stages of passes stand for.
use Rattle.std.specs.Prelude.{ℕ, List, map, flat_map}
use Rattle.ftl_order.specs.orders.Schedule as order
use Rattle.ftl_schedule.specs.declared.syntax.kind.PassKind.{PassKind}
use Rattle.ftl_schedule.specs.declared.syntax.kind.PassKind.TheVariants.{TopDown, BottomUp, InOrder}
use Rattle.ftl_schedule.specs.declared.stages.types.Pass.{Pass}
use Rattle.ftl_schedule.specs.declared.stages.types.Stage.{Stage}
use Rattle.ftl_schedule.specs.declared.stages.types.Schedule.{Schedule}

-- a kind of traversal
abbrev pub kind_of : PassKind → order.PassKind
kind_of TopDown = order.topdown
kind_of BottomUp = order.bottomup
kind_of InOrder = order.inorder

-- one pass
abbrev pub pass_of : Pass → order.Pass
pass_of pass = record { kind = kind_of pass.kind; attributes = pass.attrs }

-- the stages, each a list of passes
abbrev pub stages_of : Schedule → order.Schedule
stages_of s = map (λ (stage : Stage). map pass_of stage.passes) s.stages

-- the attributes of all passes, in the order of the text
abbrev pub attributes_in : Schedule → List ℕ
attributes_in s = flat_map (λ (stage : Stage). flat_map (λ (pass : Pass). pass.attrs) stage.passes) s.stages
