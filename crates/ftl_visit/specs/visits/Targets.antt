-- What rules define, and maps from that to their numbers.
use Rattle.std.specs.Prelude.{◌≡◌, ℕ, ◌==◌, ◌&&◌, Bool, false, List, Option, Some, None}
use Rattle.std.specs.List.{position}
use Rattle.std.specs.HashMap.{HashMap, get_by}
use Rattle.ftl_model.specs.layout.AttributeGrammar.{RuleName, for_child, for_self}
use Rattle.ftl_order.specs.dependencies.Writers.{is_of_class}
use Rattle.ftl_visit.specs.declared.visits.target.Target.{Target}
use Rattle.ftl_visit.specs.declared.visits.target.Target.TheVariants as targets

-- whether a rule defines it
abbrev pub defines : Target → RuleName → Bool
defines (targets.Own k a) w = is_of_class k None a w
defines (targets.Kid k c a) w = is_of_class k (Some c) a w

-- what a rule defines
abbrev pub target_of : RuleName → Target
target_of (for_self k a) = targets.Own k a
target_of (for_child k c a) = targets.Kid k c a

-- whether two are the same
abbrev pub same_target : Target → Target → Bool
same_target (targets.Own k a) (targets.Own l b) = k == l && a == b
same_target (targets.Own k a) (targets.Kid l d b) = false
same_target (targets.Kid k c a) (targets.Own l b) = false
same_target (targets.Kid k c a) (targets.Kid l d b) = k == l && (c == d && a == b)

-- the value of a map at a target
abbrev pub at_target : {S : Type 0} → HashMap Target ℕ S → Target → Option ℕ
at_target numbers x = get_by (same_target x) numbers

-- the map has the place of the first of some rules for each target that one of them defines, and no other target
abbrev pub FindsFirst : {S : Type 0} → List RuleName → HashMap Target ℕ S → Type 0
FindsFirst rules numbers = (x : Target) → at_target numbers x ≡ position (defines x) rules
