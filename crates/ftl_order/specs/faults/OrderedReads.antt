-- The table of ordered reads as tests, over what a rule reads by number.
use Rattle.std.specs.Prelude.{ℕ, ◌==◌, ◌&&◌, ◌||◌, Bool, true, false, nat_lt, Option, Some, None}
use Rattle.ftl_model.specs.layout.AttributeGrammar.{AttributeGrammar, RuleName}
use Rattle.ftl_order.specs.orders.Ordered.{VisitPlace, visit_place}
use Rattle.ftl_order.specs.orders.Schedule.{PassKind, Placing, SchedulePlace, bottomup, inorder, topdown}
use Rattle.ftl_order.specs.declared.dependencies.dep_read.DepRead.{DepRead}
use Rattle.ftl_order.specs.declared.dependencies.dep_read.Form.{Form}
use Rattle.ftl_order.specs.declared.dependencies.dep_read.Form.TheVariants as forms
use Rattle.ftl_order.specs.declared.dependencies.dep_read.Site.{Site}
use Rattle.ftl_order.specs.declared.dependencies.dep_read.Site.TheVariants as sites

-- whether the key is smaller: the attribute stands earlier in the list, or is the same and the child is declared
-- earlier
abbrev pub has_smaller_key : Placing → VisitPlace → VisitPlace → Bool
has_smaller_key at x y =
    nat_lt (at x.attribute).index (at y.attribute).index
    || ((at x.attribute).index == (at y.attribute).index && nat_lt x.child y.child)

-- whether the rules are for the same attribute, of the same child
abbrev pub is_same_rule : VisitPlace → VisitPlace → Bool
is_same_rule x y = x.attribute == y.attribute && x.child == y.child

-- whether the block is earlier: locals, then child by child, then the synthesized attributes
abbrev pub has_earlier_block : VisitPlace → VisitPlace → Bool
has_earlier_block x y = nat_lt x.block y.block || (x.block == y.block && nat_lt x.child y.child)

-- whether the rules are of one block
abbrev pub is_same_block : VisitPlace → VisitPlace → Bool
is_same_block x y = x.block == y.block && x.child == y.child

-- whether a read is by `prev`
abbrev pub is_prev : Form → Bool
is_prev forms.Plain = false
is_prev forms.This = false
is_prev forms.Prev = true
is_prev forms.Last = false
is_prev forms.Each = false

-- the child that is read, or 0 where the node itself is
abbrev pub child_or_zero : Option ℕ → ℕ
child_or_zero None = 0
child_or_zero (Some c) = c

-- in one pass, x writes and y reads, and both rules run at one node
abbrev pub in_same_visit : PassKind → Placing → (by_prev : Bool) → VisitPlace → VisitPlace → Bool
in_same_visit topdown at by_prev x y = has_smaller_key at x y || (by_prev && is_same_rule x y)
in_same_visit bottomup at by_prev x y = has_smaller_key at x y || (by_prev && is_same_rule x y)
in_same_visit inorder at by_prev x y =
    has_earlier_block x y || (is_same_block x y && (has_smaller_key at x y || by_prev))

-- in one pass the writer runs at the parent
abbrev pub from_parent : PassKind → Bool
from_parent topdown = true
from_parent bottomup = false
from_parent inorder = true

-- in one pass the writer runs at a kid in child `c`
abbrev pub from_kid : PassKind → (by_prev : Bool) → (c : ℕ) → VisitPlace → Bool
from_kid topdown by_prev c y = false
from_kid bottomup by_prev c y = true
from_kid inorder by_prev c y = y.block == 2 || (y.block == 1 && (nat_lt c y.child || by_prev))

-- in one pass, by the site of what is read; an input has no writer, so that its line is never asked
abbrev pub in_pass_by : Site → PassKind → Placing → DepRead → VisitPlace → VisitPlace → Bool
in_pass_by sites.Input kind at d x y = true
in_pass_by sites.SameVisit kind at d x y = in_same_visit kind at (is_prev d.form) x y
in_pass_by sites.Above kind at d x y = from_parent kind
in_pass_by sites.Below kind at d x y = from_kid kind (is_prev d.form) (child_or_zero d.child) y

-- in one stage and in one pass of it
abbrev pub is_one_pass : SchedulePlace → SchedulePlace → Bool
is_one_pass x y = x.stage == y.stage && x.pass == y.pass

-- whether the schedule has the writer of a read earlier: in an earlier stage, or earlier in the same pass
abbrev pub is_ordered_read : AttributeGrammar → Placing → DepRead → (writer reader : RuleName) → Bool
is_ordered_read g at d v w =
    nat_lt (at (visit_place g v).attribute).stage (at (visit_place g w).attribute).stage
    || (is_one_pass (at (visit_place g v).attribute) (at (visit_place g w).attribute)
    && in_pass_by d.site (at (visit_place g w).attribute).kind at d (visit_place g v) (visit_place g w))
