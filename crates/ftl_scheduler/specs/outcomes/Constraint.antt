-- What a reader in the next pass asks of a writer that is not done: that it is in the pass too, or earlier in its list,
-- or nothing that is of use.
use Rattle.std.specs.Prelude.{◌≡◌, ℕ, ◌<◌, ◌==◌, ◌&&◌, ◌||◌, Bool, true, false, nat_lt, if◌then◌else◌, length, Some}
use Rattle.ftl_model.specs.layout.AttributeGrammar.{AttributeGrammar}
use Rattle.ftl_order.specs.orders.Lawful.{class_of_rule}
use Rattle.ftl_order.specs.orders.Ordered.{VisitPlace, visit_place}
use Rattle.ftl_order.specs.orders.Schedule.{PassKind, bottomup, inorder, topdown}
use Rattle.ftl_order.specs.dependencies.DepReads.{rule_reads}
use Rattle.ftl_order.specs.dependencies.Writers.{first_writer}
use Rattle.ftl_order.specs.declared.dependencies.dep_read.DepRead.{DepRead}
use Rattle.ftl_order.specs.declared.dependencies.dep_read.Site.{Site}
use Rattle.ftl_order.specs.declared.dependencies.dep_read.Site.TheVariants as sites
use Rattle.ftl_order.specs.faults.OrderedReads.{child_or_zero, from_kid, from_parent, has_earlier_block}
use Rattle.ftl_order.specs.faults.OrderedReads.{is_prev, is_same_block, is_same_rule}
use Rattle.ftl_schedule.specs.check.RuleAt.{read_at, rule_at}

-- the writer is done or in the pass; it is done or earlier in the list of the pass; it is done
pub data Constraint : Type 0 where
  beside : Constraint
  earlier : Constraint
  done_before : Constraint

-- whether a pass has the writer x earlier at one node, where its key is smaller or is not
abbrev pub in_visit_with : PassKind → (smaller_key by_prev : Bool) → VisitPlace → VisitPlace → Bool
in_visit_with topdown key by_prev x y = key || (by_prev && is_same_rule x y)
in_visit_with bottomup key by_prev x y = key || (by_prev && is_same_rule x y)
in_visit_with inorder key by_prev x y = has_earlier_block x y || (is_same_block x y && (key || by_prev))

-- whether a pass has the writer x of what is read at this site earlier
abbrev pub in_pass_with : Site → PassKind → (smaller_key : Bool) → DepRead → VisitPlace → VisitPlace → Bool
in_pass_with sites.Input kind key d x y = true
in_pass_with sites.SameVisit kind key d x y = in_visit_with kind key (is_prev d.form) x y
in_pass_with sites.Above kind key d x y = from_parent kind
in_pass_with sites.Below kind key d x y = from_kid kind (is_prev d.form) (child_or_zero d.child) y

-- by whether it is earlier whatever the order of the list is, and where it stands first in the list
abbrev pub constraint_by : (always where_first : Bool) → Constraint
constraint_by true where_first = beside
constraint_by false true = earlier
constraint_by false false = done_before

-- what the reader y asks of the writer x; rules for one attribute stand in the order of their children
abbrev pub constraint_of : PassKind → DepRead → (x y : VisitPlace) → Constraint
constraint_of kind d x y =
    if x.attribute == y.attribute
    then constraint_by (in_pass_with d.site kind (nat_lt x.child y.child) d x y) false
    else constraint_by (in_pass_with d.site kind false d x y) (in_pass_with d.site kind true d x y)

-- by a read of some rule for y, whose first writer is for x
pub record Asks (g : AttributeGrammar) (kind : PassKind) (constraint : Constraint) (x y : ℕ) : Type 0 where
  pub rule : ℕ
  pub place : ℕ
  pub writer : ℕ
  pub known : rule < length g.rules
  pub within : place < length (rule_reads g (rule_at g rule))
  pub first :
      first_writer g (class_of_rule (rule_at g rule)) (read_at (rule_reads g (rule_at g rule)) place) ≡ Some writer
  pub written : (visit_place g (rule_at g writer)).attribute ≡ x
  pub reads : (visit_place g (rule_at g rule)).attribute ≡ y
  pub constraints :
      constraint_of kind (read_at (rule_reads g (rule_at g rule)) place) (visit_place g (rule_at g writer))
      (visit_place g (rule_at g rule))
      ≡ constraint
