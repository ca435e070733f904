-- Which rules write what a rule reads, and the first of them by number.
use Rattle.std.specs.Prelude.{ℕ, ◌==◌, ◌&&◌, Bool, false, Option, Some, None}
use Rattle.std.specs.List.{position}
use Rattle.ftl_model.specs.layout.AttributeGrammar.{AttributeGrammar, RuleName, for_child, for_self}
use Rattle.ftl_order.specs.declared.dependencies.dep_read.DepRead.{DepRead}
use Rattle.ftl_order.specs.declared.dependencies.dep_read.Site.{Site}
use Rattle.ftl_order.specs.declared.dependencies.dep_read.Site.TheVariants as sites

-- the rule of this class for the attribute, of the node itself or of the kids in the child
abbrev pub is_of_class : (class : ℕ) → (child : Option ℕ) → (attribute : ℕ) → RuleName → Bool
is_of_class k None a (for_self l b) = k == l && a == b
is_of_class k None a (for_child l d b) = false
is_of_class k (Some c) a (for_self l b) = false
is_of_class k (Some c) a (for_child l d b) = k == l && (c == d && a == b)

-- a rule for the attribute, of a class that has a child of this class's interface
abbrev pub is_above : AttributeGrammar → (class attribute : ℕ) → RuleName → Bool
is_above g k a (for_self l b) = false
is_above g k a (for_child l d b) = a == b && g.child_interface l d == g.interface k

-- a rule for the attribute, of a class of the child's interface
abbrev pub is_below : AttributeGrammar → (class : ℕ) → (child : Option ℕ) → (attribute : ℕ) → RuleName → Bool
is_below g k None a w = false
is_below g k (Some c) a (for_self l b) = a == b && g.interface l == g.child_interface k c
is_below g k (Some c) a (for_child l d b) = false

-- whether a rule writes what is read at this site
abbrev pub writes_at : AttributeGrammar → (class : ℕ) → Site → (child : Option ℕ) → (attribute : ℕ) → RuleName → Bool
writes_at g k sites.Input c a w = false
writes_at g k sites.SameVisit c a w = is_of_class k c a w
writes_at g k sites.Above c a w = is_above g k a w
writes_at g k sites.Below c a w = is_below g k c a w

-- whether a rule writes what a rule of this class reads
abbrev pub is_writer : AttributeGrammar → (class : ℕ) → DepRead → RuleName → Bool
is_writer g k d w = writes_at g k d.site d.child d.attr w

-- the number of the first rule that does; none where no rule does
abbrev pub first_writer : AttributeGrammar → (class : ℕ) → DepRead → Option ℕ
first_writer g k d = position (is_writer g k d) g.rules
