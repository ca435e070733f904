-- What rules write, as those that read it look for it: by the class that has the rule, or by the interface of the
-- nodes that the attribute is of.
use Rattle.std.specs.Prelude.{◌≡◌, ℕ, ◌==◌, ◌&&◌, Bool, true, false, List, Option, Some, None}
use Rattle.std.specs.List.{position}
use Rattle.std.specs.HashMap.{HashMap, get_by}
use Rattle.ftl_model.specs.layout.AttributeGrammar.{AttributeGrammar, RuleName, for_child, for_self}
use Rattle.ftl_meaning.specs.declared.faults.info.RuleInfo.{RuleInfo}
use Rattle.ftl_order.specs.dependencies.Writers.{is_of_class}
use Rattle.ftl_order.specs.declared.dependencies.dep_read.Site.{Site}
use Rattle.ftl_order.specs.declared.dependencies.dep_read.Site.TheVariants as sites
use Rattle.ftl_deps.specs.declared.reads.product.Product.{Product}
use Rattle.ftl_deps.specs.declared.reads.product.Product.TheVariants as products

-- an attribute of the node itself, or of its kids in a child, by the rules of its class
abbrev pub of_class : (class : ℕ) → (child : Option ℕ) → (attribute : ℕ) → Product
of_class k None a = products.Own k a
of_class k (Some c) a = products.Kid k c a

-- what a reader of this class looks for; none where what it reads is the document's to give
abbrev pub looked_for : AttributeGrammar → (class : ℕ) → Site → (child : Option ℕ) → (attribute : ℕ) → Option Product
looked_for g k sites.Input c a = None
looked_for g k sites.SameVisit c a = Some (of_class k c a)
looked_for g k sites.Above c a = Some (products.Above (g.interface k) a)
looked_for g k sites.Below None a = None
looked_for g k sites.Below (Some c) a = Some (products.Below (g.child_interface k c) a)

-- whether a rule writes it
abbrev pub writes : AttributeGrammar → Product → RuleName → Bool
writes g (products.Own k a) w = is_of_class k None a w
writes g (products.Kid k c a) w = is_of_class k (Some c) a w
writes g (products.Above i a) (for_self l b) = false
writes g (products.Above i a) (for_child l d b) = a == b && g.child_interface l d == i
writes g (products.Below i a) (for_self l b) = a == b && g.interface l == i
writes g (products.Below i a) (for_child l d b) = false

-- what a rule writes, for the readers of its class
abbrev pub written_here : RuleName → Product
written_here (for_self l b) = products.Own l b
written_here (for_child l d b) = products.Kid l d b

-- and for those of other classes: the class below a child, or the class above
abbrev pub written_elsewhere : AttributeGrammar → RuleName → Product
written_elsewhere g (for_self l b) = products.Below (g.interface l) b
written_elsewhere g (for_child l d b) = products.Above (g.child_interface l d) b

-- whether two are the same
abbrev pub same_product : Product → Product → Bool
same_product (products.Own k a) (products.Own l b) = k == l && a == b
same_product (products.Own k a) (products.Kid l d b) = false
same_product (products.Own k a) (products.Above i b) = false
same_product (products.Own k a) (products.Below i b) = false
same_product (products.Kid k c a) (products.Own l b) = false
same_product (products.Kid k c a) (products.Kid l d b) = k == l && (c == d && a == b)
same_product (products.Kid k c a) (products.Above i b) = false
same_product (products.Kid k c a) (products.Below i b) = false
same_product (products.Above i a) (products.Own l b) = false
same_product (products.Above i a) (products.Kid l d b) = false
same_product (products.Above i a) (products.Above j b) = i == j && a == b
same_product (products.Above i a) (products.Below j b) = false
same_product (products.Below i a) (products.Own l b) = false
same_product (products.Below i a) (products.Kid l d b) = false
same_product (products.Below i a) (products.Above j b) = false
same_product (products.Below i a) (products.Below j b) = i == j && a == b

-- the value of a map at a product
abbrev pub at_product : {S : Type 0} → HashMap Product ℕ S → Product → Option ℕ
at_product places p = get_by (same_product p) places

-- the map has the place of the first of some rules that writes each product, and no other product
abbrev pub FindsFirst : {S : Type 0} → AttributeGrammar → List RuleName → HashMap Product ℕ S → Type 0
FindsFirst g rules places = (p : Product) → at_product places p ≡ position (writes g p) rules

-- what is there stays, and else this rule comes where it is meant
abbrev pub or_this : Option ℕ → (meant : Bool) → (rule : ℕ) → Option ℕ
or_this (Some m) b n = Some m
or_this None true n = Some n
or_this None false n = None

-- the rule, by number, that this is known of
abbrev pub name_of_child : (class attribute : ℕ) → Option ℕ → RuleName
name_of_child k a None = for_self k a
name_of_child k a (Some c) = for_child k c a

-- the same by all that is known of it
abbrev pub name_of_info : RuleInfo → RuleName
name_of_info i = name_of_child i.class i.attr i.child
