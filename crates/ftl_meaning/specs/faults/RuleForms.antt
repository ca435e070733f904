-- What a rule defines, and which expressions it has where.
use Rattle.std.specs.Prelude.{ℕ, Bool, true, false, if◌then◌else◌, List, [], ◌∷◌, Option, Some, None}
use Rattle.std.specs.Option.{option_and_then}
use Rattle.ftl_grammar.specs.declared.syntax.expression.Expr.{Expr}
use Rattle.ftl_grammar.specs.declared.syntax.rules.AttrDecl.{AttrDecl}
use Rattle.ftl_grammar.specs.declared.syntax.rules.AttrKind.{AttrKind}
use Rattle.ftl_grammar.specs.declared.syntax.rules.AttrKind.TheVariants as kinds
use Rattle.ftl_grammar.specs.declared.syntax.rules.Body.{Body}
use Rattle.ftl_grammar.specs.declared.syntax.rules.Body.TheVariants as bodies
use Rattle.ftl_grammar.specs.declared.syntax.rules.Child.{Child}
use Rattle.ftl_grammar.specs.declared.syntax.rules.Grammar.{Grammar}
use Rattle.ftl_grammar.specs.declared.syntax.rules.Target.{Target}
use Rattle.ftl_grammar.specs.declared.syntax.rules.Target.TheVariants as targets
use Rattle.ftl_meaning.specs.faults.Allowed.{Position, for_kids, for_later, for_self, for_single, in_step}
use Rattle.ftl_meaning.specs.faults.Numbering.{child_at, child_attributes, class_attributes, find_attribute, find_child}

-- what a rule of a class defines: an attribute of the node itself, or of its kids in a child
pub data Slot : Type 0 where
  own_slot : (attribute : ℕ) → Slot
  kid_slot : (child attribute : ℕ) → Slot

-- an attribute that the rules of the node's own class define
abbrev pub is_synthesized_or_local : AttrKind → Bool
is_synthesized_or_local kinds.Inh = false
is_synthesized_or_local kinds.Syn = true
is_synthesized_or_local kinds.Input = false
is_synthesized_or_local kinds.Local = true

-- an attribute that the rules of the class above define
abbrev pub is_inherited : AttrKind → Bool
is_inherited kinds.Inh = true
is_inherited kinds.Syn = false
is_inherited kinds.Input = false
is_inherited kinds.Local = false

-- the slot of an attribute that has to be of such a kind
abbrev pub slot_by : (AttrKind → Bool) → (ℕ → Slot) → ℕ × AttrDecl → Option Slot
slot_by may form a = if may a.1.kind then Some (form a.0) else None

-- what a target stands for in a class; none where no rule may have it
abbrev pub slot_of : Grammar → (class : ℕ) → Target → Option Slot
slot_of g k (targets.Own a) =
    option_and_then (slot_by is_synthesized_or_local own_slot) (find_attribute a (class_attributes g k))
slot_of g k (targets.Of c a) =
    option_and_then
    (λ child. option_and_then (slot_by is_inherited (kid_slot child.0)) (find_attribute a (child_attributes g child.1)))
    (find_child g k c)

-- The forms of rules: one expression, one for the first kid of a list and one for the later ones, or a fold over a
-- list.
pub data Form : Type 0 where
  one_form : Position → Expr → Form
  first_form : (child : ℕ) → (first later : Expr) → Form
  fold_form : (child : ℕ) → (start step : Expr) → Form

-- a fold over this child; none over a single one
abbrev pub fold_over_list : Expr → Expr → ℕ × Child → Option Form
fold_over_list e f c = if c.1.many then Some (fold_form c.0 e f) else None

-- the form that a rule for this slot has; none where it has no right one
abbrev pub form_of : Grammar → (class : ℕ) → Slot → Body → Option Form
form_of g k (own_slot a) (bodies.Plain e) = Some (one_form for_self e)
form_of g k (own_slot a) (bodies.FirstThen e f) = None
form_of g k (own_slot a) (bodies.Fold c e f) = option_and_then (fold_over_list e f) (find_child g k c)
form_of g k (kid_slot c a) (bodies.Plain e) =
    Some (one_form (if (child_at g k c).many then for_kids c else for_single) e)
form_of g k (kid_slot c a) (bodies.FirstThen e f) =
    if (child_at g k c).many then Some (first_form c e f) else None
form_of g k (kid_slot c a) (bodies.Fold d e f) = None

-- the expressions of a form, in the order of the text, each with its position
abbrev pub parts_of : Form → List (Position × Expr)
parts_of (one_form at e) = (at, e) ∷ []
parts_of (first_form c e f) = (for_kids c, e) ∷ ((for_later c, f) ∷ [])
parts_of (fold_form c e f) = (for_self, e) ∷ ((in_step c, f) ∷ [])

-- the expressions of a rule as it is written, in the order of the text
abbrev pub expressions_of : Body → List Expr
expressions_of (bodies.Plain e) = e ∷ []
expressions_of (bodies.FirstThen e f) = e ∷ (f ∷ [])
expressions_of (bodies.Fold c e f) = e ∷ (f ∷ [])
