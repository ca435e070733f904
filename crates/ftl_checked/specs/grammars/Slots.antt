-- Slots and forms of rules, as code has them.
use Rattle.std.specs.Prelude.{ℕ, ◌<◌, List, [], ◌∷◌, ◌++◌, length, map, IfSome}
use Rattle.std.specs.Option.{option_to_list}
use Rattle.ftl_grammar.specs.declared.syntax.expression.Expr.{Expr}
use Rattle.ftl_grammar.specs.declared.syntax.rules.Grammar.{Grammar}
use Rattle.ftl_grammar.specs.declared.syntax.rules.Rule.{Rule}
use Rattle.ftl_checked.specs.declared.grammars.slots.RuleSlot.{RuleSlot}
use Rattle.ftl_checked.specs.declared.grammars.slots.RuleSlot.TheVariants as code
use Rattle.ftl_checked.specs.declared.grammars.forms.Part.{Part}
use Rattle.ftl_checked.specs.declared.grammars.forms.RuleForm.{RuleForm}
use Rattle.ftl_meaning.specs.faults.Allowed.{Position}
use Rattle.ftl_checked.specs.grammars.Positions.{IsWithin, position_of}
use Rattle.ftl_meaning.specs.faults.Numbering.{class_at}
use Rattle.ftl_meaning.specs.faults.RuleForms.{Slot, kid_slot, own_slot, slot_of}

-- the slot that code calls so
abbrev pub slot_in : RuleSlot → Slot
slot_in (code.Own a) = own_slot a
slot_in (code.Kid c a) = kid_slot c a

-- the child of a slot is one of the class
abbrev pub IsSlotIn : Grammar → (class : ℕ) → RuleSlot → Type 0
IsSlotIn g k (code.Own a) = Unit {0}
IsSlotIn g k (code.Kid c a) = c < length (class_at g k).children

-- an expression with its position
abbrev pub part_in : Part → Position × Expr
part_in p = (position_of p.at, p.expr.now)

-- the expressions of a form
abbrev pub parts_in : RuleForm → List (Position × Expr)
parts_in f = part_in f.first ∷ map part_in (option_to_list f.second)

-- its positions name children of the class
pub record IsFormIn (g : Grammar) (k : ℕ) (f : RuleForm) : Type 0 where
  pub first : IsWithin g k f.first.at
  pub second : IfSome f.second (λ p. IsWithin g k p.at)

-- the slots of rules, in order
abbrev pub slots_of : Grammar → (class : ℕ) → List Rule → List Slot
slots_of g k [] = []
slots_of g k (r ∷ rs) = option_to_list (slot_of g k r.target) ++ slots_of g k rs
