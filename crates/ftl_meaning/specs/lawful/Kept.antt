-- No rule of a grammar without a fault is lost where its names go: each rule as it is written is the one rule for
-- what it defines, and each attribute that has to have a rule has one.
use Rattle.std.specs.Prelude.{◌≡◌, ℕ, ◌<◌, true, length, Some, None}
use Rattle.std.specs.List.{All, slice_get}
use Rattle.std.specs.Option.{is_some, option_map}
use Rattle.ftl_model.specs.layout.AttributeGrammar.{RuleName}
use Rattle.ftl_model.specs.layout.Solves.{rule_named}
use Rattle.ftl_order.specs.orders.Lawful.{IsRule, class_of_rule}
use Rattle.ftl_grammar.specs.declared.syntax.rules.Grammar.{Grammar}
use Rattle.ftl_grammar.specs.declared.syntax.rules.Rule as written
use Rattle.ftl_meaning.specs.formulas.Expressions.{formula_of}
use Rattle.ftl_meaning.specs.formulas.Formula.{reads_of}
use Rattle.ftl_meaning.specs.faults.Allowed.{leaf_of}
use Rattle.ftl_meaning.specs.faults.FirstFault.{first_fault}
use Rattle.ftl_meaning.specs.faults.Numbering.{class_at}
use Rattle.ftl_meaning.specs.faults.RuleForms.{Form, Slot, form_of, parts_of, slot_of}
use Rattle.ftl_meaning.specs.grammars.GrammarOf.{grammar_of, name_of_rule}
use Rattle.ftl_meaning.specs.grammars.Meaning.{rule_of_form}

-- the rule at this place of a class
abbrev pub StandsAt : Grammar → (class place : ℕ) → written.Rule → Type 0
StandsAt g k n r = slice_get (class_at g k).rules n ≡ Some r

-- what each part of a rule reads is something
abbrev pub EachReadIs : Grammar → (class : ℕ) → Form → Type 0
EachReadIs g k form =
    All (λ part. All (λ name. is_some (leaf_of g k part.0 name) ≡ true) (reads_of (formula_of part.1)))
    (parts_of form)

-- The rule at this place of a class is for something, as no other rule of the class is; it has a form, its reads
-- all are of something, and with the names gone it is the rule for what it is for.
pub record IsKept (g : Grammar) (k n : ℕ) (r : written.Rule) : Type 0 where
  pub slot : Slot
  pub is_for : slot_of g k r.target ≡ Some slot
  pub alone :
      (m : ℕ) (other : written.Rule) → StandsAt g k m other → slot_of g k other.target ≡ Some slot → m ≡ n
  pub form : Form
  pub has_form : form_of g k slot r.body ≡ Some form
  pub reads : EachReadIs g k form
  pub means :
      (greatest : ℕ) → rule_named (grammar_of greatest g) (name_of_rule k slot) ≡ rule_of_form greatest g k form

-- each rule is kept
abbrev pub RulesAreKept : Type 0
RulesAreKept =
    (g : Grammar) → first_fault g ≡ None
    → (k n : ℕ) (r : written.Rule) → k < length g.classes → StandsAt g k n r → IsKept g k n r

-- a rule of this name stands in its class
abbrev pub IsWritten : Grammar → RuleName → Type 0
IsWritten g w =
    (n : ℕ) × (r : written.Rule) × StandsAt g (class_of_rule w) n r
    × (option_map (name_of_rule (class_of_rule w)) (slot_of g (class_of_rule w) r.target) ≡ Some w)

-- each rule that the grammar with its names gone is to have is written
abbrev pub RulesAreWritten : Type 0
RulesAreWritten =
    (g : Grammar) (greatest : ℕ) → first_fault g ≡ None
    → (w : RuleName) → IsRule (grammar_of greatest g) w → IsWritten g w
