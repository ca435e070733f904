-- What a class needs rules for, attribute by attribute.
use Rattle.std.specs.Prelude.{ℕ, not, if◌then◌else◌, List, map, Option, Some, None}
use Rattle.ftl_grammar.specs.declared.syntax.rules.AttrDecl.{AttrDecl}
use Rattle.ftl_grammar.specs.declared.syntax.rules.Child.{Child}
use Rattle.ftl_grammar.specs.declared.syntax.rules.Class.{Class}
use Rattle.ftl_grammar.specs.declared.syntax.rules.Grammar.{Grammar}
use Rattle.ftl_grammar.specs.declared.syntax.rules.Target.{Target}
use Rattle.ftl_grammar.specs.declared.syntax.rules.Target.TheVariants as targets
use Rattle.ftl_meaning.specs.declared.faults.fault.GrammarFault.{GrammarFault}
use Rattle.ftl_meaning.specs.declared.faults.fault.GrammarFault.TheVariants as fault
use Rattle.ftl_meaning.specs.declared.faults.info.RuleInfo.{RuleInfo}
use Rattle.ftl_checked.specs.declared.grammars.missing_rules.KidOf.{KidOf}
use Rattle.ftl_meaning.specs.faults.Allowed.{Leaf, Position}
use Rattle.ftl_meaning.specs.faults.Checked.{info_by}
use Rattle.ftl_checked.specs.grammars.ReadNumbers.{rule_leaves}
use Rattle.ftl_meaning.specs.faults.FirstFault.{fault_if, first_of, is_ruled, rule_name}
use Rattle.ftl_meaning.specs.faults.Numbering.{child_attributes, class_at}
use Rattle.ftl_meaning.specs.faults.RuleForms.{Slot, is_inherited, is_synthesized_or_local, kid_slot, own_slot, slot_of}

-- a slot that has no rule
abbrev pub missing_rule_fault : Grammar → (class : ℕ) → Slot → Target → Option GrammarFault
missing_rule_fault g k slot target =
    fault_if (not (is_ruled g k slot)) (fault.MissingRule (rule_name (class_at g k) target))

-- an attribute of the node itself, or of the kids in a child, that needs a rule and has none
abbrev pub missing_of : Grammar → (class : ℕ) → Option (ℕ × Child) → ℕ × AttrDecl → Option GrammarFault
missing_of g k None a =
    if is_synthesized_or_local a.1.kind then missing_rule_fault g k (own_slot a.0) (targets.Own a.1.name) else None
missing_of g k (Some c) a =
    if is_inherited a.1.kind then missing_rule_fault g k (kid_slot c.0 a.0) (targets.Of c.1.name a.1.name) else None

-- the first of a child
unfoldable pub missing_for_kid : Grammar → (class : ℕ) → ℕ × Child → Option GrammarFault
missing_for_kid g k c = first_of (missing_of g k (Some c)) (child_attributes g c.1)

-- a child with its number
abbrev pub kid_in : KidOf → ℕ × Child
kid_in kid = (kid.number, kid.child.now)

-- what is known of the rules of a class
abbrev pub infos_of : Grammar → ℕ × Class → List RuleInfo
infos_of g k = map (λ r. info_by k.0 (slot_of g k.0 r.target)) k.1.rules

-- what its rules read
abbrev pub reads_of_class : Grammar → ℕ × Class → List (List (Position × List Leaf))
reads_of_class g k = map (λ r. rule_leaves g (k.0, r)) k.1.rules
