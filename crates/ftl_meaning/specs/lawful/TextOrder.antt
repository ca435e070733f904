-- The reads of a rule by number are those of its expressions, in the order of the text.
use Rattle.std.specs.Prelude.{◌≡◌, ℕ, ◌<◌, List, length, flat_map, map, None}
use Rattle.ftl_model.specs.layout.AttributeGrammar.{Read}
use Rattle.ftl_grammar.specs.declared.syntax.rules.Grammar.{Grammar}
use Rattle.ftl_grammar.specs.declared.syntax.rules.Rule as written
use Rattle.ftl_meaning.specs.faults.FirstFault.{first_fault}
use Rattle.ftl_meaning.specs.faults.RuleForms.{Form, parts_of}
use Rattle.ftl_order.specs.dependencies.DepReads.{dep_read, rule_reads}
use Rattle.ftl_meaning.specs.grammars.GrammarOf.{grammar_of, name_of_rule}
use Rattle.ftl_meaning.specs.grammars.Meaning.{expression_reads}
use Rattle.ftl_meaning.specs.lawful.Kept.{IsKept, StandsAt}

-- what the expressions of a form read, one after the other
abbrev pub text_reads : Grammar → (class : ℕ) → Form → List Read
text_reads g k form = flat_map (λ part. expression_reads g k part.0 part.1) (parts_of form)

-- of each rule of a grammar without a fault
abbrev pub ReadsStandInTextOrder : Type 0
ReadsStandInTextOrder =
    (g : Grammar) (greatest : ℕ) → first_fault g ≡ None
    → (k n : ℕ) (r : written.Rule) → k < length g.classes → StandsAt g k n r → (kept : IsKept g k n r)
    → rule_reads (grammar_of greatest g) (name_of_rule k kept.slot)
    ≡ map (dep_read (grammar_of greatest g)) (text_reads g k kept.form)
