-- What the names that a rule reads stand for, part by part.
use Rattle.std.specs.Prelude.{ℕ, List, [], map, flat_map, slice_index_or, Option, Some, None}
use Rattle.std.specs.Option.{option_and_then, option_to_list}
use Rattle.ftl_model.specs.layout.AttributeGrammar.{each_read, last_read, prev_read, self_read, single_read, this_read}
use Rattle.ftl_grammar.specs.declared.syntax.expression.Expr.{Expr}
use Rattle.ftl_grammar.specs.declared.syntax.rules.Grammar.{Grammar}
use Rattle.ftl_grammar.specs.declared.syntax.rules.Rule.{Rule}
use Rattle.ftl_meaning.specs.formulas.Expressions.{formula_of}
use Rattle.ftl_meaning.specs.formulas.Formula.{reads_of}
use Rattle.ftl_checked.specs.declared.grammars.numbered_read.NumberedRead.{NumberedRead}
use Rattle.ftl_checked.specs.declared.grammars.numbered_read.NumberedRead.TheVariants as code
use Rattle.ftl_checked.specs.declared.grammars.numbered_read.PartReads.{PartReads}
use Rattle.ftl_meaning.specs.faults.Allowed.{Leaf, Position, accumulator, leaf_of, of_read}
use Rattle.ftl_meaning.specs.faults.Checked.{all_rules}
use Rattle.ftl_checked.specs.grammars.Positions.{position_of}
use Rattle.ftl_meaning.specs.faults.RuleForms.{Form, form_of, parts_of, slot_of}

-- what a numbered read stands for
abbrev pub leaf_in : NumberedRead → Leaf
leaf_in (code.Own a) = of_read (self_read a)
leaf_in (code.Single c a) = of_read (single_read c a)
leaf_in (code.Each c a) = of_read (each_read c a)
leaf_in (code.This c a) = of_read (this_read c a)
leaf_in (code.Prev c a) = of_read (prev_read c a)
leaf_in (code.Last c a) = of_read (last_read c a)
leaf_in code.Acc = accumulator

-- what the names that an expression reads stand for, in the order of the text
abbrev pub leaves_of : Grammar → (class : ℕ) → Position → Expr → List Leaf
leaves_of g k at e = flat_map (λ name. option_to_list (leaf_of g k at name)) (reads_of (formula_of e))

-- the expressions of a form, if there is one
abbrev pub parts_by : Option Form → List (Position × Expr)
parts_by None = []
parts_by (Some form) = parts_of form

-- the expressions of a rule of this class, each with its position; none where the rule has no right form
abbrev pub rule_parts : Grammar → (class : ℕ) → Rule → List (Position × Expr)
rule_parts g k r = parts_by (option_and_then (λ slot. form_of g k slot r.body) (slot_of g k r.target))

-- the position of an expression, and what the names that it reads stand for
abbrev pub part_leaves : Grammar → (class : ℕ) → Position × Expr → Position × List Leaf
part_leaves g k part = (part.0, leaves_of g k part.0 part.1)

-- what a rule of a class reads, part by part
abbrev pub rule_leaves : Grammar → ℕ × Rule → List (Position × List Leaf)
rule_leaves g r = map (part_leaves g r.0) (rule_parts g r.0 r.1)

-- the same of the rule of this number; past the end nothing
abbrev pub rule_leaves_at : Grammar → (rule : ℕ) → List (Position × List Leaf)
rule_leaves_at g n = slice_index_or (map (rule_leaves g) (all_rules g)) n []

-- what an expression reads as code has it
abbrev pub leaves_in : PartReads → Position × List Leaf
leaves_in part = (position_of part.at, map leaf_in part.reads)
