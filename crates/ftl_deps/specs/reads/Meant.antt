-- What the rules of a checked grammar read, by number.
use Rattle.std.specs.Prelude.{ℕ, ◌<◌, List, length, map, flat_map, IfSome}
use Rattle.std.specs.Option.{option_map, option_to_list}
use Rattle.ftl_base.specs.Widths.{greatest_of_width}
use Rattle.ftl_model.specs.layout.AttributeGrammar.{AttributeGrammar, Read}
use Rattle.ftl_grammar.specs.declared.syntax.rules.Grammar.{Grammar}
use Rattle.ftl_meaning.specs.faults.Allowed.{Leaf, Position}
use Rattle.ftl_meaning.specs.faults.Checked.{CheckedGrammar}
use Rattle.ftl_meaning.specs.faults.Numbering.{class_at}
use Rattle.ftl_checked.specs.grammars.ReadNumbers.{leaf_in}
use Rattle.ftl_checked.specs.declared.grammars.numbered_read.NumberedRead.{NumberedRead}
use Rattle.ftl_checked.specs.declared.grammars.numbered_read.PartReads.{PartReads}
use Rattle.ftl_order.specs.dependencies.DepReads.{dep_read}
use Rattle.ftl_order.specs.declared.dependencies.dep_read.DepRead.{DepRead}
use Rattle.ftl_meaning.specs.grammars.GrammarOf.{grammar_of}
use Rattle.ftl_meaning.specs.grammars.Meaning.{read_of}

-- the grammar with its names gone, in its width
abbrev pub meant : CheckedGrammar → AttributeGrammar
meant c = grammar_of (greatest_of_width c.width) c.grammar

-- the reads among some names by number
abbrev pub deps_in : AttributeGrammar → List NumberedRead → List DepRead
deps_in m reads = flat_map (λ r. option_to_list (option_map (dep_read m) (read_of (leaf_in r)))) reads

-- the same of a part of a rule
abbrev pub part_deps : AttributeGrammar → PartReads → List DepRead
part_deps m part = deps_in m part.reads

-- the reads among what names stand for
abbrev pub reads_among : List Leaf → List Read
reads_among leaves = flat_map (λ leaf. option_to_list (read_of leaf)) leaves

-- what a rule reads, one expression after the other
abbrev pub deps_by_leaves : AttributeGrammar → List (Position × List Leaf) → List DepRead
deps_by_leaves m parts = map (dep_read m) (flat_map (λ part. reads_among part.1) parts)

-- the child that is read, where there is one, is a child of this class
abbrev pub HasKnownChild : Grammar → (class : ℕ) → DepRead → Type 0
HasKnownChild g k d = IfSome d.child (λ c. c < length (class_at g k).children)
