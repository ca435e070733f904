-- What explains that a schedule is refused for a pair: an example, or that there is none, or none that is small enough.
use Rattle.std.specs.Prelude.{◌≡◌, ℕ, ◌≤◌, List, ◌++◌, codes, ◌⊎◌}
use Rattle.std.specs.Fmt.{decimal}
use Rattle.std.specs.List.{flat_map}
use Rattle.ftl_deps.specs.reads.Meant.{meant}
use Rattle.ftl_document.specs.faults.WrittenOf.{written_of}
use Rattle.ftl_document_printing.specs.text.DocumentText.{document_text}
use Rattle.ftl_example.specs.shows.Examples.{AllAreLarger, NoneShows}
use Rattle.ftl_grammar.specs.declared.syntax.rules.Grammar.{Grammar}
use Rattle.ftl_meaning.specs.faults.Checked.{CheckedGrammar, attribute_at}
use Rattle.ftl_model.specs.layout.Path.{number_of}
use Rattle.ftl_model.specs.layout.Solves.{Instance}
use Rattle.ftl_model.specs.layout.Tree.{Forest, size}
use Rattle.ftl_nest_check.specs.stages.Nested.{nests_of}
use Rattle.ftl_nest_check.specs.declared.stages.types.NestingSchedule.{NestingSchedule}
use Rattle.ftl_example.specs.nests.examples.NestExamples.{IsNumberedNestExample}
use Rattle.ftl_example.specs.nests.pairs.NestPair.{IsNestFaultPair}
use Rattle.ftl_order.specs.orders.Pairs.{Pair}

-- ---- texts

-- a line of the number of a node and the name of an attribute
abbrev pub attribute_line : Grammar → (node attribute : ℕ) → List ℕ
attribute_line g node attribute =
    decimal node ++ (codes " " ++ ((attribute_at g attribute).decl.name ++ codes "\n"))

-- the line of an instance of a tree
abbrev pub instance_line : Grammar → Forest → Instance → List ℕ
instance_line g t i = attribute_line g (number_of t i.node) i.attribute

-- an example: the instance that reads, the one that is read, the tree as a document, and an order of its computed
-- instances
abbrev pub example_text : Grammar → Forest → (reading written : Instance) → (order : List Instance) → List ℕ
example_text g t reading written order =
    codes "reader " ++ (instance_line g t reading ++ (codes "writer " ++ (instance_line g t written
    ++ (document_text (written_of g t) ++ flat_map (instance_line g t) order))))

-- no tree shows the pair
abbrev pub no_tree_text : List ℕ
no_tree_text = codes "no tree shows the pair\n"

-- some tree does, and each that does is larger than an example may be
abbrev pub larger_trees_text : List ℕ
larger_trees_text = codes "each tree that shows the pair has more than 512 nodes\n"

-- ---- which texts explain

-- the text of an example of the pair
abbrev pub IsTextOfExample : CheckedGrammar → NestingSchedule → Pair → (text : List ℕ) → Type 0
IsTextOfExample c s pair text =
    (t : Forest) × (reader writer : ℕ) × (order : List ℕ)
    × (e : IsNumberedNestExample (meant c) (nests_of s) pair t reader writer order) × (size t ≤ 512)
    × (text ≡ example_text c.grammar t e.reading e.written e.steps)

-- the text says what trees show the pair: none, only larger ones than an example may be, or an example
abbrev pub Explains : CheckedGrammar → NestingSchedule → Pair → (text : List ℕ) → Type 0
Explains c s pair text =
    (NoneShows (meant c) pair × (text ≡ no_tree_text))
    ⊎ ((AllAreLarger (meant c) pair 512 × (text ≡ larger_trees_text)) ⊎ IsTextOfExample c s pair text)

-- the text explains the pair of the schedule's first fault
abbrev pub IsExplanation : CheckedGrammar → NestingSchedule → (text : List ℕ) → Type 0
IsExplanation c s text = (pair : Pair) × IsNestFaultPair (meant c) (nests_of s) pair × Explains c s pair text
