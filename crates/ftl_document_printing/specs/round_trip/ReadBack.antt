-- A tree that is printed is read back.
use Rattle.std.specs.Prelude.{◌≡◌, ℕ, ◌<◌, ◌≤◌, List, length, None, Ok}
use Rattle.std.specs.List.{AllByRecursion}
use Rattle.ftl_model.specs.layout.Limits.{most_instances}
use Rattle.ftl_base.specs.Widths.{greatest_of_width}
use Rattle.ftl_deps.specs.reads.Meant.{meant}
use Rattle.ftl_document.specs.reading.ReadTree.{IsTreeRead}
use Rattle.ftl_document.specs.faults.FirstFault.{input_names}
use Rattle.ftl_document.specs.faults.WrittenOf.{written_of}
use Rattle.ftl_model.specs.layout.Limits.{most_nodes}
use Rattle.ftl_document.specs.syntax.Braces.{deepest}
use Rattle.ftl_document_printing.specs.text.DocumentText.{IsSaid, document_text}
use Rattle.ftl_meaning.specs.faults.Checked.{CheckedGrammar}
use Rattle.ftl_meaning.specs.faults.FirstFault.{first_fault}
use Rattle.ftl_meaning.specs.faults.Numbering.{class_at}
use Rattle.ftl_model.specs.layout.Table.{instance_count}
use Rattle.ftl_model.specs.layout.Tree.{Forest, depth, size}
use Rattle.ftl_model.specs.layout.TreeOf.{IsTreeOf}
use Rattle.ftl_grammar.specs.declared.syntax.rules.Grammar.{Grammar}
use Rattle.ftl_grammar.specs.reading.Readable.{CanBeRead}
use Rattle.ftl_tokens.specs.scanner.Scan.{scan}
use Rattle.ftl_tokens.specs.scanner.Tokenized.{WideTokenized}
use Rattle.ftl_tokens.specs.declared.scanner.kind.Token.{Token}
use Rattle.ftl_tree.specs.trees.CheckedTree.{CheckedTree}

-- the names that stand in a node of this class can be said: its own, and those of its inputs and children
pub record IsClassSaid (g : Grammar) (class : ℕ) : Type 0 where
  pub name : IsSaid (class_at g class).name
  pub inputs : AllByRecursion IsSaid (input_names g class)
  pub children : AllByRecursion (λ c. IsSaid c.name) (class_at g class).children

-- so it is of each class
abbrev pub AreClassesSaid : Grammar → Type 0
AreClassesSaid g = (class : ℕ) → class < length g.classes → IsClassSaid g class

-- a tree of the grammar that is within the limits of documents
pub record IsPrintable (c : CheckedGrammar) (t : Forest) : Type 0 where
  pub is_tree : IsTreeOf (meant c) t
  pub nodes : size t ≤ most_nodes
  pub levels : depth t ≤ deepest
  pub instances : instance_count (meant c) t ≤ most_instances

-- a text with its tokens, in the width of the grammar
abbrev pub scanned_as : CheckedGrammar → (text : List ℕ) → List Token → WideTokenized
scanned_as c text tokens =
    record { tokenized = record { text = text; tokens = tokens }; greatest = greatest_of_width c.width }

-- a tree that was read is within these limits
abbrev pub ReadArePrintable : Type 0
ReadArePrintable =
    (c : CheckedGrammar) (scanned : WideTokenized) (t : CheckedTree) → IsTreeOf (meant c) t.tree
    → IsTreeRead c scanned t → IsPrintable c t.tree

-- the names of a grammar that can be read can be said
abbrev pub ReadableAreSaid : Type 0
ReadableAreSaid = (g : Grammar) → CanBeRead g → AreClassesSaid g

-- the text has tokens in the width of the grammar, and what is read of them is the tree
pub record IsReadBack (c : CheckedGrammar) (t : Forest) (text : List ℕ) : Type 0 where
  pub tokens : List Token
  pub scanned : scan (greatest_of_width c.width) text ≡ Ok tokens
  pub read : IsTreeRead c (scanned_as c text tokens) (record { checked = c; tree = t })

-- the canonical text of a tree is read back, where the grammar has no fault and its names can be said
abbrev pub PrintedAreReadBack : Type 0
PrintedAreReadBack =
    (c : CheckedGrammar) (t : Forest) → first_fault c.grammar ≡ None → AreClassesSaid c.grammar → IsPrintable c t
    → IsReadBack c t (document_text (written_of c.grammar t))

-- and so is that of a tree that was read, by a grammar that was read
abbrev pub ReadAreReadBack : Type 0
ReadAreReadBack =
    (c : CheckedGrammar) (scanned : WideTokenized) (t : CheckedTree) → first_fault c.grammar ≡ None
    → CanBeRead c.grammar → IsTreeOf (meant c) t.tree → IsTreeRead c scanned t
    → IsReadBack c t.tree (document_text (written_of c.grammar t.tree))
