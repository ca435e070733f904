-- A tree that was read is within the limits of documents, and is read back.
use Rattle.std.proofs.Common.{◌≡◌, refl, ℕ, ◌≤◌, Bool, true, false, cond, [], ◌∷◌, Option, Some, None, nat_lt, ap, ◌∙◌, sym, arith}
use Rattle.std.proofs.lemmas.Bool.{ltb-false}
use Rattle.ftl_base.specs.Widths.{greatest_of_width}
use Rattle.ftl_deps.specs.reads.Meant.{meant}
use Rattle.ftl_document.specs.faults.DocumentTree.{tree_of}
use Rattle.ftl_document.specs.faults.FirstFault.{fault_if, first_fault, first_node_fault, first_there, instance_count_of}
use Rattle.ftl_document.specs.faults.FirstFault.{too_many_instances}
use Rattle.ftl_document.specs.reading.ReadTree.{IsTreeRead}
use Rattle.ftl_document.specs.syntax.Braces.{deepest}
use Rattle.ftl_document.specs.syntax.Sizes.{levels_of}
use Rattle.ftl_document.specs.syntax.Written.{WrittenNode}
use Rattle.ftl_document.specs.declared.faults.fault.DocFault.{DocFault}
use Rattle.ftl_document.specs.declared.faults.fault.DocFault.TheVariants as fault
use Rattle.ftl_document.proofs.syntax.Heights.{shallow_height}
use Rattle.ftl_document.proofs.syntax.SizeLemmas.{document-levels}
use Rattle.ftl_grammar.specs.declared.syntax.rules.Grammar.{Grammar}
use Rattle.ftl_grammar.specs.reading.Readable.{CanBeRead}
use Rattle.ftl_meaning.specs.faults.Checked.{CheckedGrammar}
use Rattle.ftl_meaning.specs.faults.FirstFault as grammars
use Rattle.ftl_model.specs.layout.Limits.{most_instances}
use Rattle.ftl_model.specs.layout.Table.{instance_count}
use Rattle.ftl_model.specs.layout.Tree.{Forest, depth, size}
use Rattle.ftl_model.specs.layout.TreeOf.{IsTreeOf}
use Rattle.ftl_tokens.specs.scanner.Tokenized.{WideTokenized, symbols_of}
use Rattle.ftl_tree.specs.trees.CheckedTree.{CheckedTree}
use Rattle.ftl_document_printing.specs.round_trip.ReadBack.{IsPrintable, IsReadBack}
use Rattle.ftl_document_printing.specs.text.DocumentText.{document_text}
use Rattle.ftl_document.specs.faults.WrittenOf.{written_of}
use Rattle.ftl_document_printing.proofs.round_trip.ReadAgain.{Laws, read_again}
use Rattle.ftl_document_printing.proofs.round_trip.ReadNames.{names_are_said}
use Rattle.ftl_document_printing.proofs.round_trip.TreeSizes.{depth-tree_of, size-tree_of}

-- where the first fault is none, the instances are not too many
few_instances : (g : Grammar) (node : WrittenNode) → first_fault g node ≡ None → instance_count_of g node ≤ most_instances
few_instances g node none = by (first_node_fault g node) (nat_lt most_instances (instance_count_of g node)) refl none
  where
    many : DocFault
    many = fault.TooManyInstances (instance_count_of g node)

    by : (first : Option DocFault) (over : Bool) → nat_lt most_instances (instance_count_of g node) ≡ over
        → first_there (first ∷ fault_if over many ∷ []) ≡ None → instance_count_of g node ≤ most_instances
    by (Some x) over is e = absurd cc
    by None true is e = absurd cc
    by None false is e = ltb-false most_instances (instance_count_of g node) is

pub read_is_printable : Laws → (c : CheckedGrammar) (scanned : WideTokenized) (t : CheckedTree)
    → IsTreeOf (meant c) t.tree → IsTreeRead c scanned t → IsPrintable c t.tree
read_is_printable laws c scanned t is_tree read =
    let g = c.grammar in
    let node = read.node in
    let tokens = symbols_of scanned.tokenized in
    let is : t.tree ≡ tree_of g node = ap (λ (u : CheckedTree). u.tree) read.is in
    let low = shallow_height deepest tokens read.spelled.shallow in
    record {
      is_tree = is_tree;
      nodes =
          omega (
            arith,
            ap size is,
            size-tree_of g node,
            laws.opened tokens node read.spelled.spells,
            read.spelled.few,
          );
      levels =
          omega (arith, ap depth is, depth-tree_of g node, document-levels read.spelled.spells, low);
      instances =
          omega (
            arith,
            ap (instance_count (meant c)) is,
            laws.counts g (greatest_of_width c.width) node,
            few_instances g node read.none,
          );
    }

pub read_is_read_back : Laws → (c : CheckedGrammar) (scanned : WideTokenized) (t : CheckedTree)
    → grammars.first_fault c.grammar ≡ None → CanBeRead c.grammar → IsTreeOf (meant c) t.tree → IsTreeRead c scanned t
    → IsReadBack c t.tree (document_text (written_of c.grammar t.tree))
read_is_read_back laws c scanned t lawful readable is_tree read =
    read_again laws c t.tree lawful (names_are_said c.grammar readable) (read_is_printable laws c scanned t is_tree read)
