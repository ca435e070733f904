-- What is read of a tree's canonical text is the tree.
use Rattle.std.proofs.Common.{◌≡◌, ℕ, ◌≤◌, [], ◌∷◌, None, false, nat_lt, sym, ◌∙◌, ap, arith}
use Rattle.std.proofs.lemmas.Bool.{false_from_ne_true, ltb-true}
use Rattle.ftl_base.specs.Widths.{greatest_of_width}
use Rattle.ftl_base.specs.declared.width.Width.{Width}
use Rattle.ftl_base.specs.declared.width.Width.TheVariants.{Narrow, Wide}
use Rattle.ftl_deps.specs.reads.Meant.{meant}
use Rattle.ftl_document.specs.faults.DocumentLaws.{CountsInstances, IsWrittenRight, IsWrittenWithin, MeansItsTree}
use Rattle.ftl_document.specs.faults.DocumentLaws.{OfTrees}
use Rattle.ftl_document.specs.faults.DocumentTree.{tree_of}
use Rattle.ftl_document.specs.faults.FirstFault.{fault_if, first_fault, first_node_fault, first_there}
use Rattle.ftl_document.specs.faults.FirstFault.{instance_count_of}
use Rattle.ftl_document.specs.faults.FirstFault.{too_many_instances}
use Rattle.ftl_document.specs.faults.WrittenOf.{written_of}
use Rattle.ftl_model.specs.layout.Limits.{most_nodes}
use Rattle.ftl_document.specs.syntax.Braces.{braces, deepest}
use Rattle.ftl_document.specs.syntax.Sizes.{levels_of, node_count}
use Rattle.ftl_document.specs.syntax.Spelling.{SpellsNode}
use Rattle.ftl_document.specs.syntax.Written.{WrittenNode}
use Rattle.ftl_document_printing.specs.text.DocumentText.{CanBeWritten, IsTextOf, document_text}
use Rattle.ftl_document.specs.declared.faults.fault.DocFault.TheVariants as fault
use Rattle.ftl_grammar.specs.declared.syntax.rules.Grammar.{Grammar}
use Rattle.ftl_meaning.specs.faults.Checked.{CheckedGrammar}
use Rattle.ftl_meaning.specs.faults.FirstFault as grammars
use Rattle.ftl_model.specs.layout.Table.{instance_count}
use Rattle.ftl_model.specs.layout.Tree.{Forest, depth, size}
use Rattle.ftl_tokens.specs.reading.Depth.{IsShallow, count_of}
use Rattle.ftl_tokens.specs.reading.Reader.{Tokens}
use Rattle.ftl_document_printing.specs.round_trip.ReadBack.{AreClassesSaid, IsPrintable, IsReadBack}
use Rattle.ftl_document_printing.proofs.round_trip.SaidNames.{class_said, fields_within, names_said}
use Rattle.ftl_document_printing.proofs.round_trip.TreeSizes.{depth-tree_of, size-tree_of}

-- what the laws of canonical texts and of documents of trees say
pub record Laws : Type 0 where
  pub spells : (greatest : ℕ) (node : WrittenNode) → greatest ≤ 140737488355327 → CanBeWritten greatest node
      → IsTextOf greatest (document_text node) node
  pub shallow : (limit : ℕ) (tokens : Tokens) (node : WrittenNode) → SpellsNode tokens node → levels_of node ≤ limit
      → IsShallow braces limit tokens
  pub opened : (tokens : Tokens) (node : WrittenNode) → SpellsNode tokens node
      → count_of braces.opening tokens ≡ node_count node
  pub means : OfTrees MeansItsTree
  pub right : OfTrees IsWrittenRight
  pub within : OfTrees IsWrittenWithin
  pub counts : CountsInstances

greatest_small : (w : Width) → greatest_of_width w ≤ 140737488355327
greatest_small Narrow = omega arith
greatest_small Wide = omega arith

pub read_again : Laws → (c : CheckedGrammar) (t : Forest) → grammars.first_fault c.grammar ≡ None
    → AreClassesSaid c.grammar → IsPrintable c t → IsReadBack c t (document_text (written_of c.grammar t))
read_again laws c t lawful said can =
    let g = c.grammar in
    let greatest = greatest_of_width c.width in
    let node = written_of g t in
    let back : tree_of g node ≡ t = laws.means g greatest t lawful can.is_tree in
    let levels : levels_of node ≤ deepest = omega (arith, can.levels, sym (depth-tree_of g node) ∙ ap depth back) in
    let nodes : node_count node ≤ most_nodes = omega (arith, can.nodes, sym (size-tree_of g node) ∙ ap size back) in
    let text = laws.spells greatest node (greatest_small c.width) (record {
      class = class_said g said greatest t can.is_tree;
      names = names_said g said greatest t can.is_tree;
      numbers = fields_within greatest node.fields (laws.within g greatest t lawful can.is_tree);
    }) in
    let count : instance_count_of g node ≡ instance_count (meant c) t =
    laws.counts g greatest node ∙ ap (instance_count (meant c)) back in
    let few : nat_lt 33554432 (instance_count_of g node) ≡ false =
    false_from_ne_true _ (λ more.
    absurd
    (let over = ltb-true 33554432 (instance_count_of g node) more in omega (arith, over, count, can.instances))) in
    record {
      tokens = text.tokens;
      scanned = text.scanned;
      read = record {
        node = node;
        spelled = record {
          spells = text.spells;
          shallow = laws.shallow deepest _ node text.spells levels;
          few = omega (arith, laws.opened _ node text.spells, nodes);
        };
        none = none_of g node (laws.right g greatest t lawful can.is_tree) few;
        is = ap (λ u. record { checked = c; tree = u }) (sym back);
      };
    }
  where
    none_of : (g : Grammar) (node : WrittenNode) → first_node_fault g node ≡ None
        → nat_lt 33554432 (instance_count_of g node) ≡ false → first_fault g node ≡ None
    none_of g node right few =
        ap (λ o. first_there (o ∷ too_many_instances (instance_count_of g node) ∷ [])) right
        ∙ ap (λ b. first_there (fault_if b (fault.TooManyInstances (instance_count_of g node)) ∷ [])) few
