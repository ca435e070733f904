-- What a pass takes whole is the document of its text, and the rows and the inputs are those of its tree.
use Rattle.std.proofs.Common.{◌≡◌, ℕ, ◌≤◌, refl, sym, ap, ◌∙◌, subst, arith, List, [], ◌∷◌, ◌++◌, None}
use Rattle.std.proofs.lemmas.Bool.{le-ltb}
use Rattle.std.proofs.lemmas.List.Sums.{sum_by-cons}
use Rattle.ftl_base.specs.Widths.{greatest_of_width}
use Rattle.ftl_model.specs.layout.Limits.{most_instances, most_nodes}
use Rattle.ftl_tokens.specs.declared.scanner.kind.Kind.TheVariants as kind
use Rattle.ftl_tokens.specs.scanner.Tokenized.{fixed, name}
use Rattle.ftl_tokens.specs.reading.Reader.{Tokens}
use Rattle.ftl_tokens.specs.reading.Depth.{IsShallow, count_of}
use Rattle.ftl_grammar.specs.declared.syntax.rules.Grammar.{Grammar}
use Rattle.ftl_meaning.specs.faults.Checked.{CheckedGrammar}
use Rattle.ftl_meaning.specs.faults.FirstFault as grammars
use Rattle.ftl_meaning.specs.faults.Numbering.{interface_number}
use Rattle.ftl_meaning.specs.grammars.GrammarOf.{grammar_of}
use Rattle.ftl_tree.specs.rows.Rows.{AreNodesOf}
use Rattle.ftl_document.specs.declared.faults.fault.DocFault.TheVariants as fault
use Rattle.ftl_document.specs.declared.nodes.all_nodes.DocumentNodes.{DocumentNodes}
use Rattle.ftl_document.specs.faults.DocumentTree.{tree_of}
use Rattle.ftl_document.specs.faults.FirstFault.{fault_if, first_fault, first_node_fault, instance_count_of, too_many_instances}
use Rattle.ftl_document.specs.faults.Nodes.{class_number, nodes_in, nodes_of, standing}
use Rattle.ftl_document.specs.nodes.Walk.{width_of}
use Rattle.ftl_document.specs.plain.Plain.{plain_tokens}
use Rattle.ftl_document.specs.reading.OfText.{AreNodesOfText}
use Rattle.ftl_document.specs.reading.ReadTree.{checked_tree}
use Rattle.ftl_document.specs.syntax.Braces.{braces, deepest}
use Rattle.ftl_document.specs.syntax.Spelling.{SpellsNode, node_of}
use Rattle.ftl_document.specs.syntax.Written.{WrittenNode, written_node}
use Rattle.ftl_document.specs.pass.Good.{State}
use Rattle.ftl_document.specs.pass.Parts.{first_state}
use Rattle.ftl_document.specs.pass.Steps.{IsGoodDocument}
use Rattle.ftl_document.proofs.faults.InstanceCounts.{instances_counted}
use Rattle.ftl_document.proofs.faults.RightTrees.{faultless_is_tree}
use Rattle.ftl_document.proofs.faults.WrittenFaultless.{none_first}
use Rattle.ftl_document.proofs.faults.WrittenRight.{there_none}
use Rattle.ftl_document.proofs.nodes.WrittenRows.{inputs_of_tree, rows_of_tree, trees_counted}
use Rattle.ftl_document.proofs.plain.PlainScan.{plain_scanned}
use Rattle.ftl_document.proofs.plain.TextDocuments.{document_goes_on}
use Rattle.ftl_document.proofs.syntax.Shallow.{low_document}
use Rattle.ftl_document.proofs.syntax.SizeLemmas.{document-opened}
use Rattle.ftl_document.proofs.pass.Meaning.{SomeNode, node_mean}

module _ (c : CheckedGrammar) (text : List ℕ) (t : State) (lawful : grammars.first_fault c.grammar ≡ None)
    (good : IsGoodDocument c.grammar (greatest_of_width c.width) (first_state (greatest_of_width c.width) text) t) where
  abbrev g : Grammar
  g = c.grammar

  abbrev greatest : ℕ
  greatest = greatest_of_width c.width

  taken : SomeNode g lawful greatest deepest (interface_number g g.root) 0 0 0 (first_state greatest text) t
  taken = node_mean g lawful greatest good.node

  abbrev node : WrittenNode
  node = written_node taken.class taken.fields

  spells : SpellsNode (plain_tokens greatest text) node
  spells =
      subst (λ (ts : Tokens). SpellsNode ts node)
      (sym (taken.mean.tokens
      ∙ ap (λ (ts : Tokens). name taken.class ∷ fixed kind.LeftBrace ∷ (taken.mean.front ++ (fixed kind.RightBrace ∷ ts))) good.done.ends))
      (node_of taken.mean.spells)

  no_node_fault : first_node_fault g node ≡ None
  no_node_fault = none_first g lawful greatest 0 (nodes_of g node) (taken.mean.own, taken.mean.fine)

  instances : instance_count_of g node ≡ t.count
  instances =
      let one = taken.mean.count in
      let two = sum_by-cons (width_of g) (standing (interface_number g g.root) taken.class taken.fields)
      (nodes_in g (class_number g taken.class) taken.fields) in
      omega (arith, one, two)

  no_fault : first_fault g node ≡ None
  no_fault =
      let few = good.done.few_instances in
      let same = instances in
      let within : instance_count_of g node ≤ most_instances = omega (arith, few, same) in
      there_none (first_node_fault g node) (too_many_instances (instance_count_of g node) ∷ []) no_node_fault
      (there_none (too_many_instances (instance_count_of g node)) []
      (ap (λ b. fault_if b (fault.TooManyInstances (instance_count_of g node))) (le-ltb most_instances (instance_count_of g node) within)) refl)

  are_nodes : (found : DocumentNodes) → found.rows.items ≡ t.rows → found.inputs.items ≡ t.inputs
      → AreNodesOf (grammar_of greatest g) (tree_of g node) found.rows.items found.inputs.items
  are_nodes found rows inputs =
      let trees = trees_counted g (class_number g taken.class) taken.fields in
      let number = taken.mean.number in
      let few = good.done.few_nodes in
      let counted = instances_counted g greatest node in
      let same = instances in
      let few_instances = good.done.few_instances in (
        record {
          is_tree = faultless_is_tree greatest g lawful node no_node_fault taken.mean.within;
          rows_are = rows ∙ taken.mean.rows ∙ sym (rows_of_tree g node no_node_fault);
          few_nodes = omega (arith, trees, number, few);
          few_instances = omega (arith, counted, same, few_instances);
        },
        inputs ∙ taken.mean.inputs ∙ sym (inputs_of_tree g node),
      )

  opened : count_of braces.opening (plain_tokens greatest text) ≤ most_nodes
  opened =
      let number = taken.mean.number in
      let few = good.done.few_nodes in
      omega (arith, number, few, document-opened spells)

  shallow : IsShallow braces 512 (plain_tokens greatest text)
  shallow = low_document 512 (plain_tokens greatest text) node spells taken.mean.levels

  pub nodes_of_text : (found : DocumentNodes) → found.rows.items ≡ t.rows → found.inputs.items ≡ t.inputs
      → AreNodesOfText c text found
  nodes_of_text found rows inputs =
      let all = plain_scanned greatest text (document_goes_on (plain_tokens greatest text) node spells) in
      record {
        tree = checked_tree c node;
        of_text = record {
          tokens = all.tokens;
          scanned = all.scanned;
          reads = record {
            node = node;
            spelled = record {
              spells = subst (λ (ts : Tokens). SpellsNode ts node) (sym all.said) spells;
              shallow = subst (IsShallow braces 512) (sym all.said) shallow;
              few = subst (λ (ts : Tokens). count_of braces.opening ts ≤ most_nodes) (sym all.said) opened;
            };
            none = no_fault;
            is = refl;
          };
        };
        nodes = are_nodes found rows inputs;
      }

-- the same for a greatest number that is the width's
pub good_nodes : (c : CheckedGrammar) (greatest : ℕ) (text : List ℕ) (t : State) (found : DocumentNodes)
    → grammars.first_fault c.grammar ≡ None → greatest ≡ greatest_of_width c.width
    → IsGoodDocument c.grammar greatest (first_state greatest text) t → found.rows.items ≡ t.rows
    → found.inputs.items ≡ t.inputs → AreNodesOfText c text found
good_nodes c greatest text t found lawful width good rows inputs =
    nodes_of_text c text t lawful (subst (λ n. IsGoodDocument c.grammar n (first_state n text) t) width good) found rows inputs
