use Rattle.std.proofs.Common.{ℕ, ◌<◌, length, sym, ap, ◌∙◌, subst}
use Rattle.ftl_model.specs.layout.Path.{class_at, node_at}
use Rattle.ftl_order.proofs.orders.Kids.{class_known}
use Rattle.ftl_deps.specs.reads.Meant.{meant}
use Rattle.ftl_meaning.specs.faults.Checked.{CheckedGrammar, field_named}
use Rattle.ftl_tree.proofs.rows.Access.{has_at}
use Rattle.ftl_edits.specs.meaning.Meaning.{input_in, input_named}
use Rattle.ftl_edits.proofs.meaning.Inputs.{input_is}
use Rattle.ftl_edits.proofs.meaning.find.found_input.Goals as goal

-- the class of a node is one of the grammar
pub find_field-requires : goal.find_field-requires
find_field-requires c = record {
  within =
      let t = c.args.tree.now in
      let g = meant t.checked in
      let tree = c.node_count-count.ensures.is_tree in
      let known =
      class_known g t.tree tree (node_at t.tree c.args.node)
      (has_at g t.tree c.args.node tree c.requires.node) in
      subst (λ (k : CheckedGrammar). c.class-class.result < length k.grammar.classes) c.requires.tree
      (subst (λ (n : ℕ). n < length t.checked.grammar.classes) (sym c.class-class.ensures.class) known);
}

pub returns : goal.returns
returns c = record {
  input =
      let t = c.args.tree.now in
      let name = c.args.written.now.name in
      c.input_in.ensures.input
      ∙ ap input_in
      (c.find_field.ensures.field
      ∙ ap (λ (k : CheckedGrammar). field_named k.grammar c.class-class.result c.text.result.now) (sym c.requires.tree)
      ∙ ap (λ x. field_named t.checked.grammar c.class-class.result x) c.text.ensures.text)
      ∙ input_is t.checked.grammar c.class-class.result name
      ∙ ap (λ k. input_named t.checked.grammar k name) c.class-class.ensures.class
      ∙ ap (λ n. input_named t.checked.grammar (class_at t.tree (node_at t.tree n)) name) c.requires.is_node;
}
