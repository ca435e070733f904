use Rattle.std.proofs.Common.{◌≡◌, ◌<◌, ℕ, arith, length, ap, subst, Contains}
use Rattle.std.specs.Prelude.{Some}
use Rattle.ftl_base.specs.Widths.{greatest_of_width}
use Rattle.ftl_deps.specs.reads.Meant.{meant}
use Rattle.ftl_meaning.specs.faults.Checked.{CheckedGrammar, field_named}
use Rattle.ftl_meaning.specs.declared.faults.info.Field.TheVariants as field
use Rattle.ftl_meaning.specs.grammars.GrammarOf.{grammar_of}
use Rattle.ftl_model.specs.layout.AttributeGrammar.{class_inputs}
use Rattle.ftl_model.specs.layout.Path.{node_at}
use Rattle.ftl_model.specs.layout.Tree.{size}
use Rattle.ftl_order.proofs.orders.Kids.{class_known}
use Rattle.ftl_grammar.specs.declared.syntax.rules.Grammar.{Grammar}
use Rattle.ftl_tree.proofs.rows.Access.{has_at}
use Rattle.ftl_tree.specs.declared.rows.row.NodeRow.{NodeRow}
use Rattle.ftl_grammar_cases.proofs.NamedInputs.{input_named}
use Rattle.ftl_grammar_cases.proofs.documents.edits.set.Goals as goal

pub find_field-requires : goal.find_field-requires
find_field-requires c =
    let t = c.args.tree.now in
    let within : c.args.node < size t.tree = omega (arith, c.if-node-node_count.false, c.node_count.ensures.count) in
    let known = class_known (meant t.checked) t.tree c.node_count.ensures.is_tree (node_at t.tree c.args.node)
    (has_at (meant t.checked) t.tree c.args.node c.node_count.ensures.is_tree within) in
    let class = ap (λ (r : NodeRow). r.class) c.row-class.ensures.row in
    let same = ap (λ (d : CheckedGrammar). length d.grammar.classes) c.checked-2.ensures.grammar in
    omega (arith, known, class, same)

pub set_input-requires-clause-attr : goal.set_input-requires-clause-attr
set_input-requires-clause-attr c =
    let t = c.args.tree.now in
    let d = c.checked-2.result.now in
    let k = c.row-class.result.class in
    let a = c.in-Some-Input.attr in
    let w = greatest_of_width t.checked.width in
    let named : field_named d.grammar k c.args.name.now ≡ Some (field.Input a) =
    (let found = c.in-Some-Input.ensures.field in let is = c.in-Some-Input.field-0-is in cc) in
    let class = ap (λ (r : NodeRow). r.class) c.row-class.ensures.row in
    subst (λ (m : ℕ). Contains (class_inputs (meant t.checked) m) a) class
    (subst (λ (g : Grammar). Contains (class_inputs (grammar_of w g) k) a)
    (ap (λ (d : CheckedGrammar). d.grammar) c.checked-2.ensures.grammar)
    (input_named w d.grammar k a c.args.name.now named))
