use Rattle.std.proofs.Common.{◌≡◌, SFits, ap, sym, ◌∙◌, arith, of_z, rules, string_bytes, to_z, w64}
use Rattle.std.proofs.lemmas.Grind.{common_steps}
use Rattle.std.proofs.lemmas.Int.{to_z-of_z}
use Rattle.ftl_deps.specs.reads.Meant.{meant}
use Rattle.ftl_model.proofs.lists.Elements.{filter_has}
use Rattle.ftl_meaning.specs.grammars.GrammarOf.{declaration_at, sort_of}
use Rattle.ftl_model.specs.layout.AttributeGrammar.{attributes_of, is_input}
use Rattle.ftl_document_printing.specs.trees.Left.{class_in, node_of, number_in}
use Rattle.ftl_document_printing.proofs.trees.Attributes.{attribute_there, input_field_ok, kind_is, no_field, declared_is}
use Rattle.ftl_document_printing.proofs.trees.WriterPlaces.{class_within}
use Rattle.ftl_document_printing.proofs.trees.inputs.write_attribute.Goals as goal

pub attr-requires : goal.attr-requires
attr-requires c =
    let t = c.args.tree.now in
    let known = class_within t c.tree_is_lawful.ensures.is_tree c.args.node c.requires.node in
    let there = attribute_there t.checked c.tree_is_lawful.ensures.faultless (class_in t
    (node_of t c.args.node)) c.args.attr known c.requires.attr in
    grind (arith, common_steps)

pub input-requires-clause-attr : goal.input-requires-clause-attr
input-requires-clause-attr c =
    let t = c.args.tree.now in
    let known = class_within t c.tree_is_lawful.ensures.is_tree c.args.node c.requires.node in
    let there = attribute_there t.checked c.tree_is_lawful.ensures.faultless (class_in t
    (node_of t c.args.node)) c.args.attr known c.requires.attr in
    let kind = kind_is t c.args.attr c.attr.result c.checked.result.now c.checked.ensures.grammar c.attr.ensures.info
    there in
    filter_has (λ a. is_input ((meant t.checked).sort a)) (attributes_of (meant t.checked) (class_in t
    (node_of t c.args.node))) c.args.attr c.requires.attr
    (ap (λ k. is_input (sort_of k)) (sym kind) ∙ sym c.is_input_kind.ensures.input ∙ c.if-is_input_kind.true)

pub returns-in_ok-write_field : goal.returns-in_ok-write_field
returns-in_ok-write_field c =
    let t = c.args.tree.now in
    let p = node_of t c.args.node in
    let known = class_within t c.tree_is_lawful.ensures.is_tree c.args.node c.requires.node in
    let there = attribute_there t.checked c.tree_is_lawful.ensures.faultless
    (class_in t p) c.args.attr known c.requires.attr in
    let kind = kind_is t c.args.attr c.attr.result c.checked.result.now c.checked.ensures.grammar c.attr.ensures.info
    there in
    let told = declared_is t.checked.grammar c.args.attr there in
    let named : c.attr_name.result.now
    ≡ (declaration_at t.checked.grammar c.args.attr).name = grind (arith, common_steps) in
    let fits : SFits w64 c.input.result = search rules in
    let same : number_in t p c.args.attr ≡ c.input.result = (let is = c.input.ensures.input in cc) in
    let valued = to_z-of_z w64 c.input.result fits ∙ sym same in
    record {
      text = input_field_ok c.write_integer.result t p c.args.attr c.attr_name.result.now (to_z w64
          (of_z w64 c.input.result))
          (string_bytes c.args.out.now) (string_bytes c.write_field.new.out) (string_bytes c.write_integer.new.out)
          (ap (λ k. is_input (sort_of k)) (sym kind) ∙ sym c.is_input_kind.ensures.input ∙ c.if-is_input_kind.true)
          named valued c.in_ok-write_field.ensures.text c.write_integer.ensures.text;
    }

pub returns-else-is_input_kind : goal.returns-else-is_input_kind
returns-else-is_input_kind c =
    let t = c.args.tree.now in
    let p = node_of t c.args.node in
    let known = class_within t c.tree_is_lawful.ensures.is_tree c.args.node c.requires.node in
    let there = attribute_there t.checked c.tree_is_lawful.ensures.faultless
    (class_in t p) c.args.attr known c.requires.attr in
    let kind = kind_is t c.args.attr c.attr.result c.checked.result.now c.checked.ensures.grammar c.attr.ensures.info
    there in
    record {
      text = no_field t p c.args.attr _
          (ap (λ k. is_input (sort_of k)) (sym kind) ∙ sym c.is_input_kind.ensures.input ∙ c.if-is_input_kind.false);
    }
