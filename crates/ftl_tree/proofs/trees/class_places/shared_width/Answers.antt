use Rattle.std.proofs.Common.{[], ap, ap₂, arith, get_or, length, ◌∙◌}
use Rattle.std.proofs.lemmas.List.{get_or_default}
use Rattle.ftl_grammar.specs.syntax.Trees as trees
use Rattle.ftl_grammar.specs.declared.syntax.rules.Grammar.{Grammar}
use Rattle.ftl_grammar.specs.declared.syntax.rules.Interface.{Interface}
use Rattle.ftl_meaning.specs.faults.Numbering.{interface_of}
use Rattle.ftl_meaning.proofs.lawful.RequiredRules.{interface_known}
use Rattle.ftl_tree.proofs.trees.Classes.{few_shared}
use Rattle.ftl_tree.proofs.trees.class_places.shared_width.Goals as goal

pub bounds-interfaces-interface : goal.bounds-interfaces-interface
bounds-interfaces-interface c =
    let g = c.args.checked.now.grammar in
    let list = c.as_slice-interfaces.ensures ∙ ap (λ (x : Grammar). x.interfaces) c.grammar.ensures.grammar in
    omega (
      arith,
      c.interface_of-interface.ensures.interface,
      interface_known g c.grammar.ensures.lawful c.args.class c.requires.class,
      ap length list,
    )

pub overflow_cast-result : goal.overflow_cast-result
overflow_cast-result c =
    let g = c.args.checked.now.grammar in
    let i = interface_of g c.args.class in
    let item = c.index-interfaces-interface.result in
    let list = c.as_slice-interfaces.ensures ∙ ap (λ (x : Grammar). x.interfaces) c.grammar.ensures.grammar in
    let known = interface_known g c.grammar.ensures.lawful c.args.class c.requires.class in
    let is = ap₂ (λ xs n. get_or xs n item) list c.interface_of-interface.ensures.interface
    ∙ get_or_default g.interfaces i item (trees.interface [] [] []) known in
    omega (
      arith,
      c.len.ensures,
      ap (λ (x : Interface). length x.attrs) is,
      few_shared g c.grammar.ensures.lawful 0 i known,
    )

pub returns : goal.returns
returns c =
    let g = c.args.checked.now.grammar in
    let i = interface_of g c.args.class in
    let item = c.index-interfaces-interface.result in
    let list = c.as_slice-interfaces.ensures ∙ ap (λ (x : Grammar). x.interfaces) c.grammar.ensures.grammar in
    let known = interface_known g c.grammar.ensures.lawful c.args.class c.requires.class in
    let is = ap₂ (λ xs n. get_or xs n item) list c.interface_of-interface.ensures.interface
    ∙ get_or_default g.interfaces i item (trees.interface [] [] []) known in
    let width = c.len.ensures ∙ ap (λ (x : Interface). length x.attrs) is in
    record {
      width = width;
      few = omega (arith, width, few_shared g c.grammar.ensures.lawful 0 i known);
    }
