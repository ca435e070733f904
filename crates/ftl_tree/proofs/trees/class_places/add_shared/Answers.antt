use Rattle.std.proofs.Common.{◌<◌, ◌++◌, [], ap, arith, flat_map, get_or, length, ◌∙◌}
use Rattle.std.specs.List.{range_with_len}
use Rattle.std.proofs.lemmas.List.{get_or_default, take_all}
use Rattle.ftl_grammar.specs.syntax.Trees as trees
use Rattle.ftl_grammar.specs.declared.syntax.rules.Grammar.{Grammar}
use Rattle.ftl_grammar.specs.declared.syntax.rules.Interface.{Interface}
use Rattle.ftl_tree.proofs.trees.Classes.{few_shared}
use Rattle.ftl_tree.proofs.trees.Places.{one_more}
use Rattle.ftl_tree.proofs.trees.class_places.add_shared.Goals as goal

pub overflow_cast-len : goal.overflow_cast-len
overflow_cast-len c =
    let g = c.args.checked.now.grammar in
    let i = c.loop-interface.interface-index in
    let item = c.interface-item.result in
    let list = c.as_slice-interfaces.ensures ∙ ap (λ (x : Grammar). x.interfaces) c.grammar.ensures.grammar in
    let known : i < length g.interfaces = omega (arith, c.loop-interface-test.true, ap length list) in
    let is = c.interface-item.is ∙ ap (λ xs. get_or xs i item) list ∙ get_or_default g.interfaces i item (trees.interface [] [] []) known in
    omega (arith, c.len.ensures, ap (λ (x : Interface). length x.attrs) is, few_shared g c.grammar.ensures.lawful 0 i known)

pub add_run-requires : goal.add_run-requires
add_run-requires c =
    let g = c.args.checked.now.grammar in
    let i = c.loop-interface.interface-index in
    let item = c.interface-item.result in
    let list = c.as_slice-interfaces.ensures ∙ ap (λ (x : Grammar). x.interfaces) c.grammar.ensures.grammar in
    let known : i < length g.interfaces = omega (arith, c.loop-interface-test.true, ap length list) in
    let is = c.interface-item.is ∙ ap (λ xs. get_or xs i item) list ∙ get_or_default g.interfaces i item (trees.interface [] [] []) known in
    record { few = omega (arith, c.len.ensures, ap (λ (x : Interface). length x.attrs) is, few_shared g c.grammar.ensures.lawful 0 i known) }

pub loop-interface-preserved : goal.loop-interface-preserved
loop-interface-preserved c =
    one_more (λ (x : Interface). range_with_len 0 (length x.attrs)) c.args.places.now.items c.loop-interface.places.items _
    c.as_slice-interfaces.result.now c.loop-interface.interface-index c.interface-item.result c.loop-interface-test.true
    c.loop-interface.invariant
    (c.in_ok-add_run.ensures.added
    ∙ ap (λ n. c.loop-interface.places.items ++ range_with_len 0 n)
    (c.len.ensures ∙ ap (λ (x : Interface). length x.attrs) c.interface-item.is))

pub returns : goal.returns
returns c =
    let list = c.as_slice-interfaces.ensures ∙ ap (λ (x : Grammar). x.interfaces) c.grammar.ensures.grammar in
    record {
      added =
          c.loop-interface.invariant
          ∙ ap (λ xs. c.args.places.now.items ++ flat_map (λ (x : Interface). range_with_len 0 (length x.attrs)) xs)
          (take_all c.loop-interface.interface-index c.as_slice-interfaces.result.now c.loop-interface-test.false ∙ list);
    }
