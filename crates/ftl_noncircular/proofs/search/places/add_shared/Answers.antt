use Rattle.std.proofs.Common.{◌<◌, ◌++◌, [], ap, arith, flat_map, get_or, length, ◌∙◌}
use Rattle.std.specs.List.{range_with_len}
use Rattle.std.proofs.lemmas.List.{get_or_default, take_all}
use Rattle.ftl_grammar.specs.syntax.Trees as trees
use Rattle.ftl_grammar.specs.declared.syntax.rules.Grammar.{Grammar}
use Rattle.ftl_grammar.specs.declared.syntax.rules.Interface.{Interface}
use Rattle.ftl_noncircular.proofs.search.PlaceLaws.{few_shared, one_more}
use Rattle.ftl_noncircular.proofs.search.places.add_shared.Goals as goal

pub add_run-requires-clause-few : goal.add_run-requires-clause-few
add_run-requires-clause-few c =
    let g = c.args.checked.now.grammar in
    let i = c.loop-interface.interface-index in
    let item = c.interface-item.result in
    let list = c.as_slice-interfaces.ensures ∙ ap (λ (x : Grammar). x.interfaces) c.grammar.ensures.grammar in
    let known : i < length g.interfaces = omega (arith, c.loop-interface-test.true, ap length list) in
    let is = c.interface-item.is ∙ ap (λ xs. get_or xs i item) list
    ∙ get_or_default g.interfaces i item (trees.interface [] [] []) known in
    omega (
      arith,
      c.len.ensures,
      ap (λ (x : Interface). length x.attrs) is,
      few_shared c.args.checked.now c.grammar.ensures.lawful i known,
    )

pub loop-interface-preserved : goal.loop-interface-preserved
loop-interface-preserved c =
    one_more (λ (x : Interface). range_with_len 0 (length x.attrs)) c.args.places.now c.loop-interface.places _
    c.as_slice-interfaces.result.now c.loop-interface.interface-index c.interface-item.result c.loop-interface-test.true
    c.loop-interface.invariant
    (c.in_ok-add_run.ensures.added
    ∙ ap (λ n. c.loop-interface.places ++ range_with_len 0 n)
    (c.len.ensures ∙ ap (λ (x : Interface). length x.attrs) c.interface-item.is))

pub returns : goal.returns
returns c =
    let list = c.as_slice-interfaces.ensures ∙ ap (λ (x : Grammar). x.interfaces) c.grammar.ensures.grammar in
    record {
      added =
          c.loop-interface.invariant
          ∙ ap (λ xs. c.args.places.now ++ flat_map (λ (x : Interface). range_with_len 0 (length x.attrs)) xs)
          (take_all c.loop-interface.interface-index c.as_slice-interfaces.result.now c.loop-interface-test.false
          ∙ list);
    }
