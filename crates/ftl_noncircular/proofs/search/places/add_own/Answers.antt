use Rattle.std.proofs.Common.{◌<◌, ◌++◌, [], ap, arith, flat_map, get_or, length, ◌∙◌}
use Rattle.std.specs.List.{range_with_len}
use Rattle.std.proofs.lemmas.List.{get_or_default, take_all}
use Rattle.ftl_grammar.specs.syntax.Trees as trees
use Rattle.ftl_grammar.specs.declared.syntax.rules.Grammar.{Grammar}
use Rattle.ftl_grammar.specs.declared.syntax.rules.Class.{Class}
use Rattle.ftl_noncircular.proofs.search.PlaceLaws.{few_own, one_more}
use Rattle.ftl_noncircular.proofs.search.places.add_own.Goals as goal

pub add_run-requires-clause-few : goal.add_run-requires-clause-few
add_run-requires-clause-few c =
    let g = c.args.checked.now.grammar in
    let i = c.loop-class.class-index in
    let item = c.class-item.result in
    let list = c.as_slice-classes.ensures ∙ ap (λ (x : Grammar). x.classes) c.grammar.ensures.grammar in
    let known : i < length g.classes = omega (arith, c.loop-class-test.true, ap length list) in
    let is = c.class-item.is ∙ ap (λ xs. get_or xs i item) list
    ∙ get_or_default g.classes i item (trees.class [] [] [] [] []) known in
    omega (
      arith,
      c.len.ensures,
      ap (λ (x : Class). length x.attrs) is,
      few_own c.args.checked.now c.grammar.ensures.lawful i known,
    )

pub loop-class-preserved : goal.loop-class-preserved
loop-class-preserved c =
    one_more (λ (x : Class). range_with_len 64 (length x.attrs)) c.args.places.now c.loop-class.places _
    c.as_slice-classes.result.now c.loop-class.class-index c.class-item.result c.loop-class-test.true
    c.loop-class.invariant
    (c.in_ok-add_run.ensures.added
    ∙ ap (λ n. c.loop-class.places ++ range_with_len 64 n)
    (c.len.ensures ∙ ap (λ (x : Class). length x.attrs) c.class-item.is))

pub returns : goal.returns
returns c =
    let list = c.as_slice-classes.ensures ∙ ap (λ (x : Grammar). x.classes) c.grammar.ensures.grammar in
    record {
      added =
          c.loop-class.invariant
          ∙ ap (λ xs. c.args.places.now ++ flat_map (λ (x : Class). range_with_len 64 (length x.attrs)) xs)
          (take_all c.loop-class.class-index c.as_slice-classes.result.now c.loop-class-test.false ∙ list);
    }
