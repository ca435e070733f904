use Rattle.std.proofs.Common.{◌<◌, [], ap, arith, get_or, length, map, subst, sum, ◌∙◌, IfOk, List, ℕ}
use Rattle.std.proofs.lemmas.List.{get_or_default, take_all}
use Rattle.ftl_grammar.specs.syntax.Trees as trees
use Rattle.ftl_grammar.specs.declared.syntax.rules.Grammar.{Grammar}
use Rattle.ftl_grammar.specs.declared.syntax.rules.Interface.{Interface}
use Rattle.ftl_tree.specs.trees.OwnerRuns.{AreRuns}
use Rattle.ftl_tree.proofs.trees.Classes.{few_attributes, few_shared, sum_shared}
use Rattle.ftl_tree.proofs.trees.class_table.shared_runs.Goals as goal

pub overflow_cast-len : goal.overflow_cast-len
overflow_cast-len c =
    let g = c.args.checked.now.grammar in
    let i = c.loop-interface.interface-index in
    let item = c.interface-item.result in
    let list = c.as_slice-interfaces.ensures ∙ ap (λ (x : Grammar). x.interfaces) c.grammar.ensures.grammar in
    let known : i < length g.interfaces = omega (arith, c.loop-interface-test.true, ap length list) in
    let is = c.interface-item.is ∙ ap (λ xs. get_or xs i item) list ∙ get_or_default g.interfaces i item (trees.interface [] [] []) known in
    omega (arith, c.len.ensures, ap (λ (x : Interface). length x.attrs) is, few_shared g c.grammar.ensures.lawful 0 i known)

pub runs-requires : goal.runs-requires
runs-requires c =
    let g = c.args.checked.now.grammar in
    let list = c.as_slice-interfaces.ensures ∙ ap (λ (x : Grammar). x.interfaces) c.grammar.ensures.grammar in
    let all = c.loop-interface.invariant ∙ ap (map (λ (x : Interface). length x.attrs)) (take_all c.loop-interface.interface-index c.as_slice-interfaces.result.now c.loop-interface-test.false ∙ list) in
    record { few = omega (arith, ap sum all, sum_shared g, few_attributes g c.grammar.ensures.lawful 0) }

pub returns : goal.returns
returns c =
    let list = c.as_slice-interfaces.ensures ∙ ap (λ (x : Grammar). x.interfaces) c.grammar.ensures.grammar in
    let all = c.loop-interface.invariant ∙ ap (map (λ (x : Interface). length x.attrs)) (take_all c.loop-interface.interface-index c.as_slice-interfaces.result.now c.loop-interface-test.false ∙ list) in
    record { runs = subst (λ (xs : List ℕ). IfOk c.runs.result (AreRuns xs)) all c.runs.ensures.runs; lawful = c.grammar.ensures.lawful }
