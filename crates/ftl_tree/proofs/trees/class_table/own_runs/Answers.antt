use Rattle.std.proofs.Common.{◌<◌, [], ap, arith, get_or, length, map, subst, sum, ◌∙◌, IfOk, List, ℕ}
use Rattle.std.proofs.lemmas.List.{get_or_default, take_all}
use Rattle.ftl_grammar.specs.syntax.Trees as trees
use Rattle.ftl_grammar.specs.declared.syntax.rules.Grammar.{Grammar}
use Rattle.ftl_grammar.specs.declared.syntax.rules.Class.{Class}
use Rattle.ftl_tree.specs.trees.OwnerRuns.{AreRuns}
use Rattle.ftl_tree.proofs.trees.Classes.{few_attributes, few_own, sum_own}
use Rattle.ftl_tree.proofs.trees.class_table.own_runs.Goals as goal

pub overflow_cast-len : goal.overflow_cast-len
overflow_cast-len c =
    let g = c.args.checked.now.grammar in
    let i = c.loop-class.class-index in
    let item = c.class-item.result in
    let list = c.as_slice-classes.ensures ∙ ap (λ (x : Grammar). x.classes) c.grammar.ensures.grammar in
    let known : i < length g.classes = omega (arith, c.loop-class-test.true, ap length list) in
    let is = c.class-item.is ∙ ap (λ xs. get_or xs i item) list ∙ get_or_default g.classes i item (trees.class [] [] [] [] []) known in
    omega (arith, c.len.ensures, ap (λ (x : Class). length x.attrs) is, few_own g c.grammar.ensures.lawful 0 i known)

pub runs-requires : goal.runs-requires
runs-requires c =
    let g = c.args.checked.now.grammar in
    let list = c.as_slice-classes.ensures ∙ ap (λ (x : Grammar). x.classes) c.grammar.ensures.grammar in
    let all = c.loop-class.invariant ∙ ap (map (λ (x : Class). length x.attrs)) (take_all c.loop-class.class-index c.as_slice-classes.result.now c.loop-class-test.false ∙ list) in
    record { few = omega (arith, ap sum all, sum_own g, few_attributes g c.grammar.ensures.lawful 0) }

pub returns : goal.returns
returns c =
    let list = c.as_slice-classes.ensures ∙ ap (λ (x : Grammar). x.classes) c.grammar.ensures.grammar in
    let all = c.loop-class.invariant ∙ ap (map (λ (x : Class). length x.attrs)) (take_all c.loop-class.class-index c.as_slice-classes.result.now c.loop-class-test.false ∙ list) in
    record { runs = subst (λ (xs : List ℕ). IfOk c.runs.result (AreRuns xs)) all c.runs.ensures.runs }
