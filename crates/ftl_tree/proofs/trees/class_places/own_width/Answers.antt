use Rattle.std.proofs.Common.{[], ap, arith, get_or, length, ◌∙◌}
use Rattle.std.proofs.lemmas.List.{get_or_default}
use Rattle.ftl_grammar.specs.syntax.Trees as trees
use Rattle.ftl_grammar.specs.declared.syntax.rules.Class.{Class}
use Rattle.ftl_grammar.specs.declared.syntax.rules.Grammar.{Grammar}
use Rattle.ftl_tree.proofs.trees.Classes.{few_own}
use Rattle.ftl_tree.proofs.trees.class_places.own_width.Goals as goal

pub overflow_cast-result : goal.overflow_cast-result
overflow_cast-result c =
    let g = c.args.checked.now.grammar in
    let item = c.index-classes-class.result in
    let list = c.as_slice-classes.ensures ∙ ap (λ (x : Grammar). x.classes) c.grammar.ensures.grammar in
    let is = ap (λ xs. get_or xs c.args.class item) list
    ∙ get_or_default g.classes c.args.class item (trees.class [] [] [] [] []) c.requires.class in
    omega (
      arith,
      c.len.ensures,
      ap (λ (x : Class). length x.attrs) is,
      few_own g c.grammar.ensures.lawful 0 c.args.class c.requires.class,
    )

pub returns-clause-few : goal.returns-clause-few
returns-clause-few c =
    let g = c.args.checked.now.grammar in
    let item = c.index-classes-class.result in
    let list = c.as_slice-classes.ensures ∙ ap (λ (x : Grammar). x.classes) c.grammar.ensures.grammar in
    let is = ap (λ xs. get_or xs c.args.class item) list
    ∙ get_or_default g.classes c.args.class item (trees.class [] [] [] [] []) c.requires.class in
    omega (
      arith,
      c.len.ensures,
      ap (λ (x : Class). length x.attrs) is,
      few_own g c.grammar.ensures.lawful 0 c.args.class c.requires.class,
    )
