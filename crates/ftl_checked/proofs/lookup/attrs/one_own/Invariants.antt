use Rattle.std.proofs.Common.{◌≡◌, ◌++◌, take, map, true}
use Rattle.ftl_grammar.specs.declared.syntax.rules.AttrDecl.{AttrDecl}
use Rattle.ftl_meaning.specs.faults.Checked.{attribute_info, declared}
use Rattle.ftl_checked.proofs.lookup.attrs.one_own.Given as goal

abbrev pub invariant-loop-attr : goal.invariant-loop-attr
invariant-loop-attr l =
    l.infos ≡ l.initial.infos ++ map (λ (a : AttrDecl). attribute_info l.grammar (declared true l.number a)) (take l.attr-index l.attr-items)
