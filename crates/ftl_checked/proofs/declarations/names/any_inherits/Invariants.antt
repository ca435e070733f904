use Rattle.std.proofs.Common.{◌≡◌, drop}
use Rattle.std.specs.List.{list_any}
use Rattle.ftl_grammar.specs.declared.syntax.rules.AttrDecl.{AttrDecl}
use Rattle.ftl_meaning.specs.faults.RuleForms.{is_inherited}
use Rattle.ftl_checked.proofs.declarations.names.any_inherits.Given as goal

abbrev pub invariant-loop-attr : goal.invariant-loop-attr
invariant-loop-attr l = list_any (λ (a : AttrDecl). is_inherited a.kind) l.attrs ≡ list_any (λ (a : AttrDecl). is_inherited a.kind) (drop l.attr-index l.attrs)
