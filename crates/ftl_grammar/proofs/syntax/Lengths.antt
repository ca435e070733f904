-- Each item of a chain takes a token.
use Rattle.std.proofs.Common.{◌<◌, List, length, arith}
use Rattle.ftl_tokens.specs.reading.Reader.{Tokens}
use Rattle.ftl_grammar.specs.declared.syntax.expression.Factor.{Factor}
use Rattle.ftl_grammar.specs.declared.syntax.expression.SignedTerm.{SignedTerm}
use Rattle.ftl_grammar.specs.declared.syntax.expression.Test.{Test}
use Rattle.ftl_grammar.specs.declared.syntax.expression.Conj.{Conj}
use Rattle.ftl_grammar.specs.declared.syntax.rules.AttrDecl.{AttrDecl}
use Rattle.ftl_grammar.specs.declared.syntax.rules.Child.{Child}
use Rattle.ftl_grammar.specs.declared.syntax.rules.Rule.{Rule}
use Rattle.ftl_grammar.specs.declared.syntax.rules.Declaration.{Declaration}
use Rattle.ftl_grammar.specs.syntax.Trees.{NameText}
use Rattle.ftl_grammar.specs.syntax.Spelling.{SpellsFactor, SpellsSignedTerm, times, over, plus, minus}
use Rattle.ftl_grammar.specs.syntax.GrammarSpelling.{SpellsAttrGroup, SpellsOwnAttrGroup, SpellsChild, SpellsRule, inh_group}
use Rattle.ftl_grammar.specs.syntax.GrammarSpelling.{syn_group, input_group, own_input_group, own_local_group, single, list}
use Rattle.ftl_grammar.specs.syntax.GrammarSpelling.{own_rule, child_rule, interface_of, class_of}
use Rattle.ftl_grammar.proofs.syntax.Parts.{AndTest, and_test_of, OrConj, or_conj_of}
use Rattle.ftl_grammar.proofs.syntax.RuleParts.{CommaName, comma_name_of, ChildRule, child_rule_of, DeclarationOf}
use Rattle.ftl_grammar.proofs.syntax.RuleParts.{interface_of_declaration, class_of_declaration}

pub some_factor : {a : Tokens} {x : Factor} → SpellsFactor a x → 0 < length a
some_factor (times s) = omega arith
some_factor (over some) = omega arith

pub some_signed : {a : Tokens} {x : SignedTerm} → SpellsSignedTerm a x → 0 < length a
some_signed (plus s) = omega arith
some_signed (minus s) = omega arith

pub some_and_test : {a : Tokens} {x : Test} → AndTest a x → 0 < length a
some_and_test (and_test_of s) = omega arith

pub some_or_conj : {a : Tokens} {x : Conj} → OrConj a x → 0 < length a
some_or_conj (or_conj_of s) = omega arith

pub some_comma_name : {a : Tokens} {x : NameText} → CommaName a x → 0 < length a
some_comma_name comma_name_of = omega arith

pub some_attrs : {a : Tokens} {xs : List AttrDecl} → SpellsAttrGroup a xs → 0 < length a
some_attrs (inh_group s) = omega arith
some_attrs (syn_group s) = omega arith
some_attrs (input_group s) = omega arith

pub some_own_attrs : {a : Tokens} {xs : List AttrDecl} → SpellsOwnAttrGroup a xs → 0 < length a
some_own_attrs (own_input_group s) = omega arith
some_own_attrs (own_local_group s) = omega arith

pub some_rule : {a : Tokens} {x : Rule} → SpellsRule a x → 0 < length a
some_rule (own_rule s) = omega arith
some_rule (child_rule s) = omega arith

pub some_child : {a : Tokens} {x : Child} → SpellsChild a x → 0 < length a
some_child single = omega arith
some_child list = omega arith

pub some_child_rule : {a : Tokens} {x : Rule} → ChildRule a x → 0 < length a
some_child_rule (child_rule_of s) = omega arith

pub some_declaration : {a : Tokens} {x : Declaration} → DeclarationOf a x → 0 < length a
some_declaration (interface_of_declaration (interface_of s t)) = omega arith
some_declaration (class_of_declaration (class_of s t u)) = omega arith
