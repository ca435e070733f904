-- In a grammar that tokens spell each attribute is declared by a word that may stand there.
use Rattle.std.proofs.Common.{List, [], ◌∷◌, map}
use Rattle.std.specs.List.{All, AllByRecursion}
use Rattle.std.proofs.lemmas.List.Elements.{All-from_recursion}
use Rattle.ftl_model.proofs.lists.Each.{each-append}
use Rattle.ftl_tokens.specs.reading.Reader.{Tokens}
use Rattle.ftl_grammar.specs.syntax.GrammarSpelling.{SpellsAttrGroup, SpellsAttrs, SpellsClass, SpellsDeclarations, SpellsGrammar, SpellsInterface, SpellsOwnAttrGroup, SpellsOwnAttrs, class_declared, class_of, grammar_of, inh_group, input_group, interface_declared, interface_of, more_attrs, more_own_attrs, no_attrs, no_declarations, no_own_attrs, own_input_group, own_local_group, syn_group}
use Rattle.ftl_grammar.specs.syntax.Trees.{NameText, attr_decl}
use Rattle.ftl_grammar.specs.declared.syntax.rules.AttrDecl.{AttrDecl}
use Rattle.ftl_grammar.specs.declared.syntax.rules.AttrKind.{AttrKind}
use Rattle.ftl_grammar.specs.declared.syntax.rules.AttrKind.TheVariants as kinds
use Rattle.ftl_grammar.specs.declared.syntax.rules.Class.{Class}
use Rattle.ftl_grammar.specs.declared.syntax.rules.Grammar.{Grammar}
use Rattle.ftl_grammar.specs.declared.syntax.rules.Interface.{Interface}
use Rattle.ftl_meaning.specs.faults.Kinds.{HasKinds, IsOwnKind, IsSharedKind}

-- attributes of one kind, which may stand there
of_one_kind : (P : AttrKind → Type 0) (kind : AttrKind) (ns : List NameText) → P kind
    → AllByRecursion (λ (a : AttrDecl). P a.kind) (map (attr_decl kind) ns)
of_one_kind P kind [] h = tt
of_one_kind P kind (n ∷ ns) h = (h, of_one_kind P kind ns h)

shared_group : {ts : Tokens} {xs : List AttrDecl} → SpellsAttrGroup ts xs
    → AllByRecursion (λ (a : AttrDecl). IsSharedKind a.kind) xs
shared_group (inh_group {ns = ns} names) = of_one_kind IsSharedKind kinds.Inh ns tt
shared_group (syn_group {ns = ns} names) = of_one_kind IsSharedKind kinds.Syn ns tt
shared_group (input_group {ns = ns} names) = of_one_kind IsSharedKind kinds.Input ns tt

shared_kinds : {ts : Tokens} {xs : List AttrDecl} → SpellsAttrs ts xs
    → AllByRecursion (λ (a : AttrDecl). IsSharedKind a.kind) xs
shared_kinds no_attrs = tt
shared_kinds (more_attrs {xs = xs} {ys = ys} group more) =
    each-append (λ (a : AttrDecl). IsSharedKind a.kind) xs ys (shared_group group) (shared_kinds more)

own_group : {ts : Tokens} {xs : List AttrDecl} → SpellsOwnAttrGroup ts xs
    → AllByRecursion (λ (a : AttrDecl). IsOwnKind a.kind) xs
own_group (own_input_group {ns = ns} names) = of_one_kind IsOwnKind kinds.Input ns tt
own_group (own_local_group {ns = ns} names) = of_one_kind IsOwnKind kinds.Local ns tt

own_kinds : {ts : Tokens} {xs : List AttrDecl} → SpellsOwnAttrs ts xs
    → AllByRecursion (λ (a : AttrDecl). IsOwnKind a.kind) xs
own_kinds no_own_attrs = tt
own_kinds (more_own_attrs {xs = xs} {ys = ys} group more) =
    each-append (λ (a : AttrDecl). IsOwnKind a.kind) xs ys (own_group group) (own_kinds more)

abbrev SharedIn : Interface → Type 0
SharedIn x = All (λ (a : AttrDecl). IsSharedKind a.kind) x.attrs

abbrev OwnIn : Class → Type 0
OwnIn x = All (λ (a : AttrDecl). IsOwnKind a.kind) x.attrs

of_interface : {ts : Tokens} {x : Interface} → SpellsInterface ts x → SharedIn x
of_interface (interface_of {xs = xs} attrs shown) =
    All-from_recursion (λ (a : AttrDecl). IsSharedKind a.kind) xs (shared_kinds attrs)

of_class : {ts : Tokens} {x : Class} → SpellsClass ts x → OwnIn x
of_class (class_of {xs = xs} attrs below rules) =
    All-from_recursion (λ (a : AttrDecl). IsOwnKind a.kind) xs (own_kinds attrs)

of_declarations : {ts : Tokens} {xs : List Interface} {ys : List Class} → SpellsDeclarations ts xs ys
    → AllByRecursion SharedIn xs × AllByRecursion OwnIn ys
of_declarations no_declarations = (tt, tt)
of_declarations (interface_declared x more) = let rest = of_declarations more in ((of_interface x, rest.0), rest.1)
of_declarations (class_declared y more) = let rest = of_declarations more in (rest.0, (of_class y, rest.1))

-- each attribute of a grammar that is spelled is declared by a word that may stand there
pub spelled_kinds : {ts : Tokens} {g : Grammar} → SpellsGrammar ts g → HasKinds g
spelled_kinds (grammar_of {xs = xs} {ys = ys} declarations) =
    let both = of_declarations declarations in
    record {
      shared = All-from_recursion SharedIn xs both.0;
      own = All-from_recursion OwnIn ys both.1;
    }
