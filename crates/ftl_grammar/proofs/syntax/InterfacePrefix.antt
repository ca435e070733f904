-- What the readers of names, attributes, interfaces and children tell: `x_prefix` of the reader `x`.
use Rattle.std.proofs.Common.{true, false, List, [], ◌∷◌, ◌++◌, map, Option, Some, refl, sym, ◌∙◌, subst, append_assoc}
use Rattle.std.proofs.Common.{append-nil}
use Rattle.ftl_tokens.specs.declared.scanner.kind.Kind.{Kind}
use Rattle.ftl_tokens.specs.declared.scanner.kind.Kind.TheVariants as kind
use Rattle.ftl_tokens.specs.scanner.Tokenized.{name, fixed}
use Rattle.ftl_tokens.specs.reading.Reader.{Tokens, push}
use Rattle.ftl_tokens.proofs.reading.KeptPrefix.{example, After, KeepsPrefix, KeepsPrefixAt, bind_prefix, map_prefix, pure_prefix, wider_prefix, look_prefix}
use Rattle.ftl_tokens.proofs.reading.KeptPrefix.{at_any}
use Rattle.ftl_tokens.proofs.reading.TokenPrefix.{past_prefix, name_prefix, end_prefix, skip_prefix}
use Rattle.ftl_tokens.proofs.reading.ChainPrefix.{OrNone, Chain, none, more, Added, chain_prefix, chain_added}
use Rattle.ftl_grammar.specs.declared.syntax.rules.AttrKind.{AttrKind}
use Rattle.ftl_grammar.specs.declared.syntax.rules.AttrKind.TheVariants as attr
use Rattle.ftl_grammar.specs.declared.syntax.rules.AttrDecl.{AttrDecl}
use Rattle.ftl_grammar.specs.syntax.Trees as trees
use Rattle.ftl_grammar.specs.syntax.Trees.{NameText}
use Rattle.ftl_grammar.specs.syntax.GrammarSpelling.{SpellsNames, SpellsAttrGroup, SpellsAttrs, SpellsShown, SpellsOwnAttrGroup}
use Rattle.ftl_grammar.specs.syntax.GrammarSpelling.{SpellsOwnAttrs, one_name, more_names, inh_group, syn_group, input_group}
use Rattle.ftl_grammar.specs.syntax.GrammarSpelling.{no_attrs, more_attrs, none_shown, some_shown, own_input_group}
use Rattle.ftl_grammar.specs.syntax.GrammarSpelling.{own_local_group, no_own_attrs, more_own_attrs}
use Rattle.ftl_grammar.specs.syntax.InterfaceReading.{comma_name_by, comma_name, names, name_line, attr_group, attrs_by, attrs}
use Rattle.ftl_grammar.specs.syntax.InterfaceReading.{own_attrs_by, own_attrs, append, shown_by, shown, interface, list_child}
use Rattle.ftl_grammar.specs.syntax.InterfaceReading.{single_child, child_by, child}
use Rattle.ftl_grammar.proofs.syntax.RuleParts.{CommaName, comma_name_of, NameLine, name_line_of, InterfaceRest, interface_rest}
use Rattle.ftl_grammar.proofs.syntax.RuleParts.{ChildRest, single_rest, list_rest}

-- ---- names

-- what may stand between a name and the end of the names
pub record MoreNames (a : Tokens) (ns : List NameText) : Type 0 where
  pub after : (n : NameText) → SpellsNames (name n ∷ a) (n ∷ ns)

no_more_names : MoreNames [] []
no_more_names = record { after = λ n. one_name }

one_more_name : (a b : Tokens) (n : NameText) (ns : List NameText) → CommaName a n → MoreNames b ns
    → MoreNames (a ++ b) (n ∷ ns)
one_more_name a b n ns comma_name_of rest = record { after = λ m. more_names (rest.after n) }

names_turn : (n : NameText) (a : Tokens) (ns : List NameText)
    → Chain push CommaName (n ∷ []) a ns → SpellsNames (name n ∷ a) ns
names_turn n a ns all =
    let added = chain_added MoreNames no_more_names one_more_name all in
    subst (λ l. SpellsNames (name n ∷ a) l) (sym added.all) (added.spells.after n)

pub comma_name_prefix : KeepsPrefix (OrNone CommaName) comma_name
unfolding comma_name
comma_name_prefix = look_prefix comma_name_by each
  where
    each : (k : Option Kind) → KeepsPrefixAt k (OrNone CommaName) (comma_name_by k)
    each (Some kind.Comma) =
        skip_prefix kind.Comma tt (name_prefix (λ n. example [] (Some n) comma_name_of) (λ n. pure_prefix comma_name_of))
    each _ = at_any (pure_prefix refl)

pub names_prefix : KeepsPrefix SpellsNames names
unfolding names
names_prefix =
    name_prefix (λ n. example [] (n ∷ []) one_name) (λ n. wider_prefix (names_turn n) (chain_prefix comma_name_prefix (n ∷ [])))

pub name_line_prefix : KeepsPrefix NameLine name_line
unfolding name_line
name_line_prefix =
    bind_prefix names_prefix
    (λ a ns s. example (fixed kind.Semicolon ∷ []) ns (name_line_of s))
    (λ a ns s. end_prefix kind.Semicolon ns (name_line_of s))

-- ---- attributes

attr_group_prefix : {S : Tokens → Option (List AttrDecl) → Type 0} (k : AttrKind)
    → ((a : Tokens) (ns : List NameText) → NameLine a ns → S a (Some (map (trees.attr_decl k) ns)))
    → KeepsPrefix S (attr_group k)
unfolding attr_group
attr_group_prefix k turn = map_prefix (λ ns. Some (map (trees.attr_decl k) ns)) name_line_prefix turn

inh_turn : (a : Tokens) (ns : List NameText) → NameLine a ns
    → SpellsAttrGroup (fixed kind.Inh ∷ a) (map (trees.attr_decl attr.Inh) ns)
inh_turn a ns (name_line_of s) = inh_group s

syn_turn : (a : Tokens) (ns : List NameText) → NameLine a ns
    → SpellsAttrGroup (fixed kind.Syn ∷ a) (map (trees.attr_decl attr.Syn) ns)
syn_turn a ns (name_line_of s) = syn_group s

input_turn : (a : Tokens) (ns : List NameText) → NameLine a ns
    → SpellsAttrGroup (fixed kind.Input ∷ a) (map (trees.attr_decl attr.Input) ns)
input_turn a ns (name_line_of s) = input_group s

own_input_turn : (a : Tokens) (ns : List NameText) → NameLine a ns
    → SpellsOwnAttrGroup (fixed kind.Input ∷ a) (map (trees.attr_decl attr.Input) ns)
own_input_turn a ns (name_line_of s) = own_input_group s

own_local_turn : (a : Tokens) (ns : List NameText) → NameLine a ns
    → SpellsOwnAttrGroup (fixed kind.Local ∷ a) (map (trees.attr_decl attr.Local) ns)
own_local_turn a ns (name_line_of s) = own_local_group s

pub attrs_prefix : KeepsPrefix (OrNone SpellsAttrGroup) attrs
unfolding attrs
attrs_prefix = look_prefix attrs_by each
  where
    each : (k : Option Kind) → KeepsPrefixAt k (OrNone SpellsAttrGroup) (attrs_by k)
    each (Some kind.Inh) = skip_prefix kind.Inh tt (attr_group_prefix attr.Inh inh_turn)
    each (Some kind.Syn) = skip_prefix kind.Syn tt (attr_group_prefix attr.Syn syn_turn)
    each (Some kind.Input) = skip_prefix kind.Input tt (attr_group_prefix attr.Input input_turn)
    each _ = at_any (pure_prefix refl)

pub own_attrs_prefix : KeepsPrefix (OrNone SpellsOwnAttrGroup) own_attrs
unfolding own_attrs
own_attrs_prefix = look_prefix own_attrs_by each
  where
    each : (k : Option Kind) → KeepsPrefixAt k (OrNone SpellsOwnAttrGroup) (own_attrs_by k)
    each (Some kind.Input) = skip_prefix kind.Input tt (attr_group_prefix attr.Input own_input_turn)
    each (Some kind.Local) = skip_prefix kind.Local tt (attr_group_prefix attr.Local own_local_turn)
    each _ = at_any (pure_prefix refl)

-- groups that are read one after another make one list
module _ {S : Tokens → List AttrDecl → Type 0} (F : Tokens → List AttrDecl → Type 0) (no : F [] [])
    (one_more : (a b : Tokens) (xs ys : List AttrDecl) → S a xs → F b ys → F (a ++ b) (xs ++ ys)) where
  groups_added : {found end : List AttrDecl} {b : Tokens} → Chain append S found b end → Added F found b end
  groups_added {found} none = record { items = []; all = sym (append-nil found); spells = no }
  groups_added {found} (more {a = a} {b = b} {x = xs} s chain) =
      let rest = groups_added chain in
      record {
        items = xs ++ rest.items;
        all = rest.all
            ∙ append_assoc found xs rest.items;
        spells = one_more a b xs rest.items s rest.spells;
      }

  groups_spell : {end : List AttrDecl} {b : Tokens} → Chain append S [] b end → F b end
  groups_spell {end} {b} chain = let added = groups_added chain in subst (λ l. F b l) (sym added.all) added.spells

attrs_spell : {a : Tokens} {xs : List AttrDecl} → Chain append SpellsAttrGroup [] a xs → SpellsAttrs a xs
attrs_spell all = groups_spell SpellsAttrs no_attrs (λ a b xs ys s t. more_attrs s t) all

pub own_attrs_spell : {a : Tokens} {xs : List AttrDecl} → Chain append SpellsOwnAttrGroup [] a xs → SpellsOwnAttrs a xs
own_attrs_spell all = groups_spell SpellsOwnAttrs no_own_attrs (λ a b xs ys s t. more_own_attrs s t) all

-- ---- interfaces

shown_turn : (a : Tokens) (ns : List NameText) → NameLine a ns → SpellsShown (fixed kind.Show ∷ a) ns
shown_turn a ns (name_line_of s) = some_shown s

shown_prefix : KeepsPrefix SpellsShown shown
unfolding shown
shown_prefix = look_prefix shown_by each
  where
    each : (k : Option Kind) → KeepsPrefixAt k SpellsShown (shown_by k)
    each (Some kind.Show) = skip_prefix kind.Show tt (wider_prefix shown_turn name_line_prefix)
    each _ = at_any (pure_prefix none_shown)

pub interface_prefix : KeepsPrefix InterfaceRest interface
unfolding interface
interface_prefix =
    name_prefix
    (λ n. example (fixed kind.LeftBrace ∷ fixed kind.RightBrace ∷ []) (trees.interface n [] [])
    (interface_rest no_attrs none_shown))
    (λ n. past_prefix kind.LeftBrace
    (example (fixed kind.RightBrace ∷ []) (trees.interface n [] []) (interface_rest no_attrs none_shown))
    (bind_prefix (chain_prefix attrs_prefix [])
    (λ a xs all. example (fixed kind.RightBrace ∷ []) (trees.interface n xs [])
    (interface_rest (attrs_spell all) none_shown))
    (λ a xs all. bind_prefix shown_prefix
    (λ b ns s. example (fixed kind.RightBrace ∷ []) (trees.interface n xs ns) (interface_rest (attrs_spell all) s))
    (λ b ns s. end_prefix kind.RightBrace (trees.interface n xs ns) (interface_rest (attrs_spell all) s)))))

-- ---- children

list_child_prefix : (c : NameText) → KeepsPrefix (After (fixed kind.LeftBracket ∷ []) (ChildRest c)) (list_child c)
unfolding list_child
list_child_prefix c =
    name_prefix
    (λ n. example (fixed kind.RightBracket ∷ fixed kind.Semicolon ∷ []) (trees.child c n true) list_rest)
    (λ n. past_prefix kind.RightBracket
    (example (fixed kind.Semicolon ∷ []) (trees.child c n true) list_rest)
    (end_prefix kind.Semicolon (trees.child c n true) list_rest))

single_child_prefix : (c : NameText) → KeepsPrefix (ChildRest c) (single_child c)
unfolding single_child
single_child_prefix c =
    name_prefix
    (λ n. example (fixed kind.Semicolon ∷ []) (trees.child c n false) single_rest)
    (λ n. end_prefix kind.Semicolon (trees.child c n false) single_rest)

pub child_prefix : (c : NameText) → KeepsPrefix (ChildRest c) (child c)
unfolding child
child_prefix c = look_prefix (child_by c) each
  where
    each : (k : Option Kind) → KeepsPrefixAt k (ChildRest c) (child_by c k)
    each (Some kind.LeftBracket) = skip_prefix kind.LeftBracket tt (list_child_prefix c)
    each _ = at_any (single_child_prefix c)
