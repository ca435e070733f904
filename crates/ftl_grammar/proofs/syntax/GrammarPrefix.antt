-- What the readers of classes and grammars tell: `x_prefix` of the reader `x`.
use Rattle.std.proofs.Common.{◌≡◌, List, [], ◌∷◌, ◌++◌, Option, Some, None, refl, sym, ap, ◌∙◌, subst, append_assoc}
use Rattle.std.proofs.Common.{append-nil}
use Rattle.ftl_tokens.specs.declared.scanner.kind.Kind.{Kind}
use Rattle.ftl_tokens.specs.declared.scanner.kind.Kind.TheVariants as kind
use Rattle.ftl_tokens.specs.scanner.Tokenized.{name, fixed}
use Rattle.ftl_tokens.specs.reading.Reader.{Tokens, Reader, push, ◌>>=◌, ◌>>◌, pure, expect, chain_of, until_of}
use Rattle.ftl_tokens.proofs.reading.KeptPrefix.{example, After, KeepsPrefix, KeepsPrefixAt, bind_prefix, map_prefix, pure_prefix, look_prefix, at_any}
use Rattle.ftl_tokens.proofs.reading.TokenPrefix.{past_prefix, name_prefix, end_prefix, skip_prefix, at_end_prefix}
use Rattle.ftl_tokens.proofs.reading.ChainPrefix.{OrNone, Chain, none, more, chain_prefix, chain_added, Until, stopped}
use Rattle.ftl_tokens.proofs.reading.ChainPrefix.{ended}
use Rattle.ftl_tokens.proofs.reading.ChainPrefix.{went_on, until_prefix}
use Rattle.ftl_grammar.specs.declared.syntax.expression.Expr.{Expr}
use Rattle.ftl_grammar.specs.declared.syntax.rules.AttrDecl.{AttrDecl}
use Rattle.ftl_grammar.specs.declared.syntax.rules.Interface.{Interface}
use Rattle.ftl_grammar.specs.declared.syntax.rules.Child.{Child}
use Rattle.ftl_grammar.specs.declared.syntax.rules.Rule.{Rule}
use Rattle.ftl_grammar.specs.declared.syntax.rules.Class.{Class}
use Rattle.ftl_grammar.specs.declared.syntax.rules.Declaration.TheVariants as declarations
use Rattle.ftl_grammar.specs.syntax.Trees as trees
use Rattle.ftl_grammar.specs.syntax.Trees.{NameText}
use Rattle.ftl_grammar.specs.syntax.Spelling.{SpellsExpr}
use Rattle.ftl_grammar.specs.syntax.GrammarSpelling.{SpellsChild, SpellsChildren, SpellsRule, SpellsRules, SpellsDeclarations}
use Rattle.ftl_grammar.specs.syntax.GrammarSpelling.{SpellsGrammar, no_children, more_children, no_rules, more_rules, class_of}
use Rattle.ftl_grammar.specs.syntax.GrammarSpelling.{interface_of, SpellsOwnAttrs, no_own_attrs, no_declarations}
use Rattle.ftl_grammar.specs.syntax.GrammarSpelling.{interface_declared, class_declared, grammar_of}
use Rattle.ftl_grammar.specs.syntax.GrammarReading as reading
use Rattle.ftl_grammar.specs.syntax.GrammarReading.{member, list_of, class, declaration_by, declaration, add_declaration}
use Rattle.ftl_grammar.specs.syntax.GrammarReading.{grammar_level, grammar, bracket_depth}
use Rattle.ftl_grammar.specs.syntax.InterfaceReading.{append, own_attrs}
use Rattle.ftl_grammar.proofs.syntax.RuleParts.{InterfaceRest, interface_rest, ChildRule, ClassRest, class_rest, DeclarationOf}
use Rattle.ftl_grammar.proofs.syntax.RuleParts.{interface_of_declaration, class_of_declaration}
use Rattle.ftl_grammar.proofs.syntax.InterfacePrefix.{own_attrs_prefix, own_attrs_spell, interface_prefix}
use Rattle.ftl_grammar.proofs.syntax.RulePrefix.{from_child_rule, rule_prefix, member_prefix}

-- ---- children and rules

-- what the last step of the children found
abbrev pub LastRule : Option Rule → Tokens → Type 0
LastRule None a = a ≡ []
LastRule (Some x) a = ChildRule a x

-- children, and perhaps a rule
pub record Members (found : List Child) (tokens : Tokens) (end : List Child × Option Rule) : Type 0 where
  pub children : Tokens
  pub rule : Tokens
  pub split : tokens ≡ children ++ rule
  pub items : List Child
  pub all : end.0 ≡ found ++ items
  pub spells : SpellsChildren children items
  pub last : LastRule end.1 rule

-- what the readers of children and of their last rule took
members : {found : List Child} {end : List Child × Option Rule} {a : Tokens}
    → Until push SpellsChild ChildRule found a end → Members found a end
members {found} stopped =
    record {
      children = [];
      rule = [];
      split = refl;
      items = [];
      all = sym
          (append-nil found);
      spells = no_children;
      last = refl;
    }
members {found} (ended {a = a} t) =
    record {
      children = [];
      rule = a;
      split = refl;
      items = [];
      all = sym
          (append-nil found);
      spells = no_children;
      last = t;
    }
members {found} (went_on {a = a} {b = b} {x = x} s steps) =
    let rest = members steps in
    record {
      children = a ++ rest.children;
      rule = rest.rule;
      split = ap (λ l. a ++ l) rest.split ∙ sym (append_assoc a rest.children rest.rule);
      items = x ∷ rest.items;
      all = rest.all ∙ append_assoc found (x ∷ []) rest.items;
      spells = more_children s rest.spells;
      last = rest.last;
    }

-- all rules, with the one that ended the children
all_rules : (last : Option Rule) (a b : Tokens) (end : List Rule) → LastRule last a
    → Chain push SpellsRule (list_of last) b end → SpellsRules (a ++ b) end
all_rules None a b end none_there chain =
    let added = chain_added SpellsRules no_rules (λ c d x xs s t. more_rules s t) chain in
    subst (λ l. SpellsRules (l ++ b) end) (sym none_there) (subst (λ l. SpellsRules b l) (sym added.all) added.spells)
all_rules (Some x) a b end s chain =
    let added = chain_added SpellsRules no_rules (λ c d y xs t u. more_rules t u) chain in
    subst (λ l. SpellsRules (a ++ b) l) (sym added.all) (more_rules (from_child_rule s) added.spells)

-- the rules of a class, with the one that ended its children
regroup_class : {c : Tokens} (b d e rest : Tokens) → c ≡ b ++ d → b ++ ((d ++ e) ++ rest) ≡ c ++ (e ++ rest)
regroup_class b d e rest all =
    ap (λ l. b ++ l) (append_assoc d e rest) ∙ sym (append_assoc b d (e ++ rest)) ∙ ap (λ l. l ++ (e ++ rest)) (sym all)

-- ---- interfaces and classes

-- interfaces and classes that are added to those that were found
record Parts (found : List Interface × List Class) (tokens : Tokens) (end : List Interface × List Class) : Type 0 where
  pub interfaces : List Interface
  pub classes : List Class
  pub all_interfaces : end.0 ≡ found.0 ++ interfaces
  pub all_classes : end.1 ≡ found.1 ++ classes
  pub spells : SpellsDeclarations tokens interfaces classes

-- what the readers of interfaces and classes took
declarations_added : {found end : List Interface × List Class} {a : Tokens}
    → Chain add_declaration DeclarationOf found a end → Parts found a end
declarations_added {found} none =
    record {
      interfaces = [];
      classes = [];
      all_interfaces = sym (append-nil found.0);
      all_classes = sym (append-nil found.1);
      spells = no_declarations;
    }
declarations_added {found} (more (interface_of_declaration {x = x} s) chain) =
    let rest = declarations_added chain in
    record {
      interfaces = x ∷ rest.interfaces;
      classes = rest.classes;
      all_interfaces = rest.all_interfaces ∙ append_assoc found.0 (x ∷ []) rest.interfaces;
      all_classes = rest.all_classes;
      spells = interface_declared s rest.spells;
    }
declarations_added {found} (more (class_of_declaration {x = x} s) chain) =
    let rest = declarations_added chain in
    record {
      interfaces = rest.interfaces;
      classes = x ∷ rest.classes;
      all_interfaces = rest.all_interfaces;
      all_classes = rest.all_classes ∙ append_assoc found.1 (x ∷ []) rest.classes;
      spells = class_declared s rest.spells;
    }

interface_declared_turn : (a : Tokens) (x : Interface) → InterfaceRest a x
    → DeclarationOf (fixed kind.Interface ∷ a) (declarations.Interface x)
interface_declared_turn a x (interface_rest s t) = interface_of_declaration (interface_of s t)

class_declared_turn : (a : Tokens) (x : Class)
    → ClassRest a x → DeclarationOf (fixed kind.Class ∷ a) (declarations.Class x)
class_declared_turn a x (class_rest s t u) = class_of_declaration (class_of s t u)

-- a class of which all but `}` is read
class_so_far : (n i : NameText) {a b c : Tokens} {xs : List AttrDecl} {ys : List Child × Option Rule} {zs : List Rule}
    → SpellsOwnAttrs a xs → Until push SpellsChild ChildRule [] b ys → Chain push SpellsRule (list_of ys.1) c zs
    → ClassRest
    (name n ∷ fixed kind.Colon ∷ name i ∷ fixed kind.LeftBrace ∷ (a ++ (b ++ (c ++ (fixed kind.RightBrace ∷ [])))))
    (trees.class n i xs ys.0 zs)
class_so_far n i {a} {b} {c} {xs} {ys} {zs} own steps rules =
    let read = members steps in
    let spelled = class_rest own read.spells (all_rules ys.1 read.rule c zs read.last rules) in
    subst (λ l. ClassRest (name n ∷ fixed kind.Colon ∷ name i ∷ fixed kind.LeftBrace ∷ (a ++ l))
    (trees.class n i xs ys.0 zs))
    (regroup_class read.children read.rule c (fixed kind.RightBrace ∷ []) read.split)
    (subst
    (λ l. ClassRest
    (name n ∷ fixed kind.Colon ∷ name i ∷ fixed kind.LeftBrace ∷
    (a ++ (read.children ++ ((read.rule ++ c) ++ (fixed kind.RightBrace ∷ [])))))
    (trees.class n i xs l zs))
    (sym read.all) spelled)

module _ {expr : Reader Expr} (expr_prefix : KeepsPrefix SpellsExpr expr) where
  class_prefix : KeepsPrefix ClassRest (class expr)
  unfolding class
  class_prefix =
      name_prefix
      (λ n. example (fixed kind.Colon ∷ name [] ∷ fixed kind.LeftBrace ∷ fixed kind.RightBrace ∷ [])
      (trees.class n [] [] [] []) (class_rest no_own_attrs no_children no_rules))
      (λ n. past_prefix kind.Colon
      (example (name [] ∷ fixed kind.LeftBrace ∷ fixed kind.RightBrace ∷ [])
      (trees.class n [] [] [] []) (class_rest no_own_attrs no_children no_rules))
      (name_prefix
      (λ i. example (fixed kind.LeftBrace ∷ fixed kind.RightBrace ∷ [])
      (trees.class n i [] [] []) (class_rest no_own_attrs no_children no_rules))
      (λ i. past_prefix kind.LeftBrace
      (example (fixed kind.RightBrace ∷ []) (trees.class n i [] [] []) (class_rest no_own_attrs no_children no_rules))
      (members_prefix n i))))
    where
      rules_prefix : (n i : NameText) (a b : Tokens) (xs : List AttrDecl) (ys : List Child × Option Rule)
          → SpellsOwnAttrs a xs → Until push SpellsChild ChildRule [] b ys
          → KeepsPrefix (After b (After a (After (name n ∷ fixed kind.Colon ∷ name i ∷ fixed kind.LeftBrace ∷ []) ClassRest)))
          (chain_of push (reading.rule expr) (list_of ys.1) >>=
          (λ zs. expect kind.RightBrace >> pure (trees.class n i xs ys.0 zs)))
      rules_prefix n i a b xs ys own steps =
          bind_prefix (chain_prefix (rule_prefix expr_prefix) (list_of ys.1))
          (λ c zs rules. example (fixed kind.RightBrace ∷ []) (trees.class n i xs ys.0 zs)
          (class_so_far n i own steps rules))
          (λ c zs rules. end_prefix kind.RightBrace (trees.class n i xs ys.0 zs) (class_so_far n i own steps rules))

      members_prefix : (n i : NameText)
          → KeepsPrefix (After (name n ∷ fixed kind.Colon ∷ name i ∷ fixed kind.LeftBrace ∷ []) ClassRest)
          (chain_of append own_attrs [] >>= (λ xs. until_of push (member expr) []
          >>= (λ ys. chain_of push (reading.rule expr) (list_of ys.1)
          >>= (λ zs. expect kind.RightBrace >> pure (trees.class n i xs ys.0 zs)))))
      members_prefix n i =
          bind_prefix (chain_prefix own_attrs_prefix [])
          (λ a xs all. example (fixed kind.RightBrace ∷ []) (trees.class n i xs [] [])
          (class_rest (own_attrs_spell all) no_children no_rules))
          (λ a xs all. bind_prefix (until_prefix (member_prefix expr_prefix) [])
          (λ b ys steps. example (fixed kind.RightBrace ∷ []) (trees.class n i xs ys.0 (list_of ys.1))
          (class_so_far n i (own_attrs_spell all) steps none))
          (λ b ys steps. rules_prefix n i a b xs ys (own_attrs_spell all) steps))

  pub declaration_prefix : KeepsPrefix (OrNone DeclarationOf) (declaration expr)
  unfolding declaration
  declaration_prefix = look_prefix (declaration_by expr) each
    where
      each : (k : Option Kind) → KeepsPrefixAt k (OrNone DeclarationOf) (declaration_by expr k)
      each (Some kind.Interface) =
          skip_prefix kind.Interface tt
          (map_prefix (λ x. Some (declarations.Interface x)) interface_prefix interface_declared_turn)
      each (Some kind.Class) =
          skip_prefix kind.Class tt (map_prefix (λ x. Some (declarations.Class x)) class_prefix class_declared_turn)
      each _ = at_any (pure_prefix refl)

  grammar_so_far : (n : NameText) (a : Tokens) (xs : List Interface × List Class)
      → Chain add_declaration DeclarationOf ([], []) a xs
      → SpellsGrammar (fixed kind.Root ∷ name n ∷ fixed kind.Semicolon ∷ a) (trees.grammar n xs.0 xs.1)
  grammar_so_far n a xs chain =
      let added = declarations_added chain in
      subst (λ l. SpellsGrammar (fixed kind.Root ∷ name n ∷ fixed kind.Semicolon ∷ a) (trees.grammar n l xs.1))
      (sym added.all_interfaces)
      (subst (λ l. SpellsGrammar (fixed kind.Root ∷ name n ∷ fixed kind.Semicolon ∷ a)
      (trees.grammar n added.interfaces l)) (sym added.all_classes)
      (grammar_of added.spells))

  pub grammar_level_prefix : KeepsPrefix SpellsGrammar (grammar_level expr)
  unfolding grammar_level
  grammar_level_prefix =
      past_prefix kind.Root
      (example (name [] ∷ fixed kind.Semicolon ∷ []) (trees.grammar [] [] []) (grammar_of no_declarations))
      (name_prefix
      (λ n. example (fixed kind.Semicolon ∷ []) (trees.grammar n [] []) (grammar_of no_declarations))
      (λ n. past_prefix kind.Semicolon
      (example [] (trees.grammar n [] []) (grammar_of no_declarations))
      (bind_prefix (chain_prefix declaration_prefix ([], []))
      (λ a xs all. example [] (trees.grammar n xs.0 xs.1)
      (subst (λ l. SpellsGrammar l (trees.grammar n xs.0 xs.1)) (sym (append-nil _)) (grammar_so_far n a xs all)))
      (λ a xs all. at_end_prefix (trees.grammar n xs.0 xs.1)
      (subst (λ l. SpellsGrammar l (trees.grammar n xs.0 xs.1)) (sym (append-nil _)) (grammar_so_far n a xs all))))))
