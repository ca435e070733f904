-- The canonical tokens of a grammar that some tokens spell: they spell it, can be said, and are no deeper.
use Rattle.std.proofs.Common.{◌≡◌, List, [], ◌∷◌, ◌++◌, flat_map, sym, ap, ap₂, subst, append_assoc, append-nil}
use Rattle.ftl_tokens.specs.declared.scanner.kind.Kind.TheVariants as kind
use Rattle.ftl_tokens.specs.scanner.Tokenized.{name, fixed}
use Rattle.ftl_tokens.specs.reading.Reader.{Tokens}
use Rattle.ftl_tokens.specs.reading.Depth.{IsShallow}
use Rattle.ftl_grammar.specs.declared.syntax.rules.Interface.{Interface}
use Rattle.ftl_grammar.specs.declared.syntax.rules.Child.{Child}
use Rattle.ftl_grammar.specs.declared.syntax.rules.Body.{Body}
use Rattle.ftl_grammar.specs.declared.syntax.rules.Rule.{Rule}
use Rattle.ftl_grammar.specs.declared.syntax.rules.Class.{Class}
use Rattle.ftl_grammar.specs.declared.syntax.rules.Grammar.{Grammar}
use Rattle.ftl_grammar.specs.syntax.Brackets.{brackets, limit}
use Rattle.ftl_grammar.specs.syntax.Trees.{interface}
use Rattle.ftl_grammar.specs.syntax.GrammarSpelling.{SpellsShown, SpellsInterface, interface_of, SpellsChild, single, list}
use Rattle.ftl_grammar.specs.syntax.GrammarSpelling.{SpellsChildren, no_children, more_children, SpellsOwnBody, own_plain, fold}
use Rattle.ftl_grammar.specs.syntax.GrammarSpelling.{SpellsChildBody, child_plain, first_then, SpellsRule, own_rule, child_rule}
use Rattle.ftl_grammar.specs.syntax.GrammarSpelling.{SpellsRules, no_rules, more_rules, SpellsClass, class_of}
use Rattle.ftl_grammar.specs.syntax.GrammarSpelling.{SpellsDeclarations, no_declarations, interface_declared, class_declared}
use Rattle.ftl_grammar.specs.syntax.GrammarSpelling.{SpellsGrammar, grammar_of}
use Rattle.ftl_grammar.specs.printing.GrammarTokens.{attr_tokens, shown_tokens, interface_tokens, child_tokens, body_tokens}
use Rattle.ftl_grammar.specs.printing.GrammarTokens.{rule_tokens, class_tokens, grammar_tokens}
use Rattle.ftl_grammar.proofs.printing.Levels.{Each, each-append, each-left, each-right, IsPlain, IsLevel, level-append}
use Rattle.ftl_grammar.proofs.printing.Levels.{level-plain, level-each, square, shallow-left, shallow-right, shallow-join}
use Rattle.ftl_grammar.proofs.printing.Levels.{shallow-each, shallow-nil}
use Rattle.ftl_grammar.proofs.printing.SpelledExpressions.{Exactly, none, plain, join, pair, is_name, no_bracket, exact_expr}
use Rattle.ftl_grammar.proofs.printing.SpelledAttrs.{Said, attrs_declared, own_attrs_declared, attrs_plain}
use Rattle.ftl_grammar.proofs.printing.SpelledAttrs.{shown_shows}

-- ---- children and rules, whose tokens are no others

abbrev semicolon : Exactly (fixed kind.Semicolon ∷ []) (fixed kind.Semicolon ∷ [])
semicolon = plain (no_bracket kind.Semicolon tt) none

exact_child : {a : Tokens} {x : Child} → SpellsChild a x → Exactly a (child_tokens x)
exact_child single = plain is_name (plain (no_bracket kind.Colon tt) (plain is_name semicolon))
exact_child list =
    plain is_name (plain (no_bracket kind.Colon tt) (join (pair square (plain is_name none)) semicolon))

exact_children : {a : Tokens} {xs : List Child} → SpellsChildren a xs → Exactly a (flat_map child_tokens xs)
exact_children no_children = none
exact_children (more_children s t) = join (exact_child s) (exact_children t)

exact_own_body : {a : Tokens} {x : Body} → SpellsOwnBody a x → Exactly a (body_tokens x)
exact_own_body (own_plain s) = exact_expr s
exact_own_body (fold s t) =
    plain (no_bracket kind.Fold tt) (plain is_name (plain (no_bracket kind.From tt)
    (join (exact_expr s) (plain (no_bracket kind.With tt) (exact_expr t)))))

exact_child_body : {a : Tokens} {x : Body} → SpellsChildBody a x → Exactly a (body_tokens x)
exact_child_body (child_plain s) = exact_expr s
exact_child_body (first_then s t) =
    plain (no_bracket kind.First tt) (join (exact_expr s) (plain (no_bracket kind.Then tt) (exact_expr t)))

exact_rule : {a : Tokens} {x : Rule} → SpellsRule a x → Exactly a (rule_tokens x)
exact_rule (own_rule s) =
    plain (no_bracket kind.SelfWord tt) (plain (no_bracket kind.Dot tt) (plain is_name (plain (no_bracket kind.Assign tt)
    (join (exact_own_body s) semicolon))))
exact_rule (child_rule s) =
    plain is_name (plain (no_bracket kind.Dot tt) (plain is_name (plain (no_bracket kind.Assign tt)
    (join (exact_child_body s) semicolon))))

exact_rules : {a : Tokens} {xs : List Rule} → SpellsRules a xs → Exactly a (flat_map rule_tokens xs)
exact_rules no_rules = none
exact_rules (more_rules s t) = join (exact_rule s) (exact_rules t)

-- ---- interfaces and classes

-- what is said of the canonical tokens of a part
record Canonical (S : Tokens → Type 0) (ts : Tokens) : Type 0 where
  spells : S ts
  said : Each Said ts
  shallow : IsShallow brackets limit ts

abbrev right_brace : Each IsPlain (fixed kind.RightBrace ∷ [])
right_brace = (no_bracket kind.RightBrace tt, tt)

-- the tokens of an interface have no bracket
interface_plain : {a : Tokens} {x : Interface} → SpellsInterface a x → Each IsPlain a
interface_plain (interface_of {a = a} {b = b} s t) =
    let rest = each-append IsPlain a (b ++ (fixed kind.RightBrace ∷ [])) (attrs_declared s).plain
    (each-append IsPlain b (fixed kind.RightBrace ∷ []) (shown_shows t).plain right_brace) in
    (no_bracket kind.Interface tt, (is_name, (no_bracket kind.LeftBrace tt, rest)))

interface_canonical : {a : Tokens} {x : Interface} → SpellsInterface a x → Each Said a
    → Canonical (λ ts. SpellsInterface ts x) (interface_tokens x)
interface_canonical (interface_of {n = n} {a = a} {b = b} {xs = xs} {ns = ns} s t) said =
    let d = attrs_declared s in
    let w = shown_shows t in
    let shown : SpellsShown (shown_tokens ns) ns = subst (λ l. SpellsShown l ns) w.same t in
    let spells = interface_of d.spells shown in
    let rest = each-right Said a (b ++ (fixed kind.RightBrace ∷ [])) said.1.1.1 in
    let rest_is : b ++ (fixed kind.RightBrace ∷ []) ≡ shown_tokens ns ++ (fixed kind.RightBrace ∷ []) =
    ap (λ l. l ++ (fixed kind.RightBrace ∷ [])) w.same in
    let own = each-left Said a (b ++ (fixed kind.RightBrace ∷ [])) said.1.1.1 in
    record {
      spells = spells;
      said =
          let inside = each-append Said (flat_map attr_tokens xs) (shown_tokens ns ++ (fixed kind.RightBrace ∷ [])) (d.said own)
          (subst (Each Said) rest_is rest) in
          (tt, (said.1.0, (tt, inside)));
      shallow = subst (IsShallow brackets limit) (append-nil _) (shallow-each (interface_tokens (interface n xs ns)) (interface_plain spells) shallow-nil);
    }

-- a class, with its own attributes each by itself
class_canonical : {a : Tokens} {y : Class} → SpellsClass a y → Each Said a → IsShallow brackets limit a
    → Canonical (λ ts. SpellsClass ts y) (class_tokens y)
class_canonical (class_of {n = n} {i = i} {a = a} {b = b} {c = c} {xs = xs} {ys = ys} {zs = zs} s t u) said shallow =
    let d = own_attrs_declared s in
    let e = exact_children t in
    let f = exact_rules u in
    let rest = b ++ (c ++ (fixed kind.RightBrace ∷ [])) in
    let rest_is : rest ≡ flat_map child_tokens ys ++ (flat_map rule_tokens zs ++ (fixed kind.RightBrace ∷ [])) =
    ap₂ (λ l m. l ++ (m ++ (fixed kind.RightBrace ∷ []))) e.same f.same in
    let head : Tokens = fixed kind.Class ∷ name n ∷ fixed kind.Colon ∷ name i ∷ fixed kind.LeftBrace ∷ [] in
    let head_plain : Each IsPlain head =
    (no_bracket kind.Class tt, (is_name, (no_bracket kind.Colon tt, (is_name, (no_bracket kind.LeftBrace tt, tt))))) in
    let inner = said.1.1.1.1.1 in
    let rest_shallow : IsShallow brackets limit rest =
    shallow-right (level-each a d.plain) (shallow-right {a = head} (level-each head head_plain) shallow) in
    record {
      spells = class_of d.spells (subst (λ l. SpellsChildren l ys) e.same t) (subst (λ l. SpellsRules l zs) f.same u);
      said =
          let inside = each-append Said (flat_map attr_tokens xs) _ (d.said (each-left Said a rest inner))
          (subst (Each Said) rest_is (each-right Said a rest inner)) in
          (tt, (said.1.0, (tt, (said.1.1.1.0, (tt, inside)))));
      shallow =
          shallow-each head head_plain
          (shallow-each (flat_map attr_tokens xs) (attrs_plain xs) (subst (IsShallow brackets limit) rest_is rest_shallow));
    }

-- as many brackets are closed as opened in a class
class_level : {a : Tokens} {y : Class} → SpellsClass a y → IsLevel a
class_level (class_of {a = a} {b = b} {c = c} s t u) =
    level-plain (no_bracket kind.Class tt) (level-plain is_name (level-plain (no_bracket kind.Colon tt)
    (level-plain is_name (level-plain (no_bracket kind.LeftBrace tt)
    (level-append (level-each a (own_attrs_declared s).plain)
    (level-append (exact_children t).level (level-append (exact_rules u).level (level-each _ right_brace))))))))

-- ---- grammars

-- what is said of each interface and each class
record Parts (xs : List Interface) (ys : List Class) : Type 0 where
  interfaces : Each (λ x. Canonical (λ ts. SpellsInterface ts x) (interface_tokens x)) xs
  classes : Each (λ y. Canonical (λ ts. SpellsClass ts y) (class_tokens y)) ys

parts : {a : Tokens} {xs : List Interface} {ys : List Class} → SpellsDeclarations a xs ys → Each Said a
    → IsShallow brackets limit a → Parts xs ys
parts no_declarations said shallow = record { interfaces = tt; classes = tt }
parts (interface_declared {a = a} {b = b} s t) said shallow =
    let rest = parts t (each-right Said a b said) (shallow-right (level-each a (interface_plain s)) shallow) in
    record {
      interfaces = (interface_canonical s (each-left Said a b said), rest.interfaces);
      classes = rest.classes;
    }
parts (class_declared {a = a} {b = b} s t) said shallow =
    let rest = parts t (each-right Said a b said) (shallow-right (class_level s) shallow) in
    record {
      interfaces = rest.interfaces;
      classes = (class_canonical s (each-left Said a b said) (shallow-left b shallow), rest.classes);
    }

classes_canonical : (ys : List Class) → Each (λ y. Canonical (λ ts. SpellsClass ts y) (class_tokens y)) ys
    → Canonical (λ ts. SpellsDeclarations ts [] ys) (flat_map class_tokens ys)
classes_canonical [] all = record { spells = no_declarations; said = tt; shallow = shallow-nil }
classes_canonical (y ∷ ys) all =
    let rest = classes_canonical ys all.1 in
    record {
      spells = class_declared all.0.spells rest.spells;
      said = each-append Said (class_tokens y) _ all.0.said rest.said;
      shallow = shallow-join (class_level all.0.spells) all.0.shallow rest.shallow;
    }

parts_canonical : (xs : List Interface) (ys : List Class) → Parts xs ys
    → Canonical (λ ts. SpellsDeclarations ts xs ys) (flat_map interface_tokens xs ++ flat_map class_tokens ys)
parts_canonical [] ys p = classes_canonical ys p.classes
parts_canonical (x ∷ xs) ys p =
    let rest = parts_canonical xs ys (record { interfaces = p.interfaces.1; classes = p.classes }) in
    let first = p.interfaces.0 in
    let together : flat_map interface_tokens (x ∷ xs) ++ flat_map class_tokens ys
    ≡ interface_tokens x ++ (flat_map interface_tokens xs ++ flat_map class_tokens ys) =
    append_assoc (interface_tokens x) (flat_map interface_tokens xs) (flat_map class_tokens ys) in
    subst (Canonical (λ ts. SpellsDeclarations ts (x ∷ xs) ys)) (sym together)
    (record {
      spells = interface_declared first.spells rest.spells;
      said = each-append Said (interface_tokens x) _ first.said rest.said;
      shallow = shallow-join (level-each _ (interface_plain first.spells)) first.shallow rest.shallow;
    })

-- the canonical tokens of a grammar that some tokens spell
pub record IsCanonical (g : Grammar) : Type 0 where
  pub spells : SpellsGrammar (grammar_tokens g) g
  pub said : Each Said (grammar_tokens g)
  pub shallow : IsShallow brackets limit (grammar_tokens g)

pub grammar_canonical : {ts : Tokens} {g : Grammar} → SpellsGrammar ts g → Each Said ts → IsShallow brackets limit ts
    → IsCanonical g
grammar_canonical (grammar_of {n = n} {xs = xs} {ys = ys} s) said shallow =
    let head : Tokens = fixed kind.Root ∷ name n ∷ fixed kind.Semicolon ∷ [] in
    let head_plain : Each IsPlain head = (no_bracket kind.Root tt, (is_name, (no_bracket kind.Semicolon tt, tt))) in
    let p = parts_canonical xs ys (parts s said.1.1.1 (shallow-right {a = head} (level-each head head_plain) shallow)) in
    record {
      spells = grammar_of p.spells;
      said = (tt, (said.1.0, (tt, p.said)));
      shallow = shallow-each head head_plain p.shallow;
    }
