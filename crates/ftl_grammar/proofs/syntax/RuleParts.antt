-- The parts of interfaces, classes and rules that are read apart, each by what it stands for.
use Rattle.std.proofs.Common.{true, false, List, [], ◌∷◌, ◌++◌}
use Rattle.ftl_tokens.specs.declared.scanner.kind.Kind.TheVariants as kind
use Rattle.ftl_tokens.specs.scanner.Tokenized.{name, fixed}
use Rattle.ftl_tokens.specs.reading.Reader.{Tokens}
use Rattle.ftl_grammar.specs.declared.syntax.expression.Expr.{Expr}
use Rattle.ftl_grammar.specs.declared.syntax.rules.AttrDecl.{AttrDecl}
use Rattle.ftl_grammar.specs.declared.syntax.rules.Interface.{Interface}
use Rattle.ftl_grammar.specs.declared.syntax.rules.Child.{Child}
use Rattle.ftl_grammar.specs.declared.syntax.rules.Target.TheVariants as targets
use Rattle.ftl_grammar.specs.declared.syntax.rules.Body.{Body}
use Rattle.ftl_grammar.specs.declared.syntax.rules.Body.TheVariants as bodies
use Rattle.ftl_grammar.specs.declared.syntax.rules.Rule.{Rule}
use Rattle.ftl_grammar.specs.declared.syntax.rules.Class.{Class}
use Rattle.ftl_grammar.specs.declared.syntax.rules.Declaration.{Declaration}
use Rattle.ftl_grammar.specs.declared.syntax.rules.Declaration.TheVariants as declarations
use Rattle.ftl_grammar.specs.syntax.Trees as trees
use Rattle.ftl_grammar.specs.syntax.Trees.{NameText}
use Rattle.ftl_grammar.specs.syntax.Spelling.{SpellsExpr}
use Rattle.ftl_grammar.specs.syntax.GrammarSpelling.{SpellsNames, SpellsAttrs, SpellsShown, SpellsInterface, SpellsOwnAttrs}
use Rattle.ftl_grammar.specs.syntax.GrammarSpelling.{SpellsChildren, SpellsOwnBody, SpellsChildBody, SpellsRules, SpellsClass}

-- `,` and a name
pub data CommaName : Tokens → NameText → Type 0 where
  comma_name_of : {n : NameText} → CommaName (fixed kind.Comma ∷ name n ∷ []) n

-- names and `;`
pub data NameLine : Tokens → List NameText → Type 0 where
  name_line_of : {a : Tokens} {ns : List NameText} → SpellsNames a ns → NameLine (a ++ (fixed kind.Semicolon ∷ [])) ns

-- what stands after `interface`
pub data InterfaceRest : Tokens → Interface → Type 0 where
  interface_rest : {n : NameText} {a b : Tokens} {xs : List AttrDecl} {ns : List NameText}
      → SpellsAttrs a xs → SpellsShown b ns
      → InterfaceRest (name n ∷ fixed kind.LeftBrace ∷ (a ++ (b ++ (fixed kind.RightBrace ∷ []))))
      (trees.interface n xs ns)

-- what stands after a child's name and `:`
pub data ChildRest (c : NameText) : Tokens → Child → Type 0 where
  single_rest : {n : NameText} → ChildRest c (name n ∷ fixed kind.Semicolon ∷ []) (trees.child c n false)
  list_rest : {n : NameText}
      → ChildRest c (fixed kind.LeftBracket ∷ name n ∷ fixed kind.RightBracket ∷ fixed kind.Semicolon ∷ [])
      (trees.child c n true)

-- what stands after `fold`
pub data FoldRest : Tokens → Body → Type 0 where
  fold_rest : {c : NameText} {a b : Tokens} {x y : Expr} → SpellsExpr a x → SpellsExpr b y
      → FoldRest (name c ∷ fixed kind.From ∷ (a ++ (fixed kind.With ∷ b))) (bodies.Fold c x y)

-- what stands after `first`
pub data FirstRest : Tokens → Body → Type 0 where
  first_rest : {a b : Tokens} {x y : Expr} → SpellsExpr a x → SpellsExpr b y
      → FirstRest (a ++ (fixed kind.Then ∷ b)) (bodies.FirstThen x y)

-- what stands after `self` in a rule
pub data OwnRuleRest : Tokens → Rule → Type 0 where
  own_rule_rest : {n : NameText} {a : Tokens} {x : Body} → SpellsOwnBody a x
      → OwnRuleRest (fixed kind.Dot ∷ name n ∷ fixed kind.Assign ∷ (a ++ (fixed kind.Semicolon ∷ [])))
      (trees.rule (targets.Own n) x)

-- what stands after a child's name in a rule
pub data ChildRuleRest (c : NameText) : Tokens → Rule → Type 0 where
  child_rule_rest : {n : NameText} {a : Tokens} {x : Body} → SpellsChildBody a x
      → ChildRuleRest c (fixed kind.Dot ∷ name n ∷ fixed kind.Assign ∷ (a ++ (fixed kind.Semicolon ∷ [])))
      (trees.rule (targets.Of c n) x)

-- a rule of a child
pub data ChildRule : Tokens → Rule → Type 0 where
  child_rule_of : {c : NameText} {a : Tokens} {x : Rule} → ChildRuleRest c a x → ChildRule (name c ∷ a) x

-- what stands after `class`
pub data ClassRest : Tokens → Class → Type 0 where
  class_rest : {n i : NameText} {a b c : Tokens} {xs : List AttrDecl} {ys : List Child} {zs : List Rule}
      → SpellsOwnAttrs a xs → SpellsChildren b ys → SpellsRules c zs
      → ClassRest
      (name n ∷ fixed kind.Colon ∷ name i ∷ fixed kind.LeftBrace ∷ (a ++ (b ++ (c ++ (fixed kind.RightBrace ∷ [])))))
      (trees.class n i xs ys zs)

-- an interface or a class
pub data DeclarationOf : Tokens → Declaration → Type 0 where
  interface_of_declaration : {a : Tokens} {x : Interface}
      → SpellsInterface a x → DeclarationOf a (declarations.Interface x)
  class_of_declaration : {a : Tokens} {x : Class} → SpellsClass a x → DeclarationOf a (declarations.Class x)
