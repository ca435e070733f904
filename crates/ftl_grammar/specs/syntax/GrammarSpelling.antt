-- Which tokens spell which grammar, and its interfaces, classes and rules: a line of the syntax after the other.
use Rattle.std.specs.Prelude.{true, false, List, [], ◌∷◌, ◌++◌, map}
use Rattle.ftl_tokens.specs.declared.scanner.kind.Kind.TheVariants as kind
use Rattle.ftl_tokens.specs.scanner.Tokenized.{name, fixed}
use Rattle.ftl_tokens.specs.reading.Reader.{Tokens}
use Rattle.ftl_grammar.specs.declared.syntax.expression.Expr.{Expr}
use Rattle.ftl_grammar.specs.declared.syntax.rules.AttrKind.TheVariants as attr
use Rattle.ftl_grammar.specs.declared.syntax.rules.AttrDecl.{AttrDecl}
use Rattle.ftl_grammar.specs.declared.syntax.rules.Interface.{Interface}
use Rattle.ftl_grammar.specs.declared.syntax.rules.Child.{Child}
use Rattle.ftl_grammar.specs.declared.syntax.rules.Target.TheVariants as target
use Rattle.ftl_grammar.specs.declared.syntax.rules.Body.{Body}
use Rattle.ftl_grammar.specs.declared.syntax.rules.Body.TheVariants as body
use Rattle.ftl_grammar.specs.declared.syntax.rules.Rule.{Rule}
use Rattle.ftl_grammar.specs.declared.syntax.rules.Class.{Class}
use Rattle.ftl_grammar.specs.declared.syntax.rules.Grammar.{Grammar}
use Rattle.ftl_grammar.specs.syntax.Trees.{NameText, attr_decl, child, rule, interface, class, grammar}
use Rattle.ftl_grammar.specs.syntax.Spelling.{SpellsExpr}

-- names = NAME { "," NAME }
pub data SpellsNames : Tokens → List NameText → Type 0 where
  one_name : {n : NameText} → SpellsNames (name n ∷ []) (n ∷ [])
  more_names : {n : NameText} {a : Tokens} {ns : List NameText} → SpellsNames a ns
      → SpellsNames (name n ∷ fixed kind.Comma ∷ a) (n ∷ ns)

-- ("inh"|"syn"|"input") names ";", as in an interface
pub data SpellsAttrGroup : Tokens → List AttrDecl → Type 0 where
  inh_group : {a : Tokens} {ns : List NameText} → SpellsNames a ns
      → SpellsAttrGroup (fixed kind.Inh ∷ (a ++ (fixed kind.Semicolon ∷ []))) (map (attr_decl attr.Inh) ns)
  syn_group : {a : Tokens} {ns : List NameText} → SpellsNames a ns
      → SpellsAttrGroup (fixed kind.Syn ∷ (a ++ (fixed kind.Semicolon ∷ []))) (map (attr_decl attr.Syn) ns)
  input_group : {a : Tokens} {ns : List NameText} → SpellsNames a ns
      → SpellsAttrGroup (fixed kind.Input ∷ (a ++ (fixed kind.Semicolon ∷ []))) (map (attr_decl attr.Input) ns)

-- { ("inh"|"syn"|"input") names ";" }
pub data SpellsAttrs : Tokens → List AttrDecl → Type 0 where
  no_attrs : SpellsAttrs [] []
  more_attrs : {a b : Tokens} {xs ys : List AttrDecl} → SpellsAttrGroup a xs → SpellsAttrs b ys
      → SpellsAttrs (a ++ b) (xs ++ ys)

-- [ "show" names ";" ]
pub data SpellsShown : Tokens → List NameText → Type 0 where
  none_shown : SpellsShown [] []
  some_shown : {a : Tokens} {ns : List NameText} → SpellsNames a ns
      → SpellsShown (fixed kind.Show ∷ (a ++ (fixed kind.Semicolon ∷ []))) ns

-- interface = "interface" NAME "{" { ("inh"|"syn"|"input") names ";" } [ "show" names ";" ] "}"
pub data SpellsInterface : Tokens → Interface → Type 0 where
  interface_of : {n : NameText} {a b : Tokens} {xs : List AttrDecl} {ns : List NameText}
      → SpellsAttrs a xs → SpellsShown b ns → SpellsInterface
      (fixed kind.Interface ∷ name n ∷ fixed kind.LeftBrace ∷ (a ++ (b ++ (fixed kind.RightBrace ∷ []))))
      (interface n xs ns)

-- ("input"|"local") names ";", as in a class
pub data SpellsOwnAttrGroup : Tokens → List AttrDecl → Type 0 where
  own_input_group : {a : Tokens} {ns : List NameText} → SpellsNames a ns
      → SpellsOwnAttrGroup (fixed kind.Input ∷ (a ++ (fixed kind.Semicolon ∷ []))) (map (attr_decl attr.Input) ns)
  own_local_group : {a : Tokens} {ns : List NameText} → SpellsNames a ns
      → SpellsOwnAttrGroup (fixed kind.Local ∷ (a ++ (fixed kind.Semicolon ∷ []))) (map (attr_decl attr.Local) ns)

-- { ("input"|"local") names ";" }
pub data SpellsOwnAttrs : Tokens → List AttrDecl → Type 0 where
  no_own_attrs : SpellsOwnAttrs [] []
  more_own_attrs : {a b : Tokens} {xs ys : List AttrDecl} → SpellsOwnAttrGroup a xs → SpellsOwnAttrs b ys
      → SpellsOwnAttrs (a ++ b) (xs ++ ys)

-- child = NAME ":" NAME ";" | NAME ":" "[" NAME "]" ";"
pub data SpellsChild : Tokens → Child → Type 0 where
  single : {c n : NameText}
      → SpellsChild (name c ∷ fixed kind.Colon ∷ name n ∷ fixed kind.Semicolon ∷ []) (child c n false)
  list : {c n : NameText}
      → SpellsChild
      (name c ∷ fixed kind.Colon ∷ fixed kind.LeftBracket ∷ name n ∷ fixed kind.RightBracket ∷ fixed kind.Semicolon
      ∷ [])
      (child c n true)

-- { child }
pub data SpellsChildren : Tokens → List Child → Type 0 where
  no_children : SpellsChildren [] []
  more_children : {a b : Tokens} {x : Child} {xs : List Child} → SpellsChild a x → SpellsChildren b xs
      → SpellsChildren (a ++ b) (x ∷ xs)

-- expr | fold, with fold = "fold" NAME "from" expr "with" expr
pub data SpellsOwnBody : Tokens → Body → Type 0 where
  own_plain : {a : Tokens} {x : Expr} → SpellsExpr a x → SpellsOwnBody a (body.Plain x)
  fold : {c : NameText} {a b : Tokens} {x y : Expr} → SpellsExpr a x → SpellsExpr b y
      → SpellsOwnBody (fixed kind.Fold ∷ name c ∷ fixed kind.From ∷ (a ++ (fixed kind.With ∷ b))) (body.Fold c x y)

-- expr | "first" expr "then" expr
pub data SpellsChildBody : Tokens → Body → Type 0 where
  child_plain : {a : Tokens} {x : Expr} → SpellsExpr a x → SpellsChildBody a (body.Plain x)
  first_then : {a b : Tokens} {x y : Expr} → SpellsExpr a x → SpellsExpr b y
      → SpellsChildBody (fixed kind.First ∷ (a ++ (fixed kind.Then ∷ b))) (body.FirstThen x y)

-- rule = "self" "." NAME ":=" ( expr | fold ) ";" | NAME "." NAME ":=" ( expr | "first" expr "then" expr ) ";"
pub data SpellsRule : Tokens → Rule → Type 0 where
  own_rule : {n : NameText} {a : Tokens} {x : Body} → SpellsOwnBody a x
      → SpellsRule
      (fixed kind.SelfWord ∷ fixed kind.Dot ∷ name n ∷ fixed kind.Assign ∷ (a ++ (fixed kind.Semicolon ∷ [])))
      (rule (target.Own n) x)
  child_rule : {c n : NameText} {a : Tokens} {x : Body} → SpellsChildBody a x
      → SpellsRule (name c ∷ fixed kind.Dot ∷ name n ∷ fixed kind.Assign ∷ (a ++ (fixed kind.Semicolon ∷ [])))
      (rule (target.Of c n) x)

-- { rule }
pub data SpellsRules : Tokens → List Rule → Type 0 where
  no_rules : SpellsRules [] []
  more_rules : {a b : Tokens} {x : Rule} {xs : List Rule} → SpellsRule a x → SpellsRules b xs
      → SpellsRules (a ++ b) (x ∷ xs)

-- class = "class" NAME ":" NAME "{" { ("input"|"local") names ";" } { child } { rule } "}"
pub data SpellsClass : Tokens → Class → Type 0 where
  class_of : {n i : NameText} {a b c : Tokens} {xs : List AttrDecl} {ys : List Child} {zs : List Rule}
      → SpellsOwnAttrs a xs → SpellsChildren b ys → SpellsRules c zs
      → SpellsClass
      (fixed kind.Class ∷ name n ∷ fixed kind.Colon ∷ name i ∷ fixed kind.LeftBrace
      ∷ (a ++ (b ++ (c ++ (fixed kind.RightBrace ∷ [])))))
      (class n i xs ys zs)

-- { interface | class }
pub data SpellsDeclarations : Tokens → List Interface → List Class → Type 0 where
  no_declarations : SpellsDeclarations [] [] []
  interface_declared : {a b : Tokens} {x : Interface} {xs : List Interface} {ys : List Class}
      → SpellsInterface a x → SpellsDeclarations b xs ys → SpellsDeclarations (a ++ b) (x ∷ xs) ys
  class_declared : {a b : Tokens} {y : Class} {xs : List Interface} {ys : List Class}
      → SpellsClass a y → SpellsDeclarations b xs ys → SpellsDeclarations (a ++ b) xs (y ∷ ys)

-- grammar = "root" NAME ";" { interface | class }
pub data SpellsGrammar : Tokens → Grammar → Type 0 where
  grammar_of : {n : NameText} {a : Tokens} {xs : List Interface} {ys : List Class} → SpellsDeclarations a xs ys
      → SpellsGrammar (fixed kind.Root ∷ name n ∷ fixed kind.Semicolon ∷ a) (grammar n xs ys)
