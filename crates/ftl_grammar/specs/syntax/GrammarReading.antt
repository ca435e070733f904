-- How rules, classes and grammars are read, one token ahead. The right sides of rules are read by the parameter `expr`.
use Rattle.std.specs.Prelude.{ℕ, suc, List, [], ◌∷◌, Option, Some, None}
use Rattle.ftl_tokens.specs.declared.scanner.kind.Kind.{Kind}
use Rattle.ftl_tokens.specs.declared.scanner.kind.Kind.TheVariants as kind
use Rattle.ftl_tokens.specs.declared.reading.chain_item.ChainItem.{ChainItem}
use Rattle.ftl_tokens.specs.declared.reading.chain_item.ChainItem.TheVariants.{Stop, Next, Last}
use Rattle.ftl_tokens.specs.reading.Reader.{Reader, ◌>>=◌, ◌>>◌, ◌<$>◌, pure, next_kind, skip, expect, take_name, at_end, push}
use Rattle.ftl_tokens.specs.reading.Reader.{chain_of, until_of}
use Rattle.ftl_grammar.specs.declared.syntax.expression.Expr.{Expr}
use Rattle.ftl_grammar.specs.declared.syntax.rules.Interface.{Interface}
use Rattle.ftl_grammar.specs.declared.syntax.rules.Child.{Child}
use Rattle.ftl_grammar.specs.declared.syntax.rules.Target.TheVariants as targets
use Rattle.ftl_grammar.specs.declared.syntax.rules.Body.{Body}
use Rattle.ftl_grammar.specs.declared.syntax.rules.Body.TheVariants as bodies
use Rattle.ftl_grammar.specs.declared.syntax.rules.Rule.{Rule}
use Rattle.ftl_grammar.specs.declared.syntax.rules.Class.{Class}
use Rattle.ftl_grammar.specs.declared.syntax.rules.Declaration.{Declaration}
use Rattle.ftl_grammar.specs.declared.syntax.rules.Declaration.TheVariants as declarations
use Rattle.ftl_grammar.specs.declared.syntax.rules.Grammar.{Grammar}
use Rattle.ftl_grammar.specs.syntax.Brackets.{limit}
use Rattle.ftl_grammar.specs.syntax.Trees as trees
use Rattle.ftl_grammar.specs.syntax.Trees.{NameText}
use Rattle.ftl_grammar.specs.syntax.SumReading.{dot_name}
use Rattle.ftl_grammar.specs.syntax.ExpressionReading as reading
use Rattle.ftl_grammar.specs.syntax.InterfaceReading.{append, child, interface, own_attrs}

-- ---- rules and classes

-- the rules so far, of which the first may have ended the children
abbrev pub list_of : Option Rule → List Rule
list_of None = []
list_of (Some x) = x ∷ []

-- the interfaces so far, and the classes so far, with one more
abbrev pub add_declaration : List Interface × List Class → Declaration → List Interface × List Class
add_declaration found (declarations.Interface x) = (push found.0 x, found.1)
add_declaration found (declarations.Class x) = (found.0, push found.1 x)

module _ (expr : Reader Expr) where
  -- the rest of a fold, after `fold`
  unfoldable pub fold : Reader Body
  fold = do
    c ← take_name
    expect kind.From
    x ← expr
    expect kind.With
    y ← expr
    pure (bodies.Fold c x y)

  -- the right side of a rule for the node itself, by the kind of its first token
  abbrev pub own_body_by : Option Kind → Reader Body
  own_body_by (Some kind.Fold) = skip >> fold
  own_body_by _ = bodies.Plain <$> expr

  -- the right side of a rule for the node itself
  unfoldable pub own_body : Reader Body
  own_body = λ ts. own_body_by (next_kind ts) ts

  -- two expressions with `then` between them, after `first`
  unfoldable pub first_then : Reader Body
  first_then = do
    x ← expr
    expect kind.Then
    y ← expr
    pure (bodies.FirstThen x y)

  -- the right side of a rule for a child, by the kind of its first token
  abbrev pub child_body_by : Option Kind → Reader Body
  child_body_by (Some kind.First) = skip >> first_then
  child_body_by _ = bodies.Plain <$> expr

  -- the right side of a rule for a child
  unfoldable pub child_body : Reader Body
  child_body = λ ts. child_body_by (next_kind ts) ts

  -- the rest of a rule for the node itself, after `self`
  unfoldable pub own_rule : Reader Rule
  own_rule = do
    n ← dot_name
    expect kind.Assign
    x ← own_body
    expect kind.Semicolon
    pure (trees.rule (targets.Own n) x)

  -- the rest of a rule for a child, after the child's name
  unfoldable pub child_rule : NameText → Reader Rule
  child_rule c = do
    n ← dot_name
    expect kind.Assign
    x ← child_body
    expect kind.Semicolon
    pure (trees.rule (targets.Of c n) x)

  -- one more rule, by the kind of its first token
  abbrev pub rule_by : Option Kind → Reader (Option Rule)
  rule_by (Some kind.SelfWord) = skip >> Some <$> own_rule
  rule_by (Some kind.Name) = take_name >>= (λ c. Some <$> child_rule c)
  rule_by _ = pure None

  -- one more rule, if there is one
  unfoldable pub rule : Reader (Option Rule)
  rule = λ ts. rule_by (next_kind ts) ts

  -- by what stands after a child's name: `:` declares it, and all else is its rule
  abbrev pub named_by : NameText → Option Kind → Reader (ChainItem Child Rule)
  named_by c (Some kind.Colon) = skip >> Next <$> child c
  named_by c _ = Last <$> child_rule c

  -- what comes after a child's name: its declaration, or its rule
  unfoldable pub named : NameText → Reader (ChainItem Child Rule)
  named c = λ ts. named_by c (next_kind ts) ts

  -- one more child or the first rule for a child, by the kind of its first token
  abbrev pub member_by : Option Kind → Reader (ChainItem Child Rule)
  member_by (Some kind.Name) = take_name >>= named
  member_by _ = pure Stop

  -- one more child, or the first rule if it is a child's
  unfoldable pub member : Reader (ChainItem Child Rule)
  member = λ ts. member_by (next_kind ts) ts

  -- the rest of a class, after `class`
  unfoldable pub class : Reader Class
  class = do
    n ← take_name
    expect kind.Colon
    i ← take_name
    expect kind.LeftBrace
    xs ← chain_of append own_attrs []
    ys ← until_of push member []
    zs ← chain_of push rule (list_of ys.1)
    expect kind.RightBrace
    pure (trees.class n i xs ys.0 zs)

  -- one more interface or class, by the kind of its first token
  abbrev pub declaration_by : Option Kind → Reader (Option Declaration)
  declaration_by (Some kind.Interface) = skip >> (λ x. Some (declarations.Interface x)) <$> interface
  declaration_by (Some kind.Class) = skip >> (λ x. Some (declarations.Class x)) <$> class
  declaration_by _ = pure None

  -- one more interface or class, if there is one
  unfoldable pub declaration : Reader (Option Declaration)
  declaration = λ ts. declaration_by (next_kind ts) ts

  -- the whole list of tokens
  unfoldable pub grammar_level : Reader Grammar
  grammar_level = do
    expect kind.Root
    n ← take_name
    expect kind.Semicolon
    xs ← chain_of add_declaration declaration ([], [])
    at_end
    pure (trees.grammar n xs.0 xs.1)

-- one level of brackets more than may be open: where no more are, the last level is never read
abbrev pub bracket_depth : ℕ
bracket_depth = suc limit

-- an expression in which at most 64 brackets are open
abbrev pub any_expr : Reader Expr
any_expr = reading.expr bracket_depth

-- a whole grammar, in which at most 64 brackets are open
unfoldable pub grammar : Reader Grammar
grammar = grammar_level any_expr
