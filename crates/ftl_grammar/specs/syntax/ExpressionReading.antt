-- How conditions and expressions are read, one token ahead. What stands between brackets is read by the parameters
-- `expr` and `cond`.
use Rattle.std.specs.Prelude.{ℕ, zero, suc, true, false, Bool, [], ◌∷◌, Option, Some, None}
use Rattle.ftl_tokens.specs.declared.scanner.kind.Kind.{Kind}
use Rattle.ftl_tokens.specs.declared.scanner.kind.Kind.TheVariants as kind
use Rattle.ftl_tokens.specs.reading.Reader.{Reader, ◌>>=◌, ◌>>◌, ◌<$>◌, pure, refuse, next_kind, skip, expect, push, chain_of}
use Rattle.ftl_grammar.specs.declared.syntax.expression.Test.{Test}
use Rattle.ftl_grammar.specs.declared.syntax.expression.Test.TheVariants as tests
use Rattle.ftl_grammar.specs.declared.syntax.expression.Conj.{Conj}
use Rattle.ftl_grammar.specs.declared.syntax.expression.Cond.{Cond}
use Rattle.ftl_grammar.specs.declared.syntax.expression.Expr.{Expr}
use Rattle.ftl_grammar.specs.declared.syntax.expression.Expr.TheVariants as exprs
use Rattle.ftl_grammar.specs.syntax.Trees as trees
use Rattle.ftl_grammar.specs.syntax.Trees.{NameText}
use Rattle.ftl_grammar.specs.syntax.SumReading.{comparison, sum}

-- ---- conditions and expressions

module _ (expr : Reader Expr) (cond : Reader Cond) where
  -- a condition in square brackets, after `!` or without it
  unfoldable pub bracketed : Bool → Reader Test
  bracketed negated = do
    expect kind.LeftBracket
    x ← cond
    expect kind.RightBracket
    pure (tests.Group negated x)

  -- a test, by the kind of its first token
  abbrev pub test_by : Option Kind → Reader Test
  test_by (Some kind.Bang) = skip >> bracketed true
  test_by (Some kind.LeftBracket) = bracketed false
  test_by _ = comparison expr

  -- a condition in square brackets, or two sums that are compared
  unfoldable pub one_test : Reader Test
  one_test = λ ts. test_by (next_kind ts) ts

  -- `&&` and one more test, by the kind of the next token
  abbrev pub and_test_by : Option Kind → Reader (Option Test)
  and_test_by (Some kind.AndAnd) = skip >> Some <$> one_test
  and_test_by _ = pure None

  -- `&&` and one more test, if they are there
  unfoldable pub and_test : Reader (Option Test)
  and_test = λ ts. and_test_by (next_kind ts) ts

  -- tests with `&&` between them
  unfoldable pub conj : Reader Conj
  conj = do
    x ← one_test
    xs ← chain_of push and_test (x ∷ [])
    pure (trees.conj xs)

  -- `||` and one more conj, by the kind of the next token
  abbrev pub or_conj_by : Option Kind → Reader (Option Conj)
  or_conj_by (Some kind.OrOr) = skip >> Some <$> conj
  or_conj_by _ = pure None

  -- `||` and one more conj, if they are there
  unfoldable pub or_conj : Reader (Option Conj)
  or_conj = λ ts. or_conj_by (next_kind ts) ts

  -- conjs with `||` between them
  unfoldable pub cond_level : Reader Cond
  cond_level = do
    x ← conj
    xs ← chain_of push or_conj (x ∷ [])
    pure (trees.cond xs)

  -- a condition and two sums, after `if`
  unfoldable pub choice : Reader Expr
  choice = do
    x ← cond_level
    expect kind.Then
    y ← sum expr
    expect kind.Else
    z ← sum expr
    pure (exprs.If x y z)

  -- an expression, by the kind of its first token
  abbrev pub expr_by : Option Kind → Reader Expr
  expr_by (Some kind.If) = skip >> choice
  expr_by _ = exprs.Sum <$> sum expr

  -- a choice between two sums, or a sum
  unfoldable pub expr_level : Reader Expr
  expr_level = λ ts. expr_by (next_kind ts) ts

-- ---- what stands between brackets, to a depth that each bracket makes less

unfoldable mutual
  -- an expression with fewer brackets in one another than the depth
  pub expr : ℕ → Reader Expr
  expr zero = refuse
  expr (suc depth) = expr_level (expr depth) (cond depth)

  -- a condition with fewer brackets in one another than the depth
  pub cond : ℕ → Reader Cond
  cond zero = refuse
  cond (suc depth) = cond_level (expr depth) (cond depth)
