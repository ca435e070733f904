-- What the readers of conditions and expressions tell: `x_prefix` of the reader `x`.
use Rattle.std.proofs.Common.{ℕ, zero, suc, Bool, true, false, List, [], ◌∷◌, ◌++◌, Option, Some, refl, sym, subst}
use Rattle.ftl_tokens.specs.declared.scanner.kind.Kind.{Kind}
use Rattle.ftl_tokens.specs.declared.scanner.kind.Kind.TheVariants as kind
use Rattle.ftl_tokens.specs.scanner.Tokenized.{fixed}
use Rattle.ftl_tokens.specs.reading.Reader.{Tokens, Reader}
use Rattle.ftl_tokens.proofs.reading.KeptPrefix.{example, KeepsPrefix, KeepsPrefixAt, bind_prefix, map_prefix, pure_prefix, refuse_prefix, wider_prefix}
use Rattle.ftl_tokens.proofs.reading.KeptPrefix.{look_prefix, at_any}
use Rattle.ftl_tokens.proofs.reading.TokenPrefix.{past_prefix, end_prefix, skip_prefix}
use Rattle.ftl_tokens.proofs.reading.ChainPrefix.{OrNone, Added, chain_prefix, chain_added}
use Rattle.ftl_grammar.specs.declared.syntax.expression.Test.{Test}
use Rattle.ftl_grammar.specs.declared.syntax.expression.Test.TheVariants as tests
use Rattle.ftl_grammar.specs.declared.syntax.expression.Conj.{Conj}
use Rattle.ftl_grammar.specs.declared.syntax.expression.Cond.{Cond}
use Rattle.ftl_grammar.specs.declared.syntax.expression.Expr.{Expr}
use Rattle.ftl_grammar.specs.declared.syntax.expression.Expr.TheVariants as exprs
use Rattle.ftl_grammar.specs.syntax.Trees as trees
use Rattle.ftl_grammar.specs.syntax.Spelling.{SpellsTest, SpellsAndTests, SpellsConj, SpellsOrConjs, SpellsCond, SpellsExpr}
use Rattle.ftl_grammar.specs.syntax.Spelling.{grouped, negated, no_tests, more_tests, conj_of, no_conjs, more_conjs, cond_of}
use Rattle.ftl_grammar.specs.syntax.Spelling.{plain_sum, if_then_else}
use Rattle.ftl_grammar.specs.syntax.ExpressionReading as reading
use Rattle.ftl_grammar.specs.syntax.ExpressionReading.{bracketed, test_by, one_test, and_test_by, and_test, conj, or_conj_by}
use Rattle.ftl_grammar.specs.syntax.ExpressionReading.{or_conj, cond_level, choice, expr_by, expr_level}
use Rattle.ftl_grammar.proofs.syntax.Parts.{Bracketed, bracketed_of, AndTest, and_test_of, OrConj, or_conj_of, Choice}
use Rattle.ftl_grammar.proofs.syntax.Parts.{choice_of}
use Rattle.ftl_grammar.proofs.syntax.Examples.{zero_sum, zero_expr, zero_cond}
use Rattle.ftl_grammar.proofs.syntax.SumPrefix.{sum_prefix, comparison_prefix}

-- ---- what the parts make

grouped_turn : (a : Tokens) (x : Test) → Bracketed false a x → SpellsTest a x
grouped_turn a x (bracketed_of s) = grouped s

negated_turn : (a : Tokens) (x : Test) → Bracketed true a x → SpellsTest (fixed kind.Bang ∷ a) x
negated_turn a x (bracketed_of s) = negated s

more_tests_turn : (a b : Tokens) (x : Test) (xs : List Test) → AndTest a x → SpellsAndTests b xs
    → SpellsAndTests (a ++ b) (x ∷ xs)
more_tests_turn a b x xs (and_test_of s) t = more_tests s t

more_conjs_turn : (a b : Tokens) (x : Conj) (xs : List Conj) → OrConj a x → SpellsOrConjs b xs
    → SpellsOrConjs (a ++ b) (x ∷ xs)
more_conjs_turn a b x xs (or_conj_of s) t = more_conjs s t

conj_turn : {a b : Tokens} {x : Test} {xs : List Test} → SpellsTest a x → Added SpellsAndTests (x ∷ []) b xs
    → SpellsConj (a ++ b) (trees.conj xs)
conj_turn {a} {b} s added = subst (λ l. SpellsConj (a ++ b) (trees.conj l)) (sym added.all) (conj_of s added.spells)

cond_turn : {a b : Tokens} {x : Conj} {xs : List Conj} → SpellsConj a x → Added SpellsOrConjs (x ∷ []) b xs
    → SpellsCond (a ++ b) (trees.cond xs)
cond_turn {a} {b} s added = subst (λ l. SpellsCond (a ++ b) (trees.cond l)) (sym added.all) (cond_of s added.spells)

choice_turn : (a : Tokens) (x : Expr) → Choice a x → SpellsExpr (fixed kind.If ∷ a) x
choice_turn a x (choice_of s t u) = if_then_else s t u

module _ {expr : Reader Expr} {cond : Reader Cond} (expr_prefix : KeepsPrefix SpellsExpr expr)
    (cond_prefix : KeepsPrefix SpellsCond cond) where
  bracketed_prefix : (is_negated : Bool) → KeepsPrefix (Bracketed is_negated) (bracketed expr cond is_negated)
  unfolding bracketed
  bracketed_prefix is_negated =
      past_prefix kind.LeftBracket
      (example (zero_cond.tokens ++ (fixed kind.RightBracket ∷ [])) (tests.Group is_negated zero_cond.value)
      (bracketed_of zero_cond.spells))
      (bind_prefix cond_prefix
      (λ a x s. example (fixed kind.RightBracket ∷ []) (tests.Group is_negated x) (bracketed_of s))
      (λ a x s. end_prefix kind.RightBracket (tests.Group is_negated x) (bracketed_of s)))

  test_prefix : KeepsPrefix SpellsTest (one_test expr cond)
  unfolding one_test
  test_prefix = look_prefix (test_by expr cond) each
    where
      each : (k : Option Kind) → KeepsPrefixAt k SpellsTest (test_by expr cond k)
      each (Some kind.Bang) = skip_prefix kind.Bang tt (wider_prefix negated_turn (bracketed_prefix true))
      each (Some kind.LeftBracket) = at_any (wider_prefix grouped_turn (bracketed_prefix false))
      each _ = at_any (comparison_prefix expr_prefix)

  pub and_test_prefix : KeepsPrefix (OrNone AndTest) (and_test expr cond)
  unfolding and_test
  and_test_prefix = look_prefix (and_test_by expr cond) each
    where
      each : (k : Option Kind) → KeepsPrefixAt k (OrNone AndTest) (and_test_by expr cond k)
      each (Some kind.AndAnd) = skip_prefix kind.AndAnd tt (map_prefix Some test_prefix (λ a x s. and_test_of s))
      each _ = at_any (pure_prefix refl)

  conj_prefix : KeepsPrefix SpellsConj (conj expr cond)
  unfolding conj
  conj_prefix =
      bind_prefix test_prefix
      (λ a x s. example [] (trees.conj (x ∷ [])) (conj_of s no_tests))
      (λ a x s. map_prefix trees.conj (chain_prefix and_test_prefix (x ∷ []))
      (λ b xs all. conj_turn s (chain_added SpellsAndTests no_tests more_tests_turn all)))

  pub or_conj_prefix : KeepsPrefix (OrNone OrConj) (or_conj expr cond)
  unfolding or_conj
  or_conj_prefix = look_prefix (or_conj_by expr cond) each
    where
      each : (k : Option Kind) → KeepsPrefixAt k (OrNone OrConj) (or_conj_by expr cond k)
      each (Some kind.OrOr) = skip_prefix kind.OrOr tt (map_prefix Some conj_prefix (λ a x s. or_conj_of s))
      each _ = at_any (pure_prefix refl)

  pub cond_level_prefix : KeepsPrefix SpellsCond (cond_level expr cond)
  unfolding cond_level
  cond_level_prefix =
      bind_prefix conj_prefix
      (λ a x s. example [] (trees.cond (x ∷ [])) (cond_of s no_conjs))
      (λ a x s. map_prefix trees.cond (chain_prefix or_conj_prefix (x ∷ []))
      (λ b xs all. cond_turn s (chain_added SpellsOrConjs no_conjs more_conjs_turn all)))

  choice_prefix : KeepsPrefix Choice (choice expr cond)
  unfolding choice
  choice_prefix =
      bind_prefix cond_level_prefix
      (λ a x s. example (fixed kind.Then ∷ (zero_sum.tokens ++ (fixed kind.Else ∷ zero_sum.tokens)))
      (exprs.If x zero_sum.value zero_sum.value) (choice_of s zero_sum.spells zero_sum.spells))
      (λ a x s. past_prefix kind.Then
      (example (zero_sum.tokens ++ (fixed kind.Else ∷ zero_sum.tokens)) (exprs.If x zero_sum.value zero_sum.value)
      (choice_of s zero_sum.spells zero_sum.spells))
      (bind_prefix (sum_prefix expr_prefix)
      (λ b y t. example (fixed kind.Else ∷ zero_sum.tokens) (exprs.If x y zero_sum.value)
      (choice_of s t zero_sum.spells))
      (λ b y t. past_prefix kind.Else
      (example zero_sum.tokens (exprs.If x y zero_sum.value) (choice_of s t zero_sum.spells))
      (map_prefix (λ z. exprs.If x y z) (sum_prefix expr_prefix) (λ c z u. choice_of s t u)))))

  pub expr_level_prefix : KeepsPrefix SpellsExpr (expr_level expr cond)
  unfolding expr_level
  expr_level_prefix = look_prefix (expr_by expr cond) each
    where
      each : (k : Option Kind) → KeepsPrefixAt k SpellsExpr (expr_by expr cond k)
      each (Some kind.If) = skip_prefix kind.If tt (wider_prefix choice_turn choice_prefix)
      each _ = at_any (map_prefix exprs.Sum (sum_prefix expr_prefix) (λ a x s. plain_sum s))

-- ---- at each depth

mutual
  unfolding reading.expr reading.cond

  pub expr_prefix : (depth : ℕ) → KeepsPrefix SpellsExpr (reading.expr depth)
  expr_prefix zero = refuse_prefix zero_expr
  expr_prefix (suc depth) = expr_level_prefix (expr_prefix depth) (cond_prefix depth)

  pub cond_prefix : (depth : ℕ) → KeepsPrefix SpellsCond (reading.cond depth)
  cond_prefix zero = refuse_prefix zero_cond
  cond_prefix (suc depth) = cond_level_prefix (expr_prefix depth) (cond_prefix depth)
