-- The readers of conditions and expressions look one token ahead: `x_alike` says it of the reader `x`.
use Rattle.std.proofs.Common.{ℕ, zero, suc, ◌≤◌, Bool, true, false, [], ◌∷◌, Option, Some, refl, arith}
use Rattle.ftl_tokens.specs.declared.scanner.kind.Kind.{Kind}
use Rattle.ftl_tokens.specs.declared.scanner.kind.Kind.TheVariants as kind
use Rattle.ftl_tokens.specs.reading.Reader.{Reader, next_kind, push}
use Rattle.ftl_tokens.proofs.reading.KeptPrefix.{KeepsPrefix}
use Rattle.ftl_tokens.proofs.reading.Alike.{Alike, AlikeAt, pure_alike, look_alike, alike_at_any, bind_alike, map_alike}
use Rattle.ftl_tokens.proofs.reading.Alike.{none_alike}
use Rattle.ftl_tokens.proofs.reading.TokenAlike.{past_alike, skip_alike}
use Rattle.ftl_tokens.proofs.reading.ChainAlike.{TakesSome, takes_some, chain_alike}
use Rattle.ftl_grammar.specs.declared.syntax.expression.Cond.{Cond}
use Rattle.ftl_grammar.specs.declared.syntax.expression.Expr.{Expr}
use Rattle.ftl_grammar.specs.declared.syntax.expression.Expr.TheVariants as exprs
use Rattle.ftl_grammar.specs.syntax.Trees as trees
use Rattle.ftl_grammar.specs.syntax.Spelling.{SpellsCond, SpellsExpr}
use Rattle.ftl_grammar.specs.syntax.ExpressionReading as reading
use Rattle.ftl_grammar.specs.syntax.ExpressionReading.{bracketed, test_by, one_test, and_test_by, and_test, conj, or_conj_by}
use Rattle.ftl_grammar.specs.syntax.ExpressionReading.{or_conj, cond_level, choice, expr_by, expr_level}
use Rattle.ftl_grammar.proofs.syntax.Heads.{height, past_plain, past_bracket, past_end_bracket}
use Rattle.ftl_grammar.proofs.syntax.Lengths.{some_and_test, some_or_conj}
use Rattle.ftl_grammar.proofs.syntax.CondPrefix.{and_test_prefix, or_conj_prefix, expr_prefix, cond_prefix}
use Rattle.ftl_grammar.proofs.syntax.SumAlike.{sum_alike, comparison_alike}

some_tests : {expr : Reader Expr} {cond : Reader Cond} → KeepsPrefix SpellsExpr expr → KeepsPrefix SpellsCond cond
    → TakesSome (and_test expr cond)
unfolding and_test next_kind
some_tests e c = takes_some (and_test_prefix e c) (λ a x s. some_and_test s) refl

some_conjs : {expr : Reader Expr} {cond : Reader Cond} → KeepsPrefix SpellsExpr expr → KeepsPrefix SpellsCond cond
    → TakesSome (or_conj expr cond)
unfolding or_conj next_kind
some_conjs e c = takes_some (or_conj_prefix e c) (λ a x s. some_or_conj s) refl

module _ {expr expr' : Reader Expr} {cond cond' : Reader Cond} {n : ℕ}
    (e : KeepsPrefix SpellsExpr expr) (c : KeepsPrefix SpellsCond cond) (e' : KeepsPrefix SpellsExpr expr') (c' : KeepsPrefix SpellsCond cond')
    (expr_alike : Alike height n n expr expr') (cond_alike : Alike height n n cond cond') where
  bracketed_alike : (is_negated : Bool)
      → Alike height (suc n) (suc n) (bracketed expr cond is_negated) (bracketed expr' cond' is_negated)
  unfolding bracketed
  bracketed_alike is_negated =
      past_alike kind.LeftBracket past_bracket
      (bind_alike cond_alike (λ x. past_alike kind.RightBracket past_end_bracket pure_alike))

  test_alike : Alike height (suc n) (suc n) (one_test expr cond) (one_test expr' cond')
  unfolding one_test
  test_alike = look_alike (test_by expr cond) (test_by expr' cond') each
    where
      each : (k : Option Kind) → AlikeAt height (suc n) (suc n) k (test_by expr cond k) (test_by expr' cond' k)
      each (Some kind.Bang) = skip_alike kind.Bang tt (past_plain kind.Bang refl) (bracketed_alike true)
      each (Some kind.LeftBracket) = alike_at_any (bracketed_alike false)
      each _ = alike_at_any (comparison_alike e e' expr_alike)

  and_test_alike : Alike height (suc n) (suc n) (and_test expr cond) (and_test expr' cond')
  unfolding and_test
  and_test_alike = look_alike (and_test_by expr cond) (and_test_by expr' cond') each
    where
      each : (k : Option Kind) → AlikeAt height (suc n) (suc n) k (and_test_by expr cond k) (and_test_by expr' cond' k)
      each (Some kind.AndAnd) = skip_alike kind.AndAnd tt (past_plain kind.AndAnd refl) (map_alike Some test_alike)
      each _ = alike_at_any pure_alike

  conj_alike : Alike height (suc n) (suc n) (conj expr cond) (conj expr' cond')
  unfolding conj
  conj_alike =
      bind_alike test_alike
      (λ x. map_alike trees.conj (chain_alike push and_test_alike (some_tests e c) (some_tests e' c') (x ∷ [])))

  or_conj_alike : Alike height (suc n) (suc n) (or_conj expr cond) (or_conj expr' cond')
  unfolding or_conj
  or_conj_alike = look_alike (or_conj_by expr cond) (or_conj_by expr' cond') each
    where
      each : (k : Option Kind) → AlikeAt height (suc n) (suc n) k (or_conj_by expr cond k) (or_conj_by expr' cond' k)
      each (Some kind.OrOr) = skip_alike kind.OrOr tt (past_plain kind.OrOr refl) (map_alike Some conj_alike)
      each _ = alike_at_any pure_alike

  pub cond_level_alike : Alike height (suc n) (suc n) (cond_level expr cond) (cond_level expr' cond')
  unfolding cond_level
  cond_level_alike =
      bind_alike conj_alike
      (λ x. map_alike trees.cond (chain_alike push or_conj_alike (some_conjs e c) (some_conjs e' c') (x ∷ [])))

  choice_alike : Alike height (suc n) (suc n) (choice expr cond) (choice expr' cond')
  unfolding choice
  choice_alike =
      bind_alike cond_level_alike
      (λ x. past_alike kind.Then (past_plain kind.Then refl)
      (bind_alike (sum_alike e e' expr_alike)
      (λ y. past_alike kind.Else (past_plain kind.Else refl)
      (map_alike (λ z. exprs.If x y z) (sum_alike e e' expr_alike)))))

  pub expr_level_alike : Alike height (suc n) (suc n) (expr_level expr cond) (expr_level expr' cond')
  unfolding expr_level
  expr_level_alike = look_alike (expr_by expr cond) (expr_by expr' cond') each
    where
      each : (k : Option Kind) → AlikeAt height (suc n) (suc n) k (expr_by expr cond k) (expr_by expr' cond' k)
      each (Some kind.If) = skip_alike kind.If tt (past_plain kind.If refl) choice_alike
      each _ = alike_at_any (map_alike exprs.Sum (sum_alike e e' expr_alike))

-- ---- at each depth, and at each that is as deep or deeper

mutual
  unfolding reading.expr reading.cond

  pub expr_alike : (n m : ℕ) → n ≤ m → Alike height n n (reading.expr n) (reading.expr m)
  expr_alike zero m e = none_alike (reading.expr m)
  expr_alike (suc n) zero e = absurd (omega arith)
  expr_alike (suc n) (suc m) e =
      expr_level_alike (expr_prefix n) (cond_prefix n) (expr_prefix m) (cond_prefix m) (expr_alike n m (omega arith))
      (cond_alike n m (omega arith))

  pub cond_alike : (n m : ℕ) → n ≤ m → Alike height n n (reading.cond n) (reading.cond m)
  cond_alike zero m e = none_alike (reading.cond m)
  cond_alike (suc n) zero e = absurd (omega arith)
  cond_alike (suc n) (suc m) e =
      cond_level_alike (expr_prefix n) (cond_prefix n) (expr_prefix m) (cond_prefix m) (expr_alike n m (omega arith))
      (cond_alike n m (omega arith))
