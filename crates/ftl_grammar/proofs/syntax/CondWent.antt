-- Conditions and expressions are read whole: `x_went` by the reader `x`.
use Rattle.std.proofs.Common.{◌≡◌, ℕ, zero, suc, ◌<◌, ◌≤◌, Bool, List, [], ◌∷◌, ◌++◌, Option, Some, None, refl, sym, ap}
use Rattle.std.proofs.Common.{subst, append_assoc, arith}
use Rattle.ftl_tokens.specs.declared.scanner.kind.Kind.{Kind}
use Rattle.ftl_tokens.specs.declared.scanner.kind.Kind.TheVariants as kind
use Rattle.ftl_tokens.specs.scanner.Tokenized.{fixed}
use Rattle.ftl_tokens.specs.reading.Reader.{Tokens, Reader, ◌>>=◌, ◌>>◌, ◌<$>◌, pure, next_kind, expect, push, chain_of}
use Rattle.ftl_tokens.proofs.reading.ChainPrefix.{Chain, chain_none, chain_more}
use Rattle.ftl_tokens.proofs.reading.Went.{got, Went, Complete, went_bind, went_map, went_pure, went_past, went_skip, went_by}
use Rattle.ftl_tokens.proofs.reading.Went.{went_grouped}
use Rattle.ftl_tokens.proofs.reading.ChainWent.{CompleteItem, chain_follows, chain_went}
use Rattle.ftl_grammar.specs.declared.syntax.expression.Test.{Test}
use Rattle.ftl_grammar.specs.declared.syntax.expression.Test.TheVariants as tests
use Rattle.ftl_grammar.specs.declared.syntax.expression.Conj.{Conj}
use Rattle.ftl_grammar.specs.declared.syntax.expression.Cond.{Cond}
use Rattle.ftl_grammar.specs.declared.syntax.expression.Expr.{Expr}
use Rattle.ftl_grammar.specs.declared.syntax.expression.Expr.TheVariants as exprs
use Rattle.ftl_grammar.specs.syntax.Trees as trees
use Rattle.ftl_grammar.specs.syntax.Spelling.{SpellsTest, SpellsAndTests, SpellsConj, SpellsOrConjs, SpellsCond, SpellsExpr}
use Rattle.ftl_grammar.specs.syntax.Spelling.{grouped, negated, compared, no_tests, more_tests, conj_of, no_conjs, more_conjs}
use Rattle.ftl_grammar.specs.syntax.Spelling.{cond_of, plain_sum, if_then_else}
use Rattle.ftl_grammar.specs.syntax.ExpressionReading as reading
use Rattle.ftl_grammar.specs.syntax.ExpressionReading.{bracketed, test_by, one_test, and_test_by, and_test, conj, or_conj_by}
use Rattle.ftl_grammar.specs.syntax.ExpressionReading.{or_conj, cond_level, choice, expr_by, expr_level}
use Rattle.ftl_grammar.specs.syntax.SumReading.{sum, comparison}
use Rattle.ftl_grammar.proofs.syntax.Parts.{Bracketed, bracketed_of, AndTest, and_test_of, OrConj, or_conj_of, Choice}
use Rattle.ftl_grammar.proofs.syntax.Parts.{choice_of}
use Rattle.ftl_grammar.proofs.syntax.Heads.{level, Looser, form, height, past_plain, past_bracket, past_end_bracket}
use Rattle.ftl_grammar.proofs.syntax.Begins.{sum_begins}
use Rattle.ftl_grammar.proofs.syntax.SumWent.{sum_went, comparison_went}
use Rattle.ftl_grammar.proofs.syntax.Lengths.{some_and_test, some_or_conj}

-- ---- what stands where no case of its own does

test_other : (expr : Reader Expr) (cond : Reader Cond) (k : Option Kind) → form k ≤ 3
    → test_by expr cond k ≡ comparison expr
test_other expr cond (Some kind.Bang) e = absurd (omega arith)
test_other expr cond (Some kind.LeftBracket) e = absurd (omega arith)
test_other expr cond _ e = refl

and_test_other : (expr : Reader Expr) (cond : Reader Cond) (k : Option Kind) → level k < 2
    → and_test_by expr cond k ≡ pure None
and_test_other expr cond (Some kind.AndAnd) e = absurd (omega arith)
and_test_other expr cond _ e = refl

or_conj_other : (expr : Reader Expr) (cond : Reader Cond) (k : Option Kind) → level k < 1
    → or_conj_by expr cond k ≡ pure None
or_conj_other expr cond (Some kind.OrOr) e = absurd (omega arith)
or_conj_other expr cond _ e = refl

expr_other : (expr : Reader Expr) (cond : Reader Cond) (k : Option Kind) → form k ≤ 3
    → expr_by expr cond k ≡ (exprs.Sum <$> sum expr)
expr_other expr cond (Some kind.If) e = absurd (omega arith)
expr_other expr cond _ e = refl

module _ {expr : Reader Expr} {cond : Reader Cond} {n : ℕ} (expr_went : Complete height n n (Looser 4) SpellsExpr expr)
    (cond_went : Complete height n n (Looser 1) SpellsCond cond) where
  bracketed_went : {is_negated : Bool} {a : Tokens} {x : Test} → Bracketed is_negated a x → (rest : Tokens)
      → height (a ++ rest) < suc n
      → Went height (bracketed expr cond is_negated) (a ++ rest) x rest (suc n)
  unfolding bracketed next_kind
  bracketed_went {is_negated} (bracketed_of {a = a} {x = x} s) rest small =
      went_past kind.LeftBracket
      (went_grouped (a ++ (fixed kind.RightBracket ∷ rest)) (append_assoc a (fixed kind.RightBracket ∷ []) rest)
      (past_bracket ((a ++ (fixed kind.RightBracket ∷ [])) ++ rest) small)
      (λ small. went_bind (λ y. expect kind.RightBracket >> pure (tests.Group is_negated y))
      (cond_went.went s (fixed kind.RightBracket ∷ rest) (omega arith) small)
      (λ small. went_past kind.RightBracket (went_pure (past_end_bracket rest small)))))

  test_went : {a : Tokens} {x : Test} → SpellsTest a x → (rest : Tokens) → Looser 4 rest → height (a ++ rest) < suc n
      → Went height (one_test expr cond) (a ++ rest) x rest (suc n)
  unfolding one_test next_kind
  test_went (grouped s) rest looser small =
      went_by (test_by expr cond) refl (bracketed_went (bracketed_of s) rest small)
  test_went (negated {a = a} s) rest looser small =
      went_by (test_by expr cond) refl
      (went_skip (bracketed_went (bracketed_of s) rest (past_plain kind.Bang refl _ small)))
  test_went (compared {a = a} {b = b} {k = k} s c t) rest looser small =
      went_by (test_by expr cond)
      (test_other expr cond (next_kind ((a ++ (fixed k ∷ b)) ++ rest))
      (subst (λ l. form (next_kind l) ≤ 3) (sym (append_assoc a (fixed k ∷ b) rest))
      (sum_begins s (fixed k ∷ (b ++ rest)))))
      (comparison_went expr_went s c t rest looser small)

  and_test_went : {a : Tokens} {x : Test} → AndTest a x → (rest : Tokens) → Looser 4 rest → height (a ++ rest) < suc n
      → Went height (and_test expr cond) (a ++ rest) (Some x) rest (suc n)
  unfolding and_test next_kind
  and_test_went (and_test_of {a = a} s) rest looser small =
      went_by (and_test_by expr cond) refl
      (went_skip (went_map Some (test_went s rest looser (past_plain kind.AndAnd refl (a ++ rest) small))))

  and_test_stops : (rest : Tokens) → Looser 2 rest → and_test expr cond rest ≡ got None rest
  unfolding and_test
  and_test_stops rest e = ap (λ p. p rest) (and_test_other expr cond (next_kind rest) e)

  and_test_looser : {a : Tokens} {x : Test} → AndTest a x → (rest : Tokens) → Looser 4 (a ++ rest)
  unfolding next_kind
  and_test_looser (and_test_of s) rest = omega arith

  tests_went : CompleteItem height (suc n) (Looser 2) (Looser 4) AndTest (and_test expr cond)
  tests_went = record {
    found = and_test_went;
    stops = and_test_stops;
    begins = and_test_looser;
    ends = λ rest e. omega arith;
    some = some_and_test;
  }

  tests_chain : (found : List Test) {b : Tokens} {xs : List Test} → SpellsAndTests b xs
      → Chain push AndTest found b (found ++ xs)
  tests_chain found no_tests = chain_none found
  tests_chain found (more_tests {a = a} {b = b} {x = x} {xs = xs} s t) =
      chain_more (fixed kind.AndAnd ∷ a) b x xs (and_test_of s) (tests_chain (push found x) t)

  conj_went : {a : Tokens} {x : Conj} → SpellsConj a x → (rest : Tokens) → Looser 2 rest → height (a ++ rest) < suc n
      → Went height (conj expr cond) (a ++ rest) x rest (suc n)
  unfolding conj
  conj_went (conj_of {a = a} {b = b} {x = x} {xs = xs} s t) rest looser small =
      let more = tests_chain (x ∷ []) t in
      went_grouped (a ++ (b ++ rest)) (append_assoc a b rest) small
      (λ small. went_bind (λ y. chain_of push (and_test expr cond) (y ∷ []) >>= (λ ys. pure (trees.conj ys)))
      (test_went s (b ++ rest) (chain_follows tests_went more rest looser) small)
      (λ small. went_map trees.conj (chain_went tests_went more rest looser small)))

  or_conj_went : {a : Tokens} {x : Conj} → OrConj a x → (rest : Tokens) → Looser 2 rest → height (a ++ rest) < suc n
      → Went height (or_conj expr cond) (a ++ rest) (Some x) rest (suc n)
  unfolding or_conj next_kind
  or_conj_went (or_conj_of {a = a} s) rest looser small =
      went_by (or_conj_by expr cond) refl
      (went_skip (went_map Some (conj_went s rest looser (past_plain kind.OrOr refl (a ++ rest) small))))

  or_conj_stops : (rest : Tokens) → Looser 1 rest → or_conj expr cond rest ≡ got None rest
  unfolding or_conj
  or_conj_stops rest e = ap (λ p. p rest) (or_conj_other expr cond (next_kind rest) e)

  or_conj_looser : {a : Tokens} {x : Conj} → OrConj a x → (rest : Tokens) → Looser 2 (a ++ rest)
  unfolding next_kind
  or_conj_looser (or_conj_of s) rest = omega arith

  conjs_went : CompleteItem height (suc n) (Looser 1) (Looser 2) OrConj (or_conj expr cond)
  conjs_went = record {
    found = or_conj_went;
    stops = or_conj_stops;
    begins = or_conj_looser;
    ends = λ rest e. omega arith;
    some = some_or_conj;
  }

  conjs_chain : (found : List Conj) {b : Tokens} {xs : List Conj} → SpellsOrConjs b xs
      → Chain push OrConj found b (found ++ xs)
  conjs_chain found no_conjs = chain_none found
  conjs_chain found (more_conjs {a = a} {b = b} {x = x} {xs = xs} s t) =
      chain_more (fixed kind.OrOr ∷ a) b x xs (or_conj_of s) (conjs_chain (push found x) t)

  pub cond_level_went : {a : Tokens} {x : Cond} → SpellsCond a x → (rest : Tokens) → Looser 1 rest
      → height (a ++ rest) < suc n
      → Went height (cond_level expr cond) (a ++ rest) x rest (suc n)
  unfolding cond_level
  cond_level_went (cond_of {a = a} {b = b} {x = x} {xs = xs} s t) rest looser small =
      let more = conjs_chain (x ∷ []) t in
      went_grouped (a ++ (b ++ rest)) (append_assoc a b rest) small
      (λ small. went_bind (λ y. chain_of push (or_conj expr cond) (y ∷ []) >>= (λ ys. pure (trees.cond ys)))
      (conj_went s (b ++ rest) (chain_follows conjs_went more rest looser) small)
      (λ small. went_map trees.cond (chain_went conjs_went more rest looser small)))

  choice_went : {a : Tokens} {x : Expr} → Choice a x → (rest : Tokens) → Looser 4 rest → height (a ++ rest) < suc n
      → Went height (choice expr cond) (a ++ rest) x rest (suc n)
  unfolding choice next_kind
  choice_went (choice_of {a = a} {b = b} {c = c} {x = x} {y = y} {z = z} s t u) rest looser small =
      let more = b ++ (fixed kind.Else ∷ c) in
      went_grouped (a ++ (fixed kind.Then ∷ (more ++ rest))) (append_assoc a (fixed kind.Then ∷ more) rest) small
      (λ small. went_bind
      (λ l. expect kind.Then >> (sum expr >>= (λ k. expect kind.Else >> (sum expr >>= (λ m. pure (exprs.If l k m))))))
      (cond_level_went s (fixed kind.Then ∷ (more ++ rest)) (omega arith) small)
      (λ small. went_past kind.Then
      (went_grouped (b ++ (fixed kind.Else ∷ (c ++ rest))) (append_assoc b (fixed kind.Else ∷ c) rest)
      (past_plain kind.Then refl (more ++ rest) small)
      (λ small. went_bind (λ k. expect kind.Else >> (sum expr >>= (λ m. pure (exprs.If x k m))))
      (sum_went expr_went t (fixed kind.Else ∷ (c ++ rest)) (omega arith) small)
      (λ small. went_past kind.Else
      (went_map (λ m. exprs.If x y m)
      (sum_went expr_went u rest looser (past_plain kind.Else refl (c ++ rest) small))))))))

  pub expr_level_went : {a : Tokens} {x : Expr} → SpellsExpr a x → (rest : Tokens) → Looser 4 rest
      → height (a ++ rest) < suc n
      → Went height (expr_level expr cond) (a ++ rest) x rest (suc n)
  unfolding expr_level next_kind
  expr_level_went (plain_sum {a = a} s) rest looser small =
      went_by (expr_by expr cond) (expr_other expr cond (next_kind (a ++ rest)) (sum_begins s rest))
      (went_map exprs.Sum (sum_went expr_went s rest looser small))
  expr_level_went (if_then_else s t u) rest looser small =
      went_by (expr_by expr cond) refl
      (went_skip (choice_went (choice_of s t u) rest looser (past_plain kind.If refl _ small)))

-- ---- at each depth

mutual
  unfolding reading.expr reading.cond

  pub expr_went : (depth : ℕ) → Complete height depth depth (Looser 4) SpellsExpr (reading.expr depth)
  expr_went zero = record { went = λ s rest looser small. absurd (omega arith) }
  expr_went (suc depth) = record { went = expr_level_went (expr_went depth) (cond_went depth) }

  pub cond_went : (depth : ℕ) → Complete height depth depth (Looser 1) SpellsCond (reading.cond depth)
  cond_went zero = record { went = λ s rest looser small. absurd (omega arith) }
  cond_went (suc depth) = record { went = cond_level_went (expr_went depth) (cond_went depth) }
