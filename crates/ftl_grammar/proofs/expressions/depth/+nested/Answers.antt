use Rattle.std.proofs.Common.{◌≡◌, ℕ, suc, ◌-◌, ◌<◌, ap, subst, arith}
use Rattle.ftl_tokens.specs.reading.Reader.{Reads}
use Rattle.ftl_grammar.specs.syntax.ExpressionReading.{expr, cond}
use Rattle.ftl_grammar.proofs.expressions.depth.+nested.Goals as goal

-- a depth that is not 0 is one more than the one below
deeper : {X : Type 0} (f : ℕ → X) (n : ℕ) → 0 < n → f (suc (n - 1)) ≡ f n
deeper f n some = let e : suc (n - 1) ≡ n = omega arith in ap f e

pub expr-returns-then-depth-eq0 : goal.expr-returns-then-depth-eq0
unfolding expr
expr-returns-then-depth-eq0 t c = record { reads = λ _. ap (λ n. expr n c.args.input.now) c.if-depth-eq0.true }

pub cond-returns-then-depth-eq0 : goal.cond-returns-then-depth-eq0
unfolding cond
cond-returns-then-depth-eq0 t c = record { reads = λ _. ap (λ n. cond n c.args.input.now) c.if-depth-eq0.true }

pub expr-returns : goal.expr-returns
unfolding expr
expr-returns t c = record {
  reads =
      let some : 0 < c.args.depth = omega arith in
      let e = deeper (λ n. expr n c.args.input.now) c.args.depth some in
      subst (λ o. Reads o c.expr_level.result c.expr_level.new.input) e c.expr_level.ensures.reads;
}

pub cond-returns : goal.cond-returns
unfolding cond
cond-returns t c = record {
  reads =
      let some : 0 < c.args.depth = omega arith in
      let e = deeper (λ n. cond n c.args.input.now) c.args.depth some in
      subst (λ o. Reads o c.cond_level.result c.cond_level.new.input) e c.cond_level.ensures.reads;
}
