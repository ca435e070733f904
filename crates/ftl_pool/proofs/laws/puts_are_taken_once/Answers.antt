use Rattle.std.proofs.Common.{cond, eqb, arith}
use Rattle.ftl_pool.proofs.laws.puts_are_taken_once.Goals as goal

pub returns : goal.returns
returns c = record {
  once = λ items passes item fair. omega (arith, fair (λ x. cond (eqb x item) 1 0));
}
