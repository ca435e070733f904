-- The code of rules with a count of its runs.
use Rattle.std.specs.Prelude.{ℕ}
use Rattle.ftl_visit.specs.compiled.RuleCode.{Compiled}

-- both
pub record CountedCode : Type 0 where
  pub programs : Compiled
  pub runs : ℕ
