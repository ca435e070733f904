-- Rules of which one part alone is for a kid.
use Rattle.std.proofs.Common.{◌≡◌, ℕ, ◌<◌, List, refl}
use Rattle.ftl_model.specs.layout.AttributeGrammar.{Read, first_part, first_then, then_part}
use Rattle.ftl_step_value.proofs.cells.KidCells.{first_seen, later_seen}
use Rattle.ftl_step_value.proofs.value.StepRuleValues.{value_first, value_later}
use Rattle.ftl_step_value.specs.value.Sites.{IsPartFor}

pub first_alone : (first later : List Read) (k : ℕ) → k ≡ 0 → IsPartFor (first_then first later) k first_part first
first_alone first later k is = record {
  has = refl;
  reads_are = refl;
  children = λ n h. h.0;
  sees = λ kids. first_seen kids k first later is;
  gives = λ value kids s. value_first value kids k first later s is;
}

pub later_alone : (first later : List Read) (k : ℕ) → 0 < k → IsPartFor (first_then first later) k then_part later
later_alone first later k some = record {
  has = refl;
  reads_are = refl;
  children = λ n h. h.1;
  sees = λ kids. later_seen kids k first later some;
  gives = λ value kids s. value_later value kids k first later s some;
}
