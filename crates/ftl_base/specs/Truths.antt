-- Truths: what a comparison of values gives, and the operators on what comparisons gave.
use Rattle.std.specs.Prelude.{Bool, true, false, not, ℤ, int_lt, int_le}
use Rattle.std.specs.Ordering.{int_eq}
use Rattle.ftl_model.specs.layout.Values.{Value, number, overflow}
use Rattle.ftl_base.specs.declared.comparison.Cmp.{Cmp}
use Rattle.ftl_base.specs.declared.comparison.Cmp.TheVariants.{Less, LessEq, More, MoreEq, Equal, Unequal}
use Rattle.ftl_base.specs.declared.truth.Truth.{Truth}
use Rattle.ftl_base.specs.declared.truth.Truth.TheVariants.{Yes, No, Overflow}

-- the truth of a test that has an answer
abbrev pub truth_of : Bool → Truth
truth_of true = Yes
truth_of false = No

-- whether two numbers stand in a relation
abbrev pub holds : Cmp → ℤ → ℤ → Bool
holds Less a b = int_lt a b
holds LessEq a b = int_le a b
holds More a b = int_lt b a
holds MoreEq a b = int_le b a
holds Equal a b = int_eq a b
holds Unequal a b = not (int_eq a b)

-- a comparison of numbers has an answer, and one with Overflow is Overflow
abbrev pub comparison_of : Cmp → Value → Value → Truth
comparison_of op (number a) (number b) = truth_of (holds op a b)
comparison_of op (number a) overflow = Overflow
comparison_of op overflow b = Overflow

-- Yes where both are, and Overflow where one of them is
abbrev pub both_of : Truth → Truth → Truth
both_of Yes b = b
both_of No Yes = No
both_of No No = No
both_of No Overflow = Overflow
both_of Overflow b = Overflow

-- Yes where one of them is, and Overflow where one of them is
abbrev pub either_of : Truth → Truth → Truth
either_of Yes Yes = Yes
either_of Yes No = Yes
either_of Yes Overflow = Overflow
either_of No b = b
either_of Overflow b = Overflow

-- the other answer, and Overflow where it is
abbrev pub opposite_of : Truth → Truth
opposite_of Yes = No
opposite_of No = Yes
opposite_of Overflow = Overflow

-- the value of the branch that is chosen, whatever the other one's, and Overflow where the condition is
abbrev pub choice_of : Truth → (if_yes if_no : Value) → Value
choice_of Yes if_yes if_no = if_yes
choice_of No if_yes if_no = if_no
choice_of Overflow if_yes if_no = overflow
