-- The code of a formula: each operator stands after its operands, and reads are taken one after the other, in the
-- order of the text. R is what stands for a read; some reads are what a fold has so far, and these are not taken.
use Rattle.std.specs.Prelude.{ℕ, Bool, if◌then◌else◌, List, [], ◌∷◌, ◌++◌, ◌≤◌}
use Rattle.ftl_meaning.specs.formulas.Formula.{Formula, literal, read, read_or, negated, sum, difference, product, quotient}
use Rattle.ftl_meaning.specs.formulas.Formula.{least, greatest, choice, Question, compared, denied, both, either}
use Rattle.ftl_visit.specs.declared.rule_code.instruction.Instruction.{Instruction}
use Rattle.ftl_visit.specs.declared.rule_code.instruction.Instruction.TheVariants as instruction

abbrev mutual
  -- the code of a formula
  pub code_of : {R : Type 0} → (is_so_far : R → Bool) → Formula R → List Instruction
  code_of a (literal n) = instruction.Number n ∷ []
  code_of a (read r) = (if a r then instruction.Accumulator else instruction.Read) ∷ []
  code_of a (read_or r f) = (instruction.Last ∷ []) ++ code_of a f ++ (instruction.Choose ∷ [])
  code_of a (negated f) = code_of a f ++ (instruction.Negate ∷ [])
  code_of a (sum f g) = code_of a f ++ code_of a g ++ (instruction.Add ∷ [])
  code_of a (difference f g) = code_of a f ++ code_of a g ++ (instruction.Subtract ∷ [])
  code_of a (product f g) = code_of a f ++ code_of a g ++ (instruction.Multiply ∷ [])
  code_of a (quotient f n) = code_of a f ++ (instruction.Divide n ∷ [])
  code_of a (least f g) = code_of a f ++ code_of a g ++ (instruction.Least ∷ [])
  code_of a (greatest f g) = code_of a f ++ code_of a g ++ (instruction.Greatest ∷ [])
  code_of a (choice q f g) = code_in a q ++ code_of a f ++ code_of a g ++ (instruction.Choose ∷ [])

  -- the code of a question
  pub code_in : {R : Type 0} → (is_so_far : R → Bool) → Question R → List Instruction
  code_in a (compared c f g) = code_of a f ++ code_of a g ++ (instruction.Compare c ∷ [])
  code_in a (denied q) = code_in a q ++ (instruction.Not ∷ [])
  code_in a (both p q) = code_in a p ++ code_in a q ++ (instruction.Both ∷ [])
  code_in a (either p q) = code_in a p ++ code_in a q ++ (instruction.Either ∷ [])

abbrev mutual
  -- the reads that the code of a formula takes, in the order of the text
  pub taken_by : {R : Type 0} → (is_so_far : R → Bool) → Formula R → List R
  taken_by a (literal n) = []
  taken_by a (read r) = if a r then [] else r ∷ []
  taken_by a (read_or r f) = r ∷ taken_by a f
  taken_by a (negated f) = taken_by a f
  taken_by a (sum f g) = taken_by a f ++ taken_by a g
  taken_by a (difference f g) = taken_by a f ++ taken_by a g
  taken_by a (product f g) = taken_by a f ++ taken_by a g
  taken_by a (quotient f n) = taken_by a f
  taken_by a (least f g) = taken_by a f ++ taken_by a g
  taken_by a (greatest f g) = taken_by a f ++ taken_by a g
  taken_by a (choice q f g) = taken_in a q ++ taken_by a f ++ taken_by a g

  -- those that the code of a question takes
  pub taken_in : {R : Type 0} → (is_so_far : R → Bool) → Question R → List R
  taken_in a (compared c f g) = taken_by a f ++ taken_by a g
  taken_in a (denied q) = taken_in a q
  taken_in a (both p q) = taken_in a p ++ taken_in a q
  taken_in a (either p q) = taken_in a p ++ taken_in a q

-- a number by which code can divide
abbrev pub IsDivisor : ℕ → Type 0
IsDivisor n = (1 ≤ n) × (n ≤ 2147483647)

abbrev mutual
  -- a formula divides by such numbers alone
  pub HasDivisors : {R : Type 0} → Formula R → Type 0
  HasDivisors (literal n) = Unit {0}
  HasDivisors (read r) = Unit {0}
  HasDivisors (read_or r f) = HasDivisors f
  HasDivisors (negated f) = HasDivisors f
  HasDivisors (sum f g) = HasDivisors f × HasDivisors g
  HasDivisors (difference f g) = HasDivisors f × HasDivisors g
  HasDivisors (product f g) = HasDivisors f × HasDivisors g
  HasDivisors (quotient f n) = HasDivisors f × IsDivisor n
  HasDivisors (least f g) = HasDivisors f × HasDivisors g
  HasDivisors (greatest f g) = HasDivisors f × HasDivisors g
  HasDivisors (choice q f g) = AsksDivisors q × HasDivisors f × HasDivisors g

  -- and so does a question
  pub AsksDivisors : {R : Type 0} → Question R → Type 0
  AsksDivisors (compared c f g) = HasDivisors f × HasDivisors g
  AsksDivisors (denied q) = AsksDivisors q
  AsksDivisors (both p q) = AsksDivisors p × AsksDivisors q
  AsksDivisors (either p q) = AsksDivisors p × AsksDivisors q
