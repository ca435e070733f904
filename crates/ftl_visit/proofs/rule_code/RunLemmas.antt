-- Running the code of a formula pushes its value, that of a question its truth.
use Rattle.std.proofs.Common.{◌≡◌, ℕ, Bool, true, false, List, [], ◌∷◌, ◌++◌, map, Option, Some, None}
use Rattle.std.proofs.Common.{refl, ap, sym, arith, ◌∙◌, append_assoc}
use Rattle.std.proofs.lemmas.List.{append-nil, map-append}
use Rattle.std.specs.Option.{unwrap_or}
use Rattle.ftl_model.specs.layout.Values.{Value, overflow}
use Rattle.ftl_base.specs.declared.truth.Truth.{Truth}
use Rattle.ftl_base.specs.Truths.{choice_of}
use Rattle.ftl_meaning.specs.formulas.Formula.{Formula, literal, read, read_or, negated, sum, difference, product, quotient}
use Rattle.ftl_meaning.specs.formulas.Formula.{least, greatest, choice, Question, compared, denied, both, either}
use Rattle.ftl_meaning.specs.grammars.Meaning.{value_by, truth_by}
use Rattle.ftl_visit.specs.declared.rule_code.instruction.Instruction.{Instruction}
use Rattle.ftl_visit.specs.declared.rule_code.instruction.Instruction.TheVariants as instruction
use Rattle.ftl_visit.specs.rule_code.Code.{code_of, code_in, taken_by, taken_in, HasDivisors, AsksDivisors, IsDivisor}
use Rattle.ftl_visit.specs.rule_code.Machine.{Computes, state, run, is_there, is_divisor}

-- a number by which code can divide passes the test
pub divides : (n : ℕ) → IsDivisor n → is_divisor n ≡ true
divides n h = grind (arith, h)

module _ {R : Type 0} (g : ℕ) (acc : Value) (a : R → Bool) (look : R → Option Value)
    (so_far : (r : R) → a r ≡ true → look r ≡ Some acc) where
  -- before other code and reads, code takes its reads and does this to the stacks
  abbrev Does : List Instruction → List R → (List Value → List Value) → (List Truth → List Truth) → Type 0
  Does code rs f h =
      (vs : List Value) (ts : List Truth) (more : List Instruction) (others : List (Option Value))
      → run g acc (code ++ more) (state vs ts (map look rs ++ others)) ≡ run g acc more (state (f vs) (h ts) others)

  -- pushes a value
  abbrev Pushes : List Instruction → List R → Value → Type 0
  Pushes code rs v = Does code rs (λ vs. v ∷ vs) (λ ts. ts)

  -- pushes a truth
  abbrev PushesTruth : List Instruction → List R → Truth → Type 0
  PushesTruth code rs t = Does code rs (λ vs. vs) (λ ts. t ∷ ts)

  -- one piece of code after the other
  both_do : (c d : List Instruction) (rs ss : List R) (f₁ f₂ : List Value → List Value)
      (h₁ h₂ : List Truth → List Truth) → Does c rs f₁ h₁ → Does d ss f₂ h₂
      → Does (c ++ d) (rs ++ ss) (λ vs. f₂ (f₁ vs)) (λ ts. h₂ (h₁ ts))
  both_do c d rs ss f₁ f₂ h₁ h₂ p q vs ts more others =
      rw (append_assoc c d more, map-append look rs ss, append_assoc (map look rs) (map look ss) others)
      (p vs ts (d ++ more) (map look ss ++ others) ∙ q (f₁ vs) (h₁ ts) more others)

  -- an operator after its operands
  then_does : (c : List Instruction) (i : Instruction) (rs : List R) (f₁ f₂ : List Value → List Value)
      (h₁ h₂ : List Truth → List Truth) → Does c rs f₁ h₁
      → ((vs : List Value) (ts : List Truth) (more : List Instruction) (others : List (Option Value))
      → run g acc (i ∷ more) (state (f₁ vs) (h₁ ts) others) ≡ run g acc more (state (f₂ vs) (h₂ ts) others))
      → Does (c ++ (i ∷ [])) rs f₂ h₂
  then_does c i rs f₁ f₂ h₁ h₂ p q vs ts more others =
      rw (append_assoc c (i ∷ []) more) (p vs ts (i ∷ more) others ∙ q vs ts more others)

  -- after one operand
  one : (c : List Instruction) (i : Instruction) (rs : List R) (v w : Value) → Pushes c rs v
      → ((vs : List Value) (ts : List Truth) (more : List Instruction) (others : List (Option Value))
      → run g acc (i ∷ more) (state (v ∷ vs) ts others) ≡ run g acc more (state (w ∷ vs) ts others))
      → Pushes (c ++ (i ∷ [])) rs w
  one c i rs v w = then_does c i rs (λ vs. v ∷ vs) (λ vs. w ∷ vs) (λ ts. ts) (λ ts. ts)

  -- two operands
  operands : (c d : List Instruction) (rs ss : List R) (v w : Value) → Pushes c rs v → Pushes d ss w
      → Does (c ++ d) (rs ++ ss) (λ vs. w ∷ v ∷ vs) (λ ts. ts)
  operands c d rs ss v w = both_do c d rs ss (λ vs. v ∷ vs) (λ vs. w ∷ vs) (λ ts. ts) (λ ts. ts)

  -- after two operands
  two : (c d : List Instruction) (i : Instruction) (rs ss : List R) (v w x : Value) → Pushes c rs v → Pushes d ss w
      → ((vs : List Value) (ts : List Truth) (more : List Instruction) (others : List (Option Value))
      → run g acc (i ∷ more) (state (w ∷ v ∷ vs) ts others) ≡ run g acc more (state (x ∷ vs) ts others))
      → Pushes (c ++ d ++ (i ∷ [])) (rs ++ ss) x
  two c d i rs ss v w x p q =
      then_does (c ++ d) i (rs ++ ss) (λ vs. w ∷ v ∷ vs) (λ vs. x ∷ vs) (λ ts. ts) (λ ts. ts)
      (operands c d rs ss v w p q)

  -- two truths, and an operator after them
  two_truths : (c d : List Instruction) (i : Instruction) (rs ss : List R) (t u x : Truth) → PushesTruth c rs t
      → PushesTruth d ss u
      → ((vs : List Value) (ts : List Truth) (more : List Instruction) (others : List (Option Value))
      → run g acc (i ∷ more) (state vs (u ∷ t ∷ ts) others) ≡ run g acc more (state vs (x ∷ ts) others))
      → PushesTruth (c ++ d ++ (i ∷ [])) (rs ++ ss) x
  two_truths c d i rs ss t u x p q =
      then_does (c ++ d) i (rs ++ ss) (λ vs. vs) (λ vs. vs) (λ ts. u ∷ t ∷ ts) (λ ts. x ∷ ts)
      (both_do c d rs ss (λ vs. vs) (λ vs. vs) (λ ts. t ∷ ts) (λ ts. u ∷ ts) p q)

  -- a value that is read, or that of what stands for it
  there_or : (r : Option Value) (v : Value) → choice_of (is_there r) (unwrap_or r overflow) v ≡ unwrap_or r v
  there_or (Some w) v = refl
  there_or None v = refl

  -- what a fold has so far, or the next of the reads
  reads : (r : R) (b : Bool) → a r ≡ b → Pushes (code_of a (read r)) (taken_by a (read r)) (value_by g look (read r))
  reads r true e = λ vs ts more others. rw (e, so_far r e) refl
  reads r false e = λ vs ts more others. rw e refl

  mutual
    -- the code of a formula pushes its value
    pushes : (f : Formula R) → HasDivisors f → Pushes (code_of a f) (taken_by a f) (value_by g look f)
    pushes (literal n) h = λ vs ts more others. refl
    pushes (read r) h = reads r (a r) refl
    pushes (read_or r f) h =
        let v = unwrap_or (look r) overflow in
        let w = value_by g look f in
        let t = is_there (look r) in
        then_does ((instruction.Last ∷ []) ++ code_of a f) instruction.Choose (r ∷ taken_by a f)
        (λ vs. w ∷ v ∷ vs) (λ vs. unwrap_or (look r) w ∷ vs) (λ ts. t ∷ ts) (λ ts. ts)
        (both_do (instruction.Last ∷ []) (code_of a f) (r ∷ []) (taken_by a f) (λ vs. v ∷ vs) (λ vs. w ∷ vs)
        (λ ts. t ∷ ts) (λ ts. ts) (λ vs ts more others. refl) (pushes f h))
        (λ vs ts more others. ap (λ x. run g acc more (state (x ∷ vs) ts others)) (there_or (look r) w))
    pushes (negated f) h =
        one (code_of a f) instruction.Negate (taken_by a f) (value_by g look f) (value_by g look (negated f))
        (pushes f h) (λ vs ts more others. refl)
    pushes (quotient f n) (h, d) =
        one (code_of a f) (instruction.Divide n) (taken_by a f) (value_by g look f) (value_by g look (quotient f n))
        (pushes f h) (λ vs ts more others. rw (divides n d) refl)
    pushes (choice q f g₂) (h, k, l) =
        let t = truth_by g look q in
        let v = value_by g look f in
        let w = value_by g look g₂ in
        then_does (code_in a q ++ code_of a f ++ code_of a g₂) instruction.Choose
        (taken_in a q ++ taken_by a f ++ taken_by a g₂)
        (λ vs. w ∷ v ∷ vs) (λ vs. choice_of t v w ∷ vs) (λ ts. t ∷ ts) (λ ts. ts)
        (both_do (code_in a q ++ code_of a f) (code_of a g₂) (taken_in a q ++ taken_by a f) (taken_by a g₂)
        (λ vs. v ∷ vs) (λ vs. w ∷ vs) (λ ts. t ∷ ts) (λ ts. ts)
        (both_do (code_in a q) (code_of a f) (taken_in a q) (taken_by a f)
        (λ vs. vs) (λ vs. v ∷ vs) (λ ts. t ∷ ts) (λ ts. ts) (asks q h) (pushes f k)) (pushes g₂ l))
        (λ vs ts more others. refl)
    pushes (sum f f₂) (h, k) =
        two (code_of a f) (code_of a f₂) instruction.Add (taken_by a f) (taken_by a f₂) (value_by g look f)
        (value_by g look f₂) (value_by g look (sum f f₂)) (pushes f h) (pushes f₂ k) (λ vs ts more others. refl)
    pushes (difference f f₂) (h, k) =
        two (code_of a f) (code_of a f₂) instruction.Subtract (taken_by a f) (taken_by a f₂) (value_by g look f)
        (value_by g look f₂) (value_by g look (difference f f₂)) (pushes f h) (pushes f₂ k) (λ vs ts more others. refl)
    pushes (product f f₂) (h, k) =
        two (code_of a f) (code_of a f₂) instruction.Multiply (taken_by a f) (taken_by a f₂) (value_by g look f)
        (value_by g look f₂) (value_by g look (product f f₂)) (pushes f h) (pushes f₂ k) (λ vs ts more others. refl)
    pushes (least f f₂) (h, k) =
        two (code_of a f) (code_of a f₂) instruction.Least (taken_by a f) (taken_by a f₂) (value_by g look f)
        (value_by g look f₂) (value_by g look (least f f₂)) (pushes f h) (pushes f₂ k) (λ vs ts more others. refl)
    pushes (greatest f f₂) (h, k) =
        two (code_of a f) (code_of a f₂) instruction.Greatest (taken_by a f) (taken_by a f₂) (value_by g look f)
        (value_by g look f₂) (value_by g look (greatest f f₂)) (pushes f h) (pushes f₂ k) (λ vs ts more others. refl)

    -- the code of a question pushes its truth
    asks : (q : Question R) → AsksDivisors q → PushesTruth (code_in a q) (taken_in a q) (truth_by g look q)
    asks (compared c f f₂) (h, k) =
        let v = value_by g look f in
        let w = value_by g look f₂ in
        then_does (code_of a f ++ code_of a f₂) (instruction.Compare c) (taken_by a f ++ taken_by a f₂)
        (λ vs. w ∷ v ∷ vs) (λ vs. vs) (λ ts. ts) (λ ts. truth_by g look (compared c f f₂) ∷ ts)
        (operands (code_of a f) (code_of a f₂) (taken_by a f) (taken_by a f₂) v w (pushes f h) (pushes f₂ k))
        (λ vs ts more others. refl)
    asks (denied q) h =
        let t = truth_by g look q in
        then_does (code_in a q) instruction.Not (taken_in a q) (λ vs. vs) (λ vs. vs) (λ ts. t ∷ ts)
        (λ ts. truth_by g look (denied q) ∷ ts) (asks q h) (λ vs ts more others. refl)
    asks (both p q) (h, k) =
        two_truths (code_in a p) (code_in a q) instruction.Both (taken_in a p) (taken_in a q) (truth_by g look p)
        (truth_by g look q) (truth_by g look (both p q)) (asks p h) (asks q k) (λ vs ts more others. refl)
    asks (either p q) (h, k) =
        two_truths (code_in a p) (code_in a q) instruction.Either (taken_in a p) (taken_in a q) (truth_by g look p)
        (truth_by g look q) (truth_by g look (either p q)) (asks p h) (asks q k) (λ vs ts more others. refl)

  -- the code of a formula computes its value
  pub formula_computes : (f : Formula R) → HasDivisors f
      → Computes g acc (code_of a f) (map look (taken_by a f)) (value_by g look f)
  formula_computes f h vs ts =
      rw (sym (append-nil (code_of a f)), sym (append-nil (map look (taken_by a f)))) (pushes f h vs ts [] [])
