-- What expressions and rules mean: their values, from those of what they read. Numbers that leave the range of the
-- width, of which `greatest` is the greatest number, are Overflow.
use Rattle.std.specs.Prelude.{ℕ, zero, suc, List, [], ◌∷◌, flat_map, pos, Option, Some, None}
use Rattle.std.specs.Option.{option_and_then, option_to_list, unwrap_or}
use Rattle.ftl_base.specs.Truths.{both_of, choice_of, comparison_of, either_of, opposite_of}
use Rattle.ftl_base.specs.declared.truth.Truth.{Truth}
use Rattle.ftl_model.specs.layout.AttributeGrammar.{Occurrence, Parts, Read, Rule, first_then, fold_over, occurrences, plain}
use Rattle.ftl_model.specs.layout.Folds.{fold_kids}
use Rattle.ftl_model.specs.layout.Values.{Value, difference_of, greatest_of, least_of, negated_of, overflow, product_of}
use Rattle.ftl_model.specs.layout.Values.{quotient_of, sum_of, value_of}
use Rattle.ftl_grammar.specs.declared.syntax.expression.Expr.{Expr}
use Rattle.ftl_grammar.specs.declared.syntax.rules.Grammar.{Grammar}
use Rattle.ftl_meaning.specs.formulas.Expressions.{formula_of}
use Rattle.ftl_meaning.specs.formulas.Formula as formula
use Rattle.ftl_meaning.specs.formulas.Formula.{Formula, Question, reads_of}
use Rattle.ftl_meaning.specs.declared.formulas.read_name.ReadName.{ReadName}
use Rattle.ftl_meaning.specs.faults.Allowed.{Leaf, Position, accumulator, for_kids, for_later, for_self, in_step}
use Rattle.ftl_meaning.specs.faults.Allowed.{leaf_of}
use Rattle.ftl_meaning.specs.faults.Allowed.{of_read}
use Rattle.ftl_meaning.specs.faults.RuleForms.{Form, first_form, fold_form, one_form}

-- ---- formulas

abbrev mutual
  -- the value of a formula, by a look-up of what it reads
  pub value_by : {R : Type 0} → (greatest : ℕ) → (R → Option Value) → Formula R → Value
  value_by greatest look (formula.literal n) = value_of greatest (pos n)
  value_by greatest look (formula.read r) = unwrap_or (look r) overflow
  value_by greatest look (formula.read_or r f) = unwrap_or (look r) (value_by greatest look f)
  value_by greatest look (formula.negated f) = negated_of greatest (value_by greatest look f)
  value_by greatest look (formula.sum f g) = sum_of greatest (value_by greatest look f) (value_by greatest look g)
  value_by greatest look (formula.difference f g) =
      difference_of greatest (value_by greatest look f) (value_by greatest look g)
  value_by greatest look (formula.product f g) =
      product_of greatest (value_by greatest look f) (value_by greatest look g)
  value_by greatest look (formula.quotient f n) = quotient_of greatest (value_by greatest look f) n
  value_by greatest look (formula.least f g) = least_of (value_by greatest look f) (value_by greatest look g)
  value_by greatest look (formula.greatest f g) = greatest_of (value_by greatest look f) (value_by greatest look g)
  value_by greatest look (formula.choice q f g) =
      choice_of (truth_by greatest look q) (value_by greatest look f) (value_by greatest look g)

  -- the truth of a question
  pub truth_by : {R : Type 0} → (greatest : ℕ) → (R → Option Value) → Question R → Truth
  truth_by greatest look (formula.compared c f g) =
      comparison_of c (value_by greatest look f) (value_by greatest look g)
  truth_by greatest look (formula.denied q) = opposite_of (truth_by greatest look q)
  truth_by greatest look (formula.both p q) = both_of (truth_by greatest look p) (truth_by greatest look q)
  truth_by greatest look (formula.either p q) = either_of (truth_by greatest look p) (truth_by greatest look q)

-- ---- expressions at a node

-- What an expression sees: how many kids each child has, the number of the kid at hand (the one that the rule is
-- for, or the one that a fold has come to), the values of what it reads, and what a fold has so far.
pub record Sight : Type 0 where
  pub kids : ℕ → ℕ
  pub at_hand : ℕ
  pub values : Occurrence → Value
  pub so_far : Value

-- all of these
abbrev pub sight : (kids : ℕ → ℕ) → (at_hand : ℕ) → (Occurrence → Value) → (so_far : Value) → Sight
sight kids at_hand values so_far = record { kids = kids; at_hand = at_hand; values = values; so_far = so_far }

-- the value of the occurrence that is read; none where there is none
abbrev pub value_seen : (Occurrence → Value) → List Occurrence → Option Value
value_seen values [] = None
value_seen values (o ∷ os) = Some (values o)

-- the value of what a name stands for; none where there is nothing to read, as the last kid of no kids
abbrev pub leaf_value : Sight → Leaf → Option Value
leaf_value x accumulator = Some x.so_far
leaf_value x (of_read r) = value_seen x.values (occurrences x.kids x.at_hand r)

-- the value of what a name stands for in an expression of this class in this position
abbrev pub look_up : Grammar → (class : ℕ) → Position → Sight → ReadName → Option Value
look_up g k at x name = option_and_then (leaf_value x) (leaf_of g k at name)

-- the value of an expression
abbrev pub expression_value : (greatest : ℕ) → Grammar → (class : ℕ) → Position → Expr → Sight → Value
expression_value greatest g k at e x = value_by greatest (look_up g k at x) (formula_of e)

-- the read that a name stands for; what a fold has so far is none
abbrev pub read_of : Leaf → Option Read
read_of accumulator = None
read_of (of_read r) = Some r

-- what an expression reads, by number, in the order of the text
abbrev pub expression_reads : Grammar → (class : ℕ) → Position → Expr → List Read
expression_reads g k at e =
    flat_map (λ name. option_to_list (option_and_then read_of (leaf_of g k at name))) (reads_of (formula_of e))

-- ---- rules

-- the parts of a rule, with their reads
abbrev pub form_parts : Grammar → (class : ℕ) → Form → Parts
form_parts g k (one_form at e) = plain (expression_reads g k at e)
form_parts g k (first_form c e f) =
    first_then (expression_reads g k (for_kids c) e) (expression_reads g k (for_later c) f)
form_parts g k (fold_form c e f) =
    fold_over c (expression_reads g k for_self e) (expression_reads g k (in_step c) f)

-- The value of a rule for the kid of this number (0 where it is for the node itself): of its one expression; of the
-- first at kid 0 and of the other one at each later kid; or from the value of the start one step for each kid, from
-- the first to the last.
abbrev pub form_value : (greatest : ℕ) → Grammar → (class : ℕ) → Form
    → (kids : ℕ → ℕ) → (number : ℕ) → (Occurrence → Value) → Value
form_value greatest g k (one_form at e) kids n s = expression_value greatest g k at e (sight kids n s overflow)
form_value greatest g k (first_form c e f) kids zero s =
    expression_value greatest g k (for_kids c) e (sight kids 0 s overflow)
form_value greatest g k (first_form c e f) kids (suc n) s =
    expression_value greatest g k (for_later c) f (sight kids (suc n) s overflow)
form_value greatest g k (fold_form c e f) kids n s =
    fold_kids (kids c) (λ so_far m. expression_value greatest g k (in_step c) f (sight kids m s so_far))
    (expression_value greatest g k for_self e (sight kids n s overflow))

-- a rule of this form
abbrev pub rule_of_form : (greatest : ℕ) → Grammar → (class : ℕ) → Form → Rule
rule_of_form greatest g k form = record { parts = form_parts g k form; value = form_value greatest g k form }
