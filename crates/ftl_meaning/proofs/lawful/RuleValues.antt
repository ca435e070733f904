-- The value of a rule depends on what it reads alone, and keeps to the range of the width.
use Rattle.std.proofs.Common.{◌≡◌, ℕ, zero, suc, ◌<◌, refl, sym, ◌∙◌, ap, subst, arith, List, [], ◌∷◌, ◌++◌, flat_map, Contains, Option, Some, None}
use Rattle.std.specs.List.{range_with_len}
use Rattle.std.specs.Option.{option_and_then, option_to_list}
use Rattle.std.proofs.lemmas.List.Elements.{Contains-append_left, Contains-append_right}
use Rattle.ftl_model.proofs.lists.Elements.{flat_map_has, here_in, range_has}
use Rattle.ftl_model.specs.layout.AttributeGrammar.{Occurrence, Read, occurrences, seen_by}
use Rattle.ftl_model.specs.layout.Folds.{fold_kids}
use Rattle.ftl_model.specs.layout.Values.{IsValueIn, Value, overflow}
use Rattle.ftl_model.proofs.layout.FoldLaws.{fold_kids_same}
use Rattle.ftl_model.proofs.layout.ValueRanges.{fold_keeps}
use Rattle.ftl_order.specs.orders.Lawful.{IsAlone, KeepsRange}
use Rattle.ftl_grammar.specs.declared.syntax.expression.Expr.{Expr}
use Rattle.ftl_grammar.specs.declared.syntax.rules.Grammar.{Grammar}
use Rattle.ftl_meaning.specs.formulas.Expressions.{formula_of}
use Rattle.ftl_meaning.specs.formulas.Formula.{reads_of}
use Rattle.ftl_meaning.specs.declared.formulas.read_name.ReadName.{ReadName}
use Rattle.ftl_meaning.specs.faults.Allowed.{Leaf, Position, accumulator, for_kids, for_later, for_self, in_step, leaf_of, of_read}
use Rattle.ftl_meaning.specs.faults.RuleForms.{Form, first_form, fold_form, one_form}
use Rattle.ftl_meaning.specs.grammars.Meaning.{expression_reads, expression_value, leaf_value, look_up, read_of, rule_of_form, sight, value_seen}
use Rattle.ftl_meaning.proofs.lawful.ValueOf.{FoundIn, value_in, value_same}

-- two tables agree on some occurrences
abbrev pub Same : (s t : Occurrence → Value) → List Occurrence → Type 0
Same s t os = (o : Occurrence) → Contains os o → s o ≡ t o

-- the values at some occurrences are in the range
abbrev pub EachIn : (w : ℕ) → (Occurrence → Value) → List Occurrence → Type 0
EachIn w s os = (o : Occurrence) → Contains os o → IsValueIn w (s o)

seen_same : (s t : Occurrence → Value) (os : List Occurrence) → Same s t os → value_seen s os ≡ value_seen t os
seen_same s t [] h = refl
seen_same s t (o ∷ os) h = ap Some (h o (here_in o os))

seen_in : (w : ℕ) (s : Occurrence → Value) (os : List Occurrence) → EachIn w s os → FoundIn w (value_seen s os)
seen_in w s [] h = tt
seen_in w s (o ∷ os) h = h o (here_in o os)

module _ (w : ℕ) (g : Grammar) (k : ℕ) where
  -- what a read of an expression is of is seen by the expression
  is_seen : (at : Position) (e : Expr) (kids : ℕ → ℕ) (n : ℕ) (name : ReadName) (r : Read) (o : Occurrence)
      → Contains (reads_of (formula_of e)) name → leaf_of g k at name ≡ Some (of_read r)
      → Contains (occurrences kids n r) o → Contains (seen_by kids n (expression_reads g k at e)) o
  is_seen at e kids n name r o read is there =
      flat_map_has (occurrences kids n) (expression_reads g k at e) r o
      (flat_map_has (λ name. option_to_list (option_and_then read_of (leaf_of g k at name))) (reads_of (formula_of e)) name r
      read
      (subst (λ (l : Option Leaf). Contains (option_to_list (option_and_then read_of l)) r) (sym is) (here_in r [])))
      there

  leaf_same : (kids : ℕ → ℕ) (n : ℕ) (s t : Occurrence → Value) (v : Value) (o : Option Leaf)
      → ((r : Read) → o ≡ Some (of_read r) → Same s t (occurrences kids n r))
      → option_and_then (leaf_value (sight kids n s v)) o ≡ option_and_then (leaf_value (sight kids n t v)) o
  leaf_same kids n s t v None h = refl
  leaf_same kids n s t v (Some accumulator) h = refl
  leaf_same kids n s t v (Some (of_read r)) h = seen_same s t (occurrences kids n r) (h r refl)

  leaf_in : (kids : ℕ → ℕ) (n : ℕ) (s : Occurrence → Value) (v : Value) (o : Option Leaf) → IsValueIn w v
      → ((r : Read) → o ≡ Some (of_read r) → EachIn w s (occurrences kids n r))
      → FoundIn w (option_and_then (leaf_value (sight kids n s v)) o)
  leaf_in kids n s v None so_far h = tt
  leaf_in kids n s v (Some accumulator) so_far h = so_far
  leaf_in kids n s v (Some (of_read r)) so_far h = seen_in w s (occurrences kids n r) (h r refl)

  -- an expression, by what it sees
  expression_same : (at : Position) (e : Expr) (kids : ℕ → ℕ) (n : ℕ) (s t : Occurrence → Value) (v : Value)
      → Same s t (seen_by kids n (expression_reads g k at e))
      → expression_value w g k at e (sight kids n s v) ≡ expression_value w g k at e (sight kids n t v)
  expression_same at e kids n s t v h =
      value_same w (look_up g k at (sight kids n s v)) (look_up g k at (sight kids n t v)) (formula_of e)
      (λ name read. leaf_same kids n s t v (leaf_of g k at name)
      (λ r is o there. h o (is_seen at e kids n name r o read is there)))

  expression_in : (at : Position) (e : Expr) (kids : ℕ → ℕ) (n : ℕ) (s : Occurrence → Value) (v : Value)
      → IsValueIn w v → EachIn w s (seen_by kids n (expression_reads g k at e))
      → IsValueIn w (expression_value w g k at e (sight kids n s v))
  expression_in at e kids n s v so_far h =
      value_in w (look_up g k at (sight kids n s v)) (formula_of e)
      (λ name read. leaf_in kids n s v (leaf_of g k at name) so_far
      (λ r is o there. h o (is_seen at e kids n name r o read is there)))

  -- what the step of a fold reads at a kid, the rule reads
  in_fold : (start step : List Read) (kids : ℕ → ℕ) (n c m : ℕ) (o : Occurrence) → m < kids c
      → Contains (seen_by kids m step) o
      → Contains (seen_by kids n start ++ flat_map (λ m. seen_by kids m step) (range_with_len 0 (kids c))) o
  in_fold start step kids n c m o below h =
      Contains-append_right (seen_by kids n start) (flat_map (λ m. seen_by kids m step) (range_with_len 0 (kids c))) o
      (flat_map_has (λ m. seen_by kids m step) (range_with_len 0 (kids c)) m o
      (range_has 0 (kids c) m (omega arith) (omega (arith, below))) h)

  in_start : (start step : List Read) (kids : ℕ → ℕ) (n c : ℕ) (o : Occurrence) → Contains (seen_by kids n start) o
      → Contains (seen_by kids n start ++ flat_map (λ m. seen_by kids m step) (range_with_len 0 (kids c))) o
  in_start start step kids n c o h =
      Contains-append_left (seen_by kids n start) (flat_map (λ m. seen_by kids m step) (range_with_len 0 (kids c))) o h

  -- a rule of any form
  pub form_alone : (form : Form) (n : ℕ) → IsAlone (rule_of_form w g k form) n
  form_alone (one_form at e) n kids s t h = expression_same at e kids n s t overflow h
  form_alone (first_form c e f) zero kids s t h = expression_same (for_kids c) e kids 0 s t overflow h
  form_alone (first_form c e f) (suc n) kids s t h = expression_same (for_later c) f kids (suc n) s t overflow h
  form_alone (fold_form c e f) n kids s t h =
      let start = expression_reads g k for_self e in
      let step = expression_reads g k (in_step c) f in
      ap (fold_kids (kids c) (λ so_far m. expression_value w g k (in_step c) f (sight kids m s so_far)))
      (expression_same for_self e kids n s t overflow (λ o there. h o (in_start start step kids n c o there)))
      ∙ fold_kids_same (kids c) (λ so_far m. expression_value w g k (in_step c) f (sight kids m s so_far))
      (λ so_far m. expression_value w g k (in_step c) f (sight kids m t so_far))
      (expression_value w g k for_self e (sight kids n t overflow))
      (λ m below so_far. expression_same (in_step c) f kids m s t so_far
      (λ o there. h o (in_fold start step kids n c m o below there)))

  -- and its value is in the range where what it reads is
  pub form_range : (form : Form) (n : ℕ) → KeepsRange w (rule_of_form w g k form) n
  form_range (one_form at e) n kids s h = expression_in at e kids n s overflow tt h
  form_range (first_form c e f) zero kids s h = expression_in (for_kids c) e kids 0 s overflow tt h
  form_range (first_form c e f) (suc n) kids s h = expression_in (for_later c) f kids (suc n) s overflow tt h
  form_range (fold_form c e f) n kids s h =
      let start = expression_reads g k for_self e in
      let step = expression_reads g k (in_step c) f in
      fold_keeps (IsValueIn w) (kids c) (λ so_far m. expression_value w g k (in_step c) f (sight kids m s so_far))
      (expression_value w g k for_self e (sight kids n s overflow))
      (expression_in for_self e kids n s overflow tt (λ o there. h o (in_start start step kids n c o there)))
      (λ m below so_far keeps. expression_in (in_step c) f kids m s so_far keeps
      (λ o there. h o (in_fold start step kids n c m o below there)))
