-- The parts of rules, by the forms of the rules.
use mathlib.Core.Path.{fun_ext}
use Rattle.std.proofs.Common.{◌≡◌, ℕ, zero, suc, Bool, true, false, cond, if◌then◌else◌, refl, sym, ◌∙◌, ap, ap₂, subst, arith, List, [], ◌∷◌, map, length, Option, Some, None}
use Rattle.std.specs.List.{All}
use Rattle.std.specs.Option.{is_some, option_and_then, option_map}
use Rattle.std.proofs.lemmas.List.Elements.{All-contains}
use Rattle.std.proofs.lemmas.Option.{get_or_from_slice_get, same_Some, slice_get-map, slice_get_within}
use Rattle.ftl_base.specs.Widths.{greatest_of_width}
use Rattle.ftl_model.specs.layout.AttributeGrammar.{Occurrence, Rule, reads_in}
use Rattle.ftl_model.specs.layout.AttributeGrammar as model
use Rattle.ftl_model.specs.layout.Solves.{rule_named}
use Rattle.ftl_model.specs.layout.Values.{Value, overflow}
use Rattle.ftl_grammar.specs.declared.syntax.expression.Expr.{Expr}
use Rattle.ftl_grammar.specs.declared.syntax.rules.Body.{Body}
use Rattle.ftl_grammar.specs.declared.syntax.rules.Body.TheVariants as bodies
use Rattle.ftl_grammar.specs.declared.syntax.rules.Child.{Child}
use Rattle.ftl_grammar.specs.declared.syntax.rules.Grammar.{Grammar}
use Rattle.ftl_grammar.specs.declared.syntax.rules.Rule as written
use Rattle.ftl_meaning.specs.formulas.Expressions.{formula_of}
use Rattle.ftl_meaning.specs.formulas.Formula.{reads_of}
use Rattle.ftl_meaning.specs.faults.Allowed.{Position, for_kids, for_later, for_self, for_single, in_step, leaf_of}
use Rattle.ftl_meaning.specs.faults.Checked.{CheckedGrammar, all_rules, info_by, rule_info, rule_info_at}
use Rattle.ftl_meaning.specs.faults.Numbering.{child_at, class_at, find_child}
use Rattle.ftl_meaning.specs.faults.RuleForms.{Form, Slot, expressions_of, first_form, fold_form, fold_over_list, form_of, kid_slot, one_form, own_slot, slot_of}
use Rattle.ftl_meaning.specs.grammars.GrammarOf.{name_of_rule}
use Rattle.ftl_meaning.specs.grammars.Meaning.{Sight, form_parts, form_value, rule_of_form, sight}
use Rattle.ftl_visit.specs.rule_code.Machine.{Computes}
use Rattle.ftl_visit.specs.declared.rule_code.instruction.Instruction.{Instruction}
use Rattle.ftl_meaning.specs.lawful.Kept.{EachReadIs, IsKept}
use Rattle.ftl_meaning.proofs.lawful.KeptRules.{rule_kept}
use Rattle.ftl_deps.specs.reads.Meant.{meant}
use Rattle.ftl_visit.specs.compiled.Compilable.{HasCode, IsCompilable}
use Rattle.ftl_visit.specs.compiled.RuleCode.{RuleCode, expression_code, first_then_code, fold_code, part_code, plain_code, read_count, rule_code}
use Rattle.ftl_visit.specs.declared.compiled.part.Part.{Part}
use Rattle.ftl_visit.specs.declared.compiled.part.Part.TheVariants as part
use Rattle.ftl_deps.specs.reads.Products.{name_of_info}
use Rattle.ftl_visit.specs.rule_values.PartValues.{IsRuleOf, code_of_part, form_part_value, rule_form_at, has_part, meant_rule, part_of, part_value, part_value_by, value_by_parts, values_read}
use Rattle.ftl_visit.proofs.rule_values.Names.{AreKnown, expression_computes, expression_takes}
use Rattle.ftl_visit.proofs.rule_values.Numbered.{HasRule, code_stands_at, code_with, has_rule}

-- the code of a rule of this form
abbrev form_code : Form → RuleCode
form_code (one_form at e) = plain_code (expression_code e)
form_code (first_form c e f) = first_then_code (expression_code e) (expression_code f)
form_code (fold_form c e f) = fold_code (expression_code e) (expression_code f)

-- its expressions
abbrev form_expressions : Form → List Expr
form_expressions (one_form at e) = e ∷ []
form_expressions (first_form c e f) = e ∷ (f ∷ [])
form_expressions (fold_form c e f) = e ∷ (f ∷ [])

-- a sight of nothing
abbrev nothing : Sight
nothing = sight (λ c. 0) 0 (λ o. overflow) overflow

module _ (g : Grammar) (k : ℕ) where
  -- what goes by the expressions of a rule goes by those of its form
  module _ {X : Type 0} (of_body : Body → X) (of_form : Form → X)
      (plain : (at : Position) (e : Expr) → of_body (bodies.Plain e) ≡ of_form (one_form at e))
      (first : (c : ℕ) (e f : Expr) → of_body (bodies.FirstThen e f) ≡ of_form (first_form c e f))
      (folds : (d : List ℕ) (c : ℕ) (e f : Expr) → of_body (bodies.Fold d e f) ≡ of_form (fold_form c e f)) where
    by_fold : (d : List ℕ) (e f : Expr) (form : Form) (o : Option (ℕ × Child))
        → option_and_then (fold_over_list e f) o ≡ Some form → of_body (bodies.Fold d e f) ≡ of_form form
    by_fold d e f form None is = grind (arith, is)
    by_fold d e f form (Some c) is = by_many c.1.many is
      where
        by_many : (b : Bool) → cond b (Some (fold_form c.0 e f)) None ≡ Some form → of_body (bodies.Fold d e f) ≡ of_form form
        by_many true is = folds d c.0 e f ∙ ap of_form (same_Some (fold_form c.0 e f) form is)
        by_many false is = grind (arith, is)

    by_first : (c : ℕ) (e f : Expr) (form : Form) (b : Bool) → cond b (Some (first_form c e f)) None ≡ Some form
        → of_body (bodies.FirstThen e f) ≡ of_form form
    by_first c e f form true is = first c e f ∙ ap of_form (same_Some (first_form c e f) form is)
    by_first c e f form false is = grind (arith, is)

    same_by : (slot : Slot) (body : Body) (form : Form) → form_of g k slot body ≡ Some form → of_body body ≡ of_form form
    same_by (own_slot a) (bodies.Plain e) form is =
        plain for_self e ∙ ap of_form (same_Some (one_form for_self e) form is)
    same_by (own_slot a) (bodies.FirstThen e f) form is = grind (arith, is)
    same_by (own_slot a) (bodies.Fold d e f) form is = by_fold d e f form (find_child g k d) is
    same_by (kid_slot c a) (bodies.Plain e) form is =
        plain (if (child_at g k c).many then for_kids c else for_single) e
        ∙ ap of_form (same_Some (one_form (if (child_at g k c).many then for_kids c else for_single) e) form is)
    same_by (kid_slot c a) (bodies.FirstThen e f) form is = by_first c e f form (child_at g k c).many is
    same_by (kid_slot c a) (bodies.Fold d e f) form is = grind (arith, is)

  same_code : (slot : Slot) (body : Body) (form : Form) → form_of g k slot body ≡ Some form → rule_code body ≡ form_code form
  same_code = same_by rule_code form_code (λ at e. refl) (λ c e f. refl) (λ d c e f. refl)

  same_expressions : (slot : Slot) (body : Body) (form : Form) → form_of g k slot body ≡ Some form
      → expressions_of body ≡ form_expressions form
  same_expressions = same_by expressions_of form_expressions (λ at e. refl) (λ c e f. refl) (λ d c e f. refl)

  -- which parts a rule of a form has
  form_has : (form : Form) (which : Part)
      → is_some (part_code which (form_code form)) ≡ has_part (form_parts g k form) (part_of which)
  form_has (one_form at e) part.Plain = refl
  form_has (one_form at e) part.First = refl
  form_has (one_form at e) part.Then = refl
  form_has (one_form at e) part.From = refl
  form_has (one_form at e) part.With = refl
  form_has (first_form c e f) part.Plain = refl
  form_has (first_form c e f) part.First = refl
  form_has (first_form c e f) part.Then = refl
  form_has (first_form c e f) part.From = refl
  form_has (first_form c e f) part.With = refl
  form_has (fold_form c e f) part.Plain = refl
  form_has (fold_form c e f) part.First = refl
  form_has (fold_form c e f) part.Then = refl
  form_has (fold_form c e f) part.From = refl
  form_has (fold_form c e f) part.With = refl

  known_names : (at : Position) (e : Expr)
      → All (λ name. is_some (leaf_of g k at name) ≡ true) (reads_of (formula_of e)) → AreKnown g k at (reads_of (formula_of e))
  known_names at e all r there = All-contains (λ name. is_some (leaf_of g k at name) ≡ true) (reads_of (formula_of e)) r all there

  -- what the code of a part does
  record DoesPart (form : Form) (which : Part) (code : List Instruction) : Type 0 where
    pub takes : read_count code ≡ length (reads_in (form_parts g k form) (part_of which))
    pub computes : (greatest : ℕ) (x : Sight)
        → Computes greatest x.so_far code (values_read (form_parts g k form) (part_of which) x)
        (form_part_value greatest g k form (part_of which) x)

  part_does : (form : Form) (which : Part) → EachReadIs g k form → All IsCompilable (form_expressions form)
      → (code : List Instruction) → part_code which (form_code form) ≡ Some code → DoesPart form which code
  part_does (one_form at e) part.Plain known able code is =
      let names = known_names at e (known 0 (at, e) (omega arith)) in
      subst (DoesPart (one_form at e) part.Plain) (same_Some (expression_code e) code is)
      (record {
        takes = expression_takes g k at nothing e (able 0 e (omega arith)) names;
        computes = λ greatest x. expression_computes g k at x greatest e (able 0 e (omega arith)) names;
      })
  part_does (first_form c e f) part.First known able code is =
      let names = known_names (for_kids c) e (known 0 (for_kids c, e) (omega arith)) in
      subst (DoesPart (first_form c e f) part.First) (same_Some (expression_code e) code is)
      (record {
        takes = expression_takes g k (for_kids c) nothing e (able 0 e (omega arith)) names;
        computes = λ greatest x. expression_computes g k (for_kids c) x greatest e (able 0 e (omega arith)) names;
      })
  part_does (first_form c e f) part.Then known able code is =
      let names = known_names (for_later c) f (known 1 (for_later c, f) (omega arith)) in
      subst (DoesPart (first_form c e f) part.Then) (same_Some (expression_code f) code is)
      (record {
        takes = expression_takes g k (for_later c) nothing f (able 1 f (omega arith)) names;
        computes = λ greatest x. expression_computes g k (for_later c) x greatest f (able 1 f (omega arith)) names;
      })
  part_does (fold_form c e f) part.From known able code is =
      let names = known_names for_self e (known 0 (for_self, e) (omega arith)) in
      subst (DoesPart (fold_form c e f) part.From) (same_Some (expression_code e) code is)
      (record {
        takes = expression_takes g k for_self nothing e (able 0 e (omega arith)) names;
        computes = λ greatest x. expression_computes g k for_self x greatest e (able 0 e (omega arith)) names;
      })
  part_does (fold_form c e f) part.With known able code is =
      let names = known_names (in_step c) f (known 1 (in_step c, f) (omega arith)) in
      subst (DoesPart (fold_form c e f) part.With) (same_Some (expression_code f) code is)
      (record {
        takes = expression_takes g k (in_step c) nothing f (able 1 f (omega arith)) names;
        computes = λ greatest x. expression_computes g k (in_step c) x greatest f (able 1 f (omega arith)) names;
      })
  part_does (one_form at e) part.First known able code is = grind (arith, is)
  part_does (one_form at e) part.Then known able code is = grind (arith, is)
  part_does (one_form at e) part.From known able code is = grind (arith, is)
  part_does (one_form at e) part.With known able code is = grind (arith, is)
  part_does (first_form c e f) part.Plain known able code is = grind (arith, is)
  part_does (first_form c e f) part.From known able code is = grind (arith, is)
  part_does (first_form c e f) part.With known able code is = grind (arith, is)
  part_does (fold_form c e f) part.Plain known able code is = grind (arith, is)
  part_does (fold_form c e f) part.First known able code is = grind (arith, is)
  part_does (fold_form c e f) part.Then known able code is = grind (arith, is)

  -- the value of a rule of a form by its parts
  form_value_is : (greatest : ℕ) (form : Form) (kids : ℕ → ℕ) (n : ℕ) (s : Occurrence → Value)
      → form_value greatest g k form kids n s
      ≡ value_by_parts (form_parts g k form) (form_part_value greatest g k form) kids n s
  form_value_is greatest (one_form at e) kids n s = refl
  form_value_is greatest (first_form c e f) kids zero s = refl
  form_value_is greatest (first_form c e f) kids (suc n) s = refl
  form_value_is greatest (fold_form c e f) kids n s = refl

  class_by : (slot : Slot) → (info_by k (Some slot)).class ≡ k
  class_by (own_slot a) = refl
  class_by (kid_slot c a) = refl

  name_is : (slot : Slot) → name_of_info (info_by k (Some slot)) ≡ name_of_rule k slot
  name_is (own_slot a) = refl
  name_is (kid_slot c a) = refl

module _ (c : CheckedGrammar) (rule : ℕ) (is : IsRuleOf c rule) where
  abbrev g : Grammar
  g = c.grammar

  abbrev w : ℕ
  w = greatest_of_width c.width

  abbrev here : HasRule g rule
  here = has_rule g rule is.within

  abbrev kept : IsKept g here.class here.place here.written
  kept = rule_kept g is.lawful here.class here.known here.place here.written here.stands

  info_is : rule_info_at g rule ≡ info_by here.class (Some kept.slot)
  info_is =
      get_or_from_slice_get (map (rule_info g) (all_rules g)) rule (rule_info g (here.class, here.written)) (info_by 0 None)
      (slice_get-map (rule_info g) (all_rules g) rule ∙ ap (option_map (rule_info g)) here.is)
      ∙ ap (info_by here.class) kept.is_for

  class_is : (rule_info_at g rule).class ≡ here.class
  class_is = ap (λ x. x.class) info_is ∙ class_by g here.class kept.slot

  means : meant_rule c rule ≡ rule_of_form w g here.class kept.form
  means =
      ap (λ x. rule_named (meant c) (name_of_info x)) info_is
      ∙ ap (rule_named (meant c)) (name_is g here.class kept.slot)
      ∙ kept.means w

  form_is : rule_form_at g rule ≡ Some kept.form
  form_is =
      ap (option_and_then (λ (r : ℕ × written.Rule). option_and_then (λ slot. form_of g r.0 slot r.1.body) (slot_of g r.0 r.1.target))) here.is
      ∙ ap (option_and_then (λ slot. form_of g here.class slot here.written.body)) kept.is_for
      ∙ kept.has_form

  value_is : (which : model.Part) (x : Sight) → part_value c rule which x ≡ form_part_value w g here.class kept.form which x
  value_is which x = ap₂ (λ k o. part_value_by w g k o which x) class_is form_is

  code_is : (which : Part) → code_of_part c rule which ≡ part_code which (form_code kept.form)
  code_is which =
      ap (option_and_then (part_code which)) (code_stands_at g rule ∙ ap (option_map code_with) here.is)
      ∙ ap (part_code which) (same_code g here.class kept.slot here.written.body kept.form kept.has_form)

  -- there is code for each part that the rule has, and no other
  pub rule_has : (which : Part) → is_some (code_of_part c rule which) ≡ has_part (meant_rule c rule).parts (part_of which)
  rule_has which =
      ap is_some (code_is which)
      ∙ form_has g here.class kept.form which
      ∙ ap (λ (r : Rule). has_part r.parts (part_of which)) (sym means)

  -- the value of the rule is made of those of its parts
  pub rule_value : (kids : ℕ → ℕ) (n : ℕ) (s : Occurrence → Value)
      → (meant_rule c rule).value kids n s ≡ value_by_parts (meant_rule c rule).parts (part_value c rule) kids n s
  rule_value kids n s =
      ap (λ (r : Rule). r.value kids n s) means
      ∙ form_value_is g here.class w kept.form kids n s
      ∙ ap₂ (λ (parts : model.Parts) (value : model.Part → Sight → Value). value_by_parts parts value kids n s)
      (ap (λ (r : Rule). r.parts) (sym means))
      (fun_ext (λ which. fun_ext (λ x. sym (value_is which x))))

  -- each of its expressions has code
  able : HasCode g → All IsCompilable (form_expressions kept.form)
  able has =
      subst (All IsCompilable) (same_expressions g here.class kept.slot here.written.body kept.form kept.has_form)
      (subst (λ (r : written.Rule). All IsCompilable (expressions_of r.body))
      (get_or_from_slice_get (class_at g here.class).rules here.place here.written here.written here.stands)
      (has here.class _ here.known here.place here.written
      (slice_get_within (class_at g here.class).rules here.place here.written here.stands)))

  -- what the code of a part does
  does : HasCode g → (which : Part) (code : List Instruction) → code_of_part c rule which ≡ Some code
      → DoesPart g here.class kept.form which code
  does has which code at =
      part_does g here.class kept.form which kept.reads (able has) code (sym (code_is which) ∙ at)

  pub rule_takes : HasCode g → (which : Part) (code : List Instruction) → code_of_part c rule which ≡ Some code
      → read_count code ≡ length (reads_in (meant_rule c rule).parts (part_of which))
  rule_takes has which code at =
      (does has which code at).takes
      ∙ ap (λ (r : Rule). length (reads_in r.parts (part_of which))) (sym means)

  pub rule_computes : HasCode g → (which : Part) (code : List Instruction) → code_of_part c rule which ≡ Some code
      → (x : Sight)
      → Computes w x.so_far code (values_read (meant_rule c rule).parts (part_of which) x) (part_value c rule (part_of which) x)
  rule_computes has which code at x =
      subst (λ v. Computes w x.so_far code (values_read (meant_rule c rule).parts (part_of which) x) v)
      (sym (value_is (part_of which) x))
      (subst (λ (r : Rule). Computes w x.so_far code (values_read r.parts (part_of which) x) (form_part_value w g here.class kept.form (part_of which) x))
      (sym means)
      ((does has which code at).computes w x))
