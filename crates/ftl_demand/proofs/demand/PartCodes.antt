-- The code of a part of a rule.
use Rattle.std.proofs.Common.{◌≡◌, ℕ, List, Option, Some, None, sym, ◌∙◌, ap, subst}
use Rattle.std.specs.List.{slice_get}
use Rattle.std.specs.Option.{IfNone, option_and_then, option_map}
use Rattle.ftl_meaning.specs.faults.Checked.{CheckedGrammar}
use Rattle.ftl_step_value.specs.value.StepValue.{IsCodeFor}
use Rattle.ftl_visit.specs.compiled.RuleCode.{Compiled, PartCode, RuleCode, code_at, part_code}
use Rattle.ftl_visit.specs.declared.compiled.part.Part.{Part}
use Rattle.ftl_visit.specs.rule_values.PartValues.{IsCodeOf, IsRuleOf}

-- what the programs have for the part is its code
pub is_code : (c : CheckedGrammar) (p : Compiled) → IsCodeFor c p → (rule : ℕ) → IsRuleOf c rule → (which : Part)
    (o : Option PartCode) (code : PartCode) → o ≡ Some code
    → option_map (λ (x : PartCode). x.code) o ≡ code_at p rule which → IsCodeOf c rule which code.code
is_code c p code_is rule rule_is which o code at found = record {
  rule_is = rule_is;
  compilable = code_is.compilable;
  is =
      sym
      (found
      ∙ ap (λ (rules : List RuleCode). option_and_then (part_code which) (slice_get rules rule)) code_is.rules)
      ∙ ap (option_map (λ (x : PartCode). x.code)) at;
}

-- what holds where there is none
pub of_none : {A : Type 0} (P : Type 0) (o : Option A) → o ≡ None → IfNone o P → P
of_none P o is h = subst (λ x. IfNone x P) is h
