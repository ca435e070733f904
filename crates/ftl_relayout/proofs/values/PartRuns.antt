-- What running the code of a part gives.
use Rattle.std.proofs.Common.{◌≡◌, ℕ, true, false, List, Option, Some, None, refl, sym, ap, ◌∙◌, subst, ◌≤◌, length}
use Rattle.std.specs.List.{slice_get}
use Rattle.std.specs.Option.{IfSome, is_some, option_and_then}
use Rattle.ftl_base.specs.Widths.{greatest_of_width}
use Rattle.ftl_meaning.specs.faults.Checked.{CheckedGrammar}
use Rattle.ftl_meaning.specs.grammars.Meaning.{Sight}
use Rattle.ftl_model.specs.layout.Values.{Value}
use Rattle.ftl_step_value.proofs.value.PartRuns.{computes_same}
use Rattle.ftl_step_value.specs.value.StepValue.{IsCodeFor}
use Rattle.ftl_visit.specs.compiled.RuleCode.{Compiled, RuleCode, code_at, part_code}
use Rattle.ftl_visit.specs.declared.compiled.part.Part.{Part}
use Rattle.ftl_visit.specs.declared.rule_code.instruction.Instruction.{Instruction}
use Rattle.ftl_visit.specs.rule_code.Machine.{Computes}
use Rattle.ftl_visit.specs.rule_values.PartValues.{IsCodeOf, IsRuleOf, code_of_part, has_part, meant_rule, part_of, part_value, values_read}
use Rattle.ftl_visit.specs.rule_values.Runs.{CountedCode}
use Rattle.ftl_relayout.specs.declared.values.sites.Buffers.{Buffers}
use Rattle.ftl_relayout.specs.values.PartSites.{CanRun, IsRoomFor}

-- there is code for each part that a rule has
abbrev pub HasCodeOf : Type 0
HasCodeOf =
    (c : CheckedGrammar) (rule : ℕ) → IsRuleOf c rule → (which : Part)
    → is_some (code_of_part c rule which) ≡ has_part (meant_rule c rule).parts (part_of which)

-- it computes the value of the part
abbrev pub ComputesParts : Type 0
ComputesParts =
    (c : CheckedGrammar) (rule : ℕ) (which : Part) (code : List Instruction) → IsCodeOf c rule which code → (x : Sight)
    → Computes (greatest_of_width c.width) x.so_far code (values_read (meant_rule c rule).parts (part_of which) x)
    (part_value c rule (part_of which) x)

-- so what a run gives is that
pub run_gives :
    HasCodeOf → ComputesParts → (c : CheckedGrammar) (p : Compiled) → IsCodeFor c p → (rule : ℕ) → IsRuleOf c rule
    → (which : Part) → has_part (meant_rule c rule).parts (part_of which) ≡ true → (x : Sight)
    → (given : List (Option Value)) → given ≡ values_read (meant_rule c rule).parts (part_of which) x
    → (r : Value)
    → IfSome (code_at p rule which)
    (λ code. (v : Value) → Computes (greatest_of_width p.width) x.so_far code given v → r ≡ v)
    → r ≡ part_value c rule (part_of which) x
run_gives has_code computes c p is_code rule is which has x given are r h =
    by (code_of_part c rule which) refl
    (subst (λ (rules : List RuleCode). IfSome (option_and_then (part_code which) (slice_get rules rule))
    (λ code. (v : Value) → Computes (greatest_of_width p.width) x.so_far code given v → r ≡ v)) is_code.rules h)
  where
    by : (o : Option (List Instruction)) → code_of_part c rule which ≡ o → IfSome o
        (λ code. (v : Value) → Computes (greatest_of_width p.width) x.so_far code given v → r ≡ v)
        → r ≡ part_value c rule (part_of which) x
    by None e none =
        absurd
        (let z : false ≡ true = sym (ap is_some e) ∙ has_code c rule is which ∙ has in
        let y : ⊥ = cc in
        y)
    by (Some code) e gives =
        gives (part_value c rule (part_of which) x)
        (computes_same p.width c.width is_code.width given (values_read (meant_rule c rule).parts (part_of which) x)
        (sym are) x.so_far code (part_value c rule (part_of which) x)
        (computes c rule which code (record { rule_is = is; compilable = is_code.compilable; is = e }) x))

-- a runner that has run can run again
pub runs_again : (c : CheckedGrammar) (r s : CountedCode) (b d : Buffers) → CanRun c r b → s.programs ≡ r.programs
    → d.stack.room ≡ b.stack.room → 256 ≤ length d.reads.items → CanRun c s d
runs_again c r s b d can same room reads =
    record {
      code = subst (IsCodeFor c) (sym same) can.code;
      room =
          subst (λ (p : Compiled). IsRoomFor p d.stack.room) (sym same)
          (subst (IsRoomFor r.programs) (sym room) can.room);
      reads = reads;
    }
