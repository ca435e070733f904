-- What running the code of a part gives.
use Rattle.std.proofs.Common.{◌≡◌, List, Option, Some, sym, ap, ◌∙◌, subst}
use Rattle.std.specs.Prelude.{IfSome}
use Rattle.std.specs.Option.{option_map}
use Rattle.ftl_base.specs.Widths.{greatest_of_width}
use Rattle.ftl_base.specs.declared.width.Width.{Width}
use Rattle.ftl_model.specs.layout.Values.{Value}
use Rattle.ftl_visit.specs.rule_code.Machine.{Computes}
use Rattle.ftl_visit.specs.declared.rule_code.instruction.Instruction.{Instruction}
use Rattle.ftl_visit.specs.compiled.RuleCode.{PartCode}

-- what was run is the code that is found, in its width
pub ran : (o : Option PartCode) (x : PartCode) (found : Option (List Instruction)) (w : Width) (so_far : Value)
    (reads : List (Option Value)) (r : Value) → o ≡ Some x → option_map (λ c. c.code) o ≡ found
    → IfSome o (λ c. c.width ≡ w)
    → ((v : Value) → Computes (greatest_of_width x.width) so_far x.code reads v → r ≡ v)
    → IfSome found (λ code. (v : Value) → Computes (greatest_of_width w) so_far code reads v → r ≡ v)
ran o x found w so_far reads r is same wide gives =
    let width : x.width ≡ w = subst (λ (p : Option PartCode). IfSome p (λ c. c.width ≡ w)) is wide in
    subst (λ (f : Option (List Instruction)). IfSome f (λ code. (v : Value) → Computes (greatest_of_width w) so_far code reads v → r ≡ v))
    (sym (ap (option_map (λ (c : PartCode). c.code)) is) ∙ same)
    (λ v computes. gives v (subst (λ u. Computes (greatest_of_width u) so_far x.code reads v) (sym width) computes))
