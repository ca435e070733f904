use Rattle.std.proofs.Common.{◌≡◌, arith, subst}
use Rattle.std.specs.Prelude.{IfSome}
use Rattle.std.proofs.lemmas.Grind.{common_steps}
use Rattle.std.specs.Option.{option_map}
use Rattle.ftl_visit.specs.compiled.RuleCode.{Compiled, code_at}
use Rattle.ftl_visit.proofs.rule_values.Running.{ran}
use Rattle.ftl_visit.proofs.rule_values.counted.Runner.run.Goals as goal

pub returns-clause-value : goal.returns-clause-value
returns-clause-value c =
    let programs = c.args.self.now.programs in
    let found = code_at programs c.args.rule c.args.part in
    let inside : c.self.inside.programs.now ≡ programs = grind (arith, common_steps) in
    let same : option_map (λ x. x.code) c.code.result ≡ found = grind (arith, common_steps) in
    let wide : IfSome c.code.result (λ x. x.width ≡ programs.width) =
    subst (λ (p : Compiled). IfSome c.code.result (λ x. x.width ≡ p.width)) inside c.code.ensures.width in
    ran c.code.result c.unwrap-code.result found programs.width c.args.acc c.args.reads.now c.run_code.result
    c.unwrap-code.ensures same wide c.run_code.ensures.value
