use Rattle.std.proofs.Common.{◌<◌, [], length, drop, ◌+◌, sym, subst, arith}
use Rattle.std.proofs.lemmas.List.{drop_all, drop_more}
use Rattle.ftl_document.specs.faults.FirstFault.{input_names}
use Rattle.ftl_document.specs.pass.Good.{AreInputs, no_inputs}
use Rattle.ftl_document.specs.pass.Parts.{state_of}
use Rattle.ftl_document.proofs.pass.Steps.{input_step}
use Rattle.ftl_document.proofs.pass.nodes.Pass.inputs.Goals as goal

pub loop-input-preserved : goal.loop-input-preserved
loop-input-preserved c =
    let l = c.loop-input in
    let greatest = c.args.self.now.greatest in
    let names = input_names c.args.self.now.checked.now.grammar c.args.class in
    let within : l.input < length names = omega (arith, c.loop-input-test.true, c.input_count-count.ensures.count) in
    record {
      within = omega (arith, within);
      more = λ t rest.
          l.invariant.more t
          (subst (λ ns. AreInputs greatest ns (state_of greatest l.passed) t) (sym (drop_more names l.input [] within))
          (input_step greatest _ (drop (l.input + 1) names) _ _ _ t c.in_ok-input_name.ensures.field c.in_ok-input.ensures.input rest));
    }

pub returns : goal.returns
returns c =
    let l = c.loop-input in
    let greatest = c.args.self.now.greatest in
    let names = input_names c.args.self.now.checked.now.grammar c.args.class in
    record {
      inputs =
          l.invariant.more (state_of greatest l.passed)
          (subst (λ ns. AreInputs greatest ns (state_of greatest l.passed) (state_of greatest l.passed))
          (sym (drop_all l.input names (omega (arith, c.loop-input-test.false, c.input_count-count.ensures.count)))) no_inputs);
    }
