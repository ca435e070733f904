use Rattle.std.proofs.Common.{◌≡◌, ◌<◌, ◌∙◌, ap, sym, arith, get_or, length}
use Rattle.std.proofs.lemmas.Grind.{common_steps}
use Rattle.std.proofs.lemmas.Result.{err_from_is_err_and}
use Rattle.ftl_deps.specs.reads.Meant.{meant}
use Rattle.ftl_schedule.proofs.names.EachInTurn.{each_fault}
use Rattle.ftl_nest_text.specs.names.NestNamed.{nesting_pass_named}
use Rattle.ftl_nest_text.specs.names.RegionTests.{region_tests}
use Rattle.ftl_nest_text.proofs.names.named.nesting_passes_named.Goals as goal

-- the entry has a fault
pub returns-in_err-nesting_pass_named : goal.returns-in_err-nesting_pass_named
returns-in_err-nesting_pass_named c = record {
  exact =
      let p = err_from_is_err_and c.from_residual.result c.from_residual.ensures.1 in
      let item = c.pass-item.result in
      let within : c.loop-pass.pass-index < length c.args.passes.now = omega (arith, c.loop-pass-test.true) in
      let same : get_or c.args.passes.now c.loop-pass.pass-index item ≡ item = grind (arith, common_steps) in
      rw (p.1, p.2)
      (λ other.
      sym c.loop-pass.invariant
      ∙ each_fault (nesting_pass_named (region_tests (meant c.args.checked.now)) c.args.checked.now.grammar) c.args.passes.now
      c.loop-pass.pass-index c.loop-pass.found item within c.in_err-nesting_pass_named.field-0.0
      (ap (nesting_pass_named (region_tests (meant c.args.checked.now)) c.args.checked.now.grammar) same
      ∙ c.in_err-nesting_pass_named.ensures.exact other));
}
