use Rattle.std.proofs.Common.{◌≡◌, ◌<◌, ◌∙◌, ap, sym, arith, get_or, length}
use Rattle.std.proofs.lemmas.Grind.{common_steps}
use Rattle.std.proofs.lemmas.Result.{err_from_is_err_and}
use Rattle.ftl_deps.specs.reads.Meant.{meant}
use Rattle.ftl_schedule.proofs.names.EachInTurn.{each_fault}
use Rattle.ftl_nest_text.specs.names.NestNamed.{inner_number}
use Rattle.ftl_nest_text.specs.names.RegionTests.{region_tests}
use Rattle.ftl_nest_text.proofs.names.inner.inner_attributes_named.Goals as goal

-- the entry has a fault
pub returns-in_err-inner_number : goal.returns-in_err-inner_number
returns-in_err-inner_number c = record {
  exact =
      let p = err_from_is_err_and c.from_residual.result c.from_residual.ensures.1 in
      let item = c.name-item.result in
      let within : c.loop-name.name-index < length c.args.names.now = omega (arith, c.loop-name-test.true) in
      let same : get_or c.args.names.now c.loop-name.name-index item ≡ item = grind (arith, common_steps) in
      rw (p.1, p.2)
      (λ other.
      sym c.loop-name.invariant
      ∙ each_fault (inner_number (region_tests (meant c.args.checked.now)) c.args.checked.now.grammar c.args.host) c.args.names.now
      c.loop-name.name-index c.loop-name.found item within c.in_err-inner_number.field-0.0
      (ap (inner_number (region_tests (meant c.args.checked.now)) c.args.checked.now.grammar c.args.host) same
      ∙ c.in_err-inner_number.ensures.exact other));
}
