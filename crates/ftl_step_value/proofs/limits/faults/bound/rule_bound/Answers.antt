use Rattle.std.proofs.Common.{subst, sym, take, arith}
use Rattle.std.proofs.lemmas.List.{take_all}
use Rattle.std.proofs.lemmas.List.Elements.{All-more, All-same, All-weaker}
use Rattle.ftl_deps.specs.parts.RuleParts.{parts_meant}
use Rattle.ftl_deps.specs.declared.parts.rule_parts.RuleParts.{RuleParts}
use Rattle.ftl_step_value.specs.limits.faults.ReadBound.{PartsWithin}
use Rattle.ftl_step_value.proofs.limits.faults.PartReads.{parts_more}
use Rattle.ftl_step_value.proofs.limits.faults.bound.rule_bound.Goals as goal

pub loop-parts-preserved : goal.loop-parts-preserved
loop-parts-preserved c =
    let rows = c.args.rows.now in
    let at = c.loop-parts.parts-index in
    let old = c.loop-parts.bound in
    let new = c.with_rule-bound.result in
    record {
      within =
          All-more (λ (p : RuleParts). PartsWithin new (parts_meant p)) rows at c.parts-item.result
          c.loop-parts-test.true
          (All-weaker (λ (p : RuleParts). PartsWithin old (parts_meant p))
          (λ (p : RuleParts). PartsWithin new (parts_meant p))
          (λ p low. parts_more old new c.with_rule-bound.ensures.no_less (parts_meant p) low)
          (take at rows) c.loop-parts.invariant.within)
          (subst (λ (p : RuleParts). PartsWithin new (parts_meant p)) c.parts-item.is c.with_rule-bound.ensures.within);
      small = c.with_rule-bound.ensures.small;
    }

pub returns-clause-within : goal.returns-clause-within
returns-clause-within c =
    let rows = c.args.rows.now in
    let at = c.loop-parts.parts-index in
    All-same (λ (p : RuleParts). PartsWithin c.loop-parts.bound (parts_meant p)) rows (take at rows)
    (sym (take_all at rows (omega (arith, c.loop-parts-test.false)))) c.loop-parts.invariant.within
