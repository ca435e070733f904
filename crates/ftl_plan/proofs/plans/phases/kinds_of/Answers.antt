use Rattle.std.proofs.Common.{◌++◌, ◌∷◌, [], List, map, take, ap, sym, ◌∙◌, arith}
use Rattle.std.proofs.lemmas.List.{map_more, take_all}
use Rattle.ftl_schedule.specs.declared.stages.types.Pass.{Pass}
use Rattle.ftl_schedule.specs.declared.syntax.kind.PassKind.{PassKind}
use Rattle.ftl_plan.proofs.plans.phases.kinds_of.Goals as goal

pub loop-pass-init : goal.loop-pass-init
loop-pass-init c = c.in_ok-kinds.ensures.items

pub loop-pass-preserved : goal.loop-pass-preserved
loop-pass-preserved c =
    let passes = c.args.passes.now in
    let n = c.loop-pass.pass-index in
    let kind : Pass → PassKind = λ p. p.kind in
    c.in_ok-push.ensures.items
    ∙ ap (λ (ks : List PassKind). ks ++ c.pass-item.result.kind ∷ []) c.loop-pass.invariant
    ∙ ap (λ (p : Pass). map kind (take n passes) ++ kind p ∷ []) c.pass-item.is
    ∙ sym (map_more kind passes n c.pass-item.result c.loop-pass-test.true)

pub returns : goal.returns
returns c =
    let past = c.loop-pass-test.false in
    record {
      kinds =
          c.loop-pass.invariant
          ∙ ap (map (λ (p : Pass). p.kind)) (take_all c.loop-pass.pass-index c.args.passes.now (omega (arith, past)));
    }
