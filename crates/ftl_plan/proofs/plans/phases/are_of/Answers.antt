use Rattle.std.proofs.Common.{◌++◌, ◌∷◌, [], List, map, take, ap, refl, sym, ◌∙◌, arith, get_or}
use Rattle.std.proofs.lemmas.List.{map_more, take_all, take_more}
use Rattle.ftl_schedule.specs.declared.stages.types.Pass.{Pass}
use Rattle.ftl_schedule.specs.declared.syntax.kind.PassKind.{PassKind}
use Rattle.ftl_plan.proofs.plans.phases.are_of.Goals as goal

pub loop-number-init : goal.loop-number-init
loop-number-init c = refl

pub loop-number-preserved : goal.loop-number-preserved
loop-number-preserved c =
    let passes = c.args.passes.now in
    let kinds = c.args.kinds.now in
    let n = c.loop-number.number in
    let kind : Pass → PassKind = λ p. p.kind in
    let same = c.if-passes-kinds.false in
    let known = c.loop-number-test.true in
    let r = c.index-passes-number.result in
    take_more kinds n _ (omega (arith, same, known))
    ∙ ap (λ (k : PassKind). take n kinds ++ k ∷ []) (sym (c.is_same.ensures.same c.if-not-is_same.false))
    ∙ ap (λ (ks : List PassKind). ks ++ (get_or passes n r).kind ∷ []) c.loop-number.invariant
    ∙ sym (map_more kind passes n r known)

pub returns : goal.returns
returns c =
    let passes = c.args.passes.now in
    let kinds = c.args.kinds.now in
    let n = c.loop-number.number in
    let past = c.loop-number-test.false in
    let same = c.if-passes-kinds.false in
    record {
      kinds =
          λ _.
          sym (take_all n kinds (omega (arith, past, same)))
          ∙ c.loop-number.invariant
          ∙ ap (map (λ (p : Pass). p.kind)) (take_all n passes (omega (arith, past)));
    }
