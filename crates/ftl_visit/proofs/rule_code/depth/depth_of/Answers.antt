use Rattle.std.proofs.Common.{◌≡◌, arith, drop, get_or, ◌+◌, ◌∷◌, ◌∙◌, sym, ap, max}
use Rattle.std.proofs.lemmas.Grind.{common_steps}
use Rattle.ftl_visit.specs.rule_code.Depth.{deepest, values_after, truths_after}
use Rattle.ftl_visit.specs.declared.rule_code.instruction.Instruction.TheVariants as instruction
use Rattle.ftl_visit.proofs.rule_code.DepthLemmas.{turn, values_rise, truths_rise}
use Rattle.ftl_visit.proofs.rule_code.depth.depth_of.Goals as goal

pub loop-instruction-preserved : goal.loop-instruction-preserved
loop-instruction-preserved c =
    let (depth, values, truths, seen) = c.loop-instruction.invariant in
    let k = c.loop-instruction.instruction-index in
    let i = get_or c.args.code.now k instruction.Read in
    let n = c.loop-instruction.values in
    let t = c.loop-instruction.truths in
    let d = c.loop-instruction.depth in
    let left = drop (k + 1) c.args.code.now in
    let v = values_rise i n in
    let u = truths_rise i t in
    let a : c.values_after-values.result ≡ values_after i n = grind (arith, common_steps) in
    let b : c.truths_after-truths.result ≡ truths_after i t = grind (arith, common_steps) in
    let here : drop k c.args.code.now ≡ i ∷ left = grind (arith, common_steps) in
    let same : max d (deepest (i ∷ left) n t) ≡ max d (deepest (drop k c.args.code.now) n t) =
    ap (λ code. max d (deepest code n t)) (sym here) in
    let m : c.max-depth.result ≡ max d (max (values_after i n) (truths_after i t)) = grind (arith, a, b) in (
      rw (m, a, b) (turn i left d n t seen ∙ same ∙ depth),
      omega (arith, a, v),
      omega (arith, b, u),
      omega (arith, m, a, b),
    )
