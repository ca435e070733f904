use Rattle.std.proofs.Common.{◌≡◌, ◌<◌, true, false, length, sym, refl, ◌∙◌, arith, rules, false-eqb}
use Rattle.ftl_page.specs.sections.Lines.{is_stray}
use Rattle.ftl_page.proofs.sections.StrayLemmas.{stray_found, stray_further, stray_none}
use Rattle.ftl_page.proofs.sections.section.no_stray.Goals as goal

pub loop-rest-init : goal.loop-rest-init
loop-rest-init c = record { is_text = c.utf8.text; stray = record { left = omega arith; ahead = refl } }

pub returns-then-is_stray : goal.returns-then-is_stray
returns-then-is_stray c = record {
  stray =
      let some : 0 < length c.loop-rest.rest.now = omega (arith, false-eqb _ 0 c.loop-rest-test.ensures) in
      let stray : is_stray c.split_line.result.0.now ≡ true = sym c.is_stray.ensures.stray ∙ search rules in
      sym (stray_found c.loop-rest.invariant.stray _ _ (c.split_line.ensures.lines some) stray);
}

pub loop-rest-preserved : goal.loop-rest-preserved
loop-rest-preserved c =
    let some : 0 < length c.loop-rest.rest.now = omega (arith, false-eqb _ 0 c.loop-rest-test.ensures) in
    let plain : is_stray c.split_line.result.0.now ≡ false = sym c.is_stray.ensures.stray ∙ search rules in
    record {
      is_text = search rules;
      stray = stray_further c.loop-rest.invariant.stray _ _ (c.split_line.ensures.lines some) c.split_line.ensures.whole
          (c.split_line.ensures.some some) plain;
    }

pub returns : goal.returns
returns c = record { stray = sym (stray_none c.loop-rest.invariant.stray (search rules)) }
