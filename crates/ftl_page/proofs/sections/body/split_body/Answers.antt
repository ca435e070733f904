use Rattle.std.proofs.Common.{◌≡◌, ◌<◌, true, false, not, length, sym, ap, ◌∙◌, inl, inr, arith, rules, false-eqb}
use Rattle.std.specs.Prelude.{◌⊎◌}
use Rattle.std.proofs.lemmas.Bool.{eqb-true}
use Rattle.ftl_page.specs.sections.Lines.{is_heading}
use Rattle.ftl_page.proofs.sections.BodyLemmas.{body_start, body_more, body_all, is_heading-front}
use Rattle.ftl_page.proofs.sections.body.split_body.Goals as goal
use Rattle.ftl_page.proofs.sections.body.split_body.Goals.{then-loop-rest-test+else-not-is_heading, else-loop-rest-test}

pub loop-rest-init : goal.loop-rest-init
loop-rest-init c = record { is_text = c.utf8.text; body = body_start c.args.text.now }

pub loop-rest-preserved : goal.loop-rest-preserved
loop-rest-preserved c =
    let some : 0 < length c.loop-rest.rest.now = omega (arith, false-eqb _ 0 c.loop-rest-test.ensures) in
    let front = c.split_line.ensures.some some in
    let same = ap is_heading c.split_line.ensures.whole
    ∙ is_heading-front c.split_line.result.0.now c.split_line.result.1.now front in
    let no_heading : is_heading c.loop-rest.rest.now ≡ false = sym c.is_heading.ensures.heading ∙ search rules in
    record {
      is_text = search rules;
      body = body_more c.loop-rest.invariant.body c.split_line.result.0.now c.split_line.result.1.now
          (c.split_line.ensures.lines some) c.split_line.ensures.whole front (ap not (sym same ∙ no_heading));
    }

pub returns : goal.returns
returns c = record {
  body =
      let next : (length c.loop-rest.rest.now ≡ 0) ⊎ (is_heading c.loop-rest.rest.now ≡ true) =
      elim c.loop-rest-test.branch [
        | then-loop-rest-test+else-not-is_heading w ↦ inr (sym w.if-not-is_heading.ensures.heading)
        | else-loop-rest-test w ↦ inl (eqb-true _ 0 (sym w.loop-rest-test.ensures))
      ]
      in
      body_all c.loop-rest.invariant.body c.split_at.result.0.now c.split_at.result.1.now c.split_at.ensures.front
      c.split_at.ensures.back next;
}
