use Rattle.std.proofs.Common.{◌<◌, length, arith, false-eqb, refl}
use Rattle.std.proofs.lemmas.Bool.Decides.{Decides-eqb}
use Rattle.std.proofs.lemmas.Slice.Eq.{starts_is}
use Rattle.ftl_refusals.proofs.places.SectionLemmas.{next_rest, section_found}
use Rattle.ftl_refusals.proofs.places.section.section_start.Goals as goal

pub returns-then-starts_with-2 : goal.returns-then-starts_with-2
returns-then-starts_with-2 c =
    let rest = c.loop-rest.rest.now in
    let line = c.split_line.result.0.now in
    let after = c.split_line.result.1.now in
    let some : 0 < length rest = omega (arith, false-eqb _ 0 c.loop-rest-test.ensures) in
    record {
      start =
          section_found c.args.file.now rest line after c.args.word.now c.args.text.now c.loop-rest.invariant
          (c.split_line.ensures.first some) c.split_line.ensures.whole
          ((starts_is Decides-eqb line c.args.word.now _ c.if-starts_with.ensures.value).0 refl)
          ((starts_is Decides-eqb after c.args.text.now _ c.if-starts_with-2.ensures.value).0 refl);
    }

pub loop-rest-preserved : goal.loop-rest-preserved
loop-rest-preserved c =
    let rest = c.loop-rest.rest.now in
    let some : 0 < length rest = omega (arith, false-eqb _ 0 c.loop-rest-test.ensures) in
    next_rest c.args.file.now rest c.split_line.result.0.now c.split_line.result.1.now c.loop-rest.invariant
    (c.split_line.ensures.first some) c.split_line.ensures.whole
