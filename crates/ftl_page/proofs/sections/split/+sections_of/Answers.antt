use Rattle.std.proofs.Common.{◌≡◌, ◌+◌, ◌<◌, length, Ok, Err, sym, subst, arith, false-eqb}
use Rattle.std.proofs.lemmas.Result.{err_from_is_err_and}
use Rattle.std.proofs.lemmas.Bool.{eqb-true}
use Rattle.ftl_page.specs.sections.Lines.{lines_of}
use Rattle.ftl_page.specs.sections.Blocks.{blocks_of}
use Rattle.ftl_page.specs.sections.Found.{AreSectionsOf, SectionsGive}
use Rattle.ftl_page.proofs.sections.SectionLemmas.{blocks_of-nil, block_is, heading_here, sections_all, sections_fault}
use Rattle.ftl_page.proofs.sections.SectionLemmas.{sections_more}
use Rattle.ftl_page.proofs.sections.split.+sections_of.Goals as goal

-- no heading is left
pub returns-then-is_empty : goal.returns-then-is_empty
returns-then-is_empty t c = record {
  sections =
      λ before found.
      subst (AreSectionsOf (Ok c.args.sections.now) before)
      (sym (blocks_of-nil c.args.number c.args.text.now (eqb-true _ 0 (sym c.if-is_empty.ensures))))
      (sections_all c.args.sections.now before found);
}

-- the first block is refused
pub returns-in_err-sections : goal.returns-in_err-sections
returns-in_err-sections t c = record {
  sections =
      λ before found.
      let p = err_from_is_err_and c.from_residual.result c.from_residual.ensures.1 in
      let some : 0 < length c.args.text.now = omega (arith, false-eqb _ 0 c.if-is_empty.ensures) in
      let block = block_is c.args.number c.split_body-body.result.lines c.args.text.now c.split_line.result.0.now
      c.split_line.result.1.now c.split_body-body.result.text.now c.split_body-body.result.rest.now
      (heading_here c.args.text.now some c.requires.1.1.1) (c.split_line.ensures.some some) c.split_line.ensures.whole
      (c.split_line.ensures.lines some) c.split_body-body.ensures.body in
      rw (p.1, p.2)
      (subst (AreSectionsOf (Err c.in_err-sections.field-0.0) before) (sym block)
      (sections_fault c.args.sections.now before found c.in_err-sections.field-0.0 c.args.number c.split_line.result.0.now
      (lines_of c.split_body-body.result.text.now) _ c.in_err-sections.ensures.added));
}

-- the first block is added
pub returns : goal.returns
returns t c = record {
  sections =
      λ before found.
      let some : 0 < length c.args.text.now = omega (arith, false-eqb _ 0 c.if-is_empty.ensures) in
      let block = block_is c.args.number c.split_body-body.result.lines c.args.text.now c.split_line.result.0.now
      c.split_line.result.1.now c.split_body-body.result.text.now c.split_body-body.result.rest.now
      (heading_here c.args.text.now some c.requires.1.1.1) (c.split_line.ensures.some some) c.split_line.ensures.whole
      (c.split_line.ensures.lines some) c.split_body-body.ensures.body in
      let place : c.args.number + 1 + c.split_body-body.result.lines ≡ c.args.number +
      (1 + c.split_body-body.result.lines) = omega arith in
      let others = subst
      (λ n. SectionsGive c.sections_of.result c.in_ok-sections.sections
      (blocks_of n (lines_of c.split_body-body.result.rest.now))) place c.sections_of.ensures.sections in
      subst (AreSectionsOf c.sections_of.result before) (sym block)
      (sections_more c.args.sections.now before found c.in_ok-sections.sections c.sections_of.result c.args.number
      c.split_line.result.0.now (lines_of c.split_body-body.result.text.now) _ c.in_ok-sections.ensures.added others);
}
