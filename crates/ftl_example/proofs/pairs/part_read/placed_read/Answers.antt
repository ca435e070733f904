use Rattle.std.proofs.Common.{◌-◌, ◌<◌, ap, ap₂, sym, ◌∙◌, subst, arith, length, get_or}
use Rattle.ftl_model.specs.layout.AttributeGrammar.{first_part, from_part, plain_part, then_part, with_part}
use Rattle.ftl_deps.specs.declared.parts.part_read.PartRead.TheVariants.{Own}
use Rattle.ftl_deps.specs.parts.RuleParts.{parts_meant, read_meant}
use Rattle.ftl_example.specs.pairs.FirstPair.{placed, placed_at}
use Rattle.ftl_example.proofs.pairs.PlacedReads.{back_at, front_at, length-tagged, tagged_at}
use Rattle.ftl_example.proofs.pairs.part_read.placed_read.Goals as goal

pub returns-in-Plain-clause-read : goal.returns-in-Plain-clause-read
returns-in-Plain-clause-read c =
    let xs = c.in-Plain.reads in
    let within = subst (λ x. c.args.place < length (placed (parts_meant x))) c.in-Plain.is c.requires.within in
    let long = length-tagged plain_part xs in
    ap (λ x. placed_at (parts_meant x) c.args.place) c.in-Plain.is
    ∙ tagged_at plain_part xs c.args.place (omega (arith, within, long))
    ∙ ap (λ ys. (plain_part, read_meant (get_or ys c.args.place (Own 0)))) (sym c.as_slice.ensures)

pub returns-then-place-len-clause-read : goal.returns-then-place-len-clause-read
returns-then-place-len-clause-read c =
    let xs = c.in-FirstThen.first in
    let low = c.if-place-len.true in
    let long = c.len.ensures in
    ap (λ x. placed_at (parts_meant x) c.args.place) c.in-FirstThen.is
    ∙ front_at first_part then_part xs c.in-FirstThen.later c.args.place (omega (arith, low, long))
    ∙ ap (λ ys. (first_part, read_meant (get_or ys c.args.place (Own 0)))) (sym c.as_slice-then-place-len.ensures)

pub returns-else-place-len-clause-read : goal.returns-else-place-len-clause-read
returns-else-place-len-clause-read c =
    let xs = c.in-FirstThen.first in
    let ys = c.in-FirstThen.later in
    let more = c.if-place-len.false in
    let long = c.len.ensures in
    let within = subst (λ x. c.args.place < length (placed (parts_meant x))) c.in-FirstThen.is c.requires.within in
    ap (λ x. placed_at (parts_meant x) c.args.place) c.in-FirstThen.is
    ∙ back_at first_part then_part xs ys c.args.place (omega (arith, more, long)) within
    ∙ ap₂ (λ zs n. (then_part, read_meant (get_or zs (c.args.place - n) (Own 0)))) (sym c.as_slice-else-place-len.ensures)
    (sym c.len-else-place-len.ensures)

pub returns-then-place-len-2-clause-read : goal.returns-then-place-len-2-clause-read
returns-then-place-len-2-clause-read c =
    let xs = c.in-FoldOver.start in
    let low = c.if-place-len-2.true in
    let long = c.len-in-FoldOver.ensures in
    ap (λ x. placed_at (parts_meant x) c.args.place) c.in-FoldOver.is
    ∙ front_at from_part with_part xs c.in-FoldOver.step c.args.place (omega (arith, low, long))
    ∙ ap (λ ys. (from_part, read_meant (get_or ys c.args.place (Own 0)))) (sym c.as_slice-then-place-len-2.ensures)

pub returns-else-place-len-2-clause-read : goal.returns-else-place-len-2-clause-read
returns-else-place-len-2-clause-read c =
    let xs = c.in-FoldOver.start in
    let ys = c.in-FoldOver.step in
    let more = c.if-place-len-2.false in
    let long = c.len-in-FoldOver.ensures in
    let within = subst (λ x. c.args.place < length (placed (parts_meant x))) c.in-FoldOver.is c.requires.within in
    ap (λ x. placed_at (parts_meant x) c.args.place) c.in-FoldOver.is
    ∙ back_at from_part with_part xs ys c.args.place (omega (arith, more, long)) within
    ∙ ap₂ (λ zs n. (with_part, read_meant (get_or zs (c.args.place - n) (Own 0)))) (sym c.as_slice-else-place-len-2.ensures)
    (sym c.len-else-place-len-2.ensures)
