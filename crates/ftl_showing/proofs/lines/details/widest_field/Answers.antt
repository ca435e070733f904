use Rattle.std.proofs.Common.{◌∙◌, ap, sym, length, map, max, take, ℕ}
use Rattle.ftl_showing.specs.lines.Details.{greatest}
use Rattle.ftl_showing.specs.lines.Lines.{field_on}
use Rattle.ftl_showing.proofs.lines.LineLemmas.{greatest_more}
use Rattle.ftl_showing.proofs.lines.details.widest_field.Goals as goal

pub field_length-requires-clause-known : goal.field_length-requires-clause-known
field_length-requires-clause-known c = c.requires.known c.loop-attr.attr-index 0 c.loop-attr-test.true

pub loop-attr-preserved : goal.loop-attr-preserved
loop-attr-preserved c =
    let xs = c.args.attributes.now in
    let i = c.loop-attr.attr-index in
    let long : ℕ → ℕ = λ a. length (field_on c.args.page.now c.args.node a) in
    c.longer-widest.ensures.longer
    ∙ (ap (λ (n : ℕ). max n c.in_ok-field_length.field-0) c.loop-attr.invariant
    ∙ (ap (max (greatest (map long (take i xs)))) c.in_ok-field_length.ensures.length
    ∙ sym (greatest_more long xs i 0 c.loop-attr-test.true)))
