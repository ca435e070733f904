use Rattle.std.proofs.Common.{◌++◌, take, ap, sym, ◌∙◌}
use Rattle.ftl_tree.proofs.boxes.Pairs.{one_digit, two_digits}
use Rattle.ftl_tree.proofs.boxes.digits.put_two.Goals as goal

pub returns-then-number-lt10-clause-text : goal.returns-then-number-lt10-clause-text
returns-then-number-lt10-clause-text c =
    c.put_byte.ensures.text
    ∙ ap (λ ds. take c.args.end c.args.bytes.now ++ ds) (sym (one_digit c.args.number c.if-number-lt10.true))

pub returns-clause-text : goal.returns-clause-text
returns-clause-text c =
    c.put_pair.ensures.text
    ∙ ap (λ ds. take c.args.end c.args.bytes.now ++ ds)
    (sym (two_digits c.args.number c.if-number-lt10.false c.requires.short))
