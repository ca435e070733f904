use Rattle.std.proofs.Common.{[], ◌∷◌}
use Rattle.std.specs.List.{range_with_len}
use Rattle.ftl_deps.specs.reads.Meant.{meant}
use Rattle.ftl_example.specs.pairs.PairMeant.{pair_meant}
use Rattle.ftl_example.proofs.examples.FoundFor.{shown_by_hand}
use Rattle.ftl_example.proofs.examples.OptionHas.{some_has}
use Rattle.ftl_example.proofs.examples.shown_steps.writer_of.Goals as goal

pub returns-in-One-clause-found : goal.returns-in-One-clause-found
returns-in-One-clause-found c =
    some_has c.writer_for.result c.writer_for.ensures.found
    (shown_by_hand (meant c.args.tree.now.checked) c.args.tree.now.tree (pair_meant c.args.pair) c.args.reader
    c.args.steps.now (c.in-One.kid ∷ []) c.in-One.ensures.hand (c.runs_rule.ensures.rule.0 c.if-not-runs_rule.false))

pub returns-in-Each-clause-found : goal.returns-in-Each-clause-found
returns-in-Each-clause-found c =
    some_has c.writer_for_each.result c.writer_for_each.ensures.found
    (shown_by_hand (meant c.args.tree.now.checked) c.args.tree.now.tree (pair_meant c.args.pair) c.args.reader
    c.args.steps.now (range_with_len 0 c.in-Each.count) c.in-Each.ensures.hand
    (c.runs_rule.ensures.rule.0 c.if-not-runs_rule.false))
