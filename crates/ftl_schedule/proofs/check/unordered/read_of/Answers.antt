use Rattle.std.proofs.Common.{arith, ◌≡◌, ◌<◌, List, length, subst, sym, ◌∙◌}
use Rattle.std.proofs.lemmas.Grind.{common_steps}
use Rattle.ftl_order.specs.dependencies.DepReads.{rule_reads}
use Rattle.ftl_order.specs.declared.dependencies.dep_read.DepRead.{DepRead}
use Rattle.ftl_deps.specs.reads.Meant.{meant}
use Rattle.ftl_schedule.specs.check.RuleAt.{rule_at}
use Rattle.ftl_schedule.proofs.check.RuleCount.{place_in_row, reads_in_row, row_in}
use Rattle.ftl_schedule.proofs.check.unordered.read_of.Goals as goal

pub reads-requires : goal.reads-requires
reads-requires c = record { within = row_in c.args.checked.now c.grammar.ensures.lawful c.args.rule c.requires.within c.args.deps.now c.requires.table }

pub bounds-reads-place : goal.bounds-reads-place
bounds-reads-place c =
    subst (λ (xs : List DepRead). c.args.place < length xs) (sym c.reads.ensures.reads)
    (place_in_row c.args.checked.now c.grammar.ensures.lawful c.args.rule c.requires.within c.args.deps.now c.requires.table c.args.place c.requires.place)

pub returns : goal.returns
returns c =
    let row : c.reads.result.now ≡ rule_reads (meant c.args.checked.now) (rule_at (meant c.args.checked.now) c.args.rule) =
    c.reads.ensures.reads ∙ reads_in_row c.args.checked.now c.grammar.ensures.lawful c.args.rule c.requires.within c.args.deps.now c.requires.table in
    let place = c.requires.place in
    grind (arith, common_steps)
