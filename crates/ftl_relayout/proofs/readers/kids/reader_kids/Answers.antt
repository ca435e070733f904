-- The step of a fold reads it at one of these kids, whichever kid the rule is for.
use Rattle.std.proofs.Common.{arith, sym, subst}
use Rattle.ftl_deps.specs.parts.RuleParts.{read_meant}
use Rattle.ftl_visit.specs.step_reads.StepReads.{kids_in}
use Rattle.ftl_relayout.specs.readers.Readers.{IsHitWhen, attribute_read, seen_as}
use Rattle.ftl_relayout.proofs.readers.kids.reader_kids.Goals as goal

pub returns-then-kids : goal.returns-then-kids
returns-then-kids c =
    let kids = kids_in c.args.tree.now c.args.node in
    let e = c.args.reader.now in
    let o = seen_as c.args.place (attribute_read e.read) in
    let m = c.clipped-kids.result.from in
    let some = c.if-kids.true in
    let from = c.clipped-kids.ensures.from in
    let to = c.clipped-kids.ensures.to in
    let limit = c.rule_kids-limit.ensures.count in
    let count = c.kid_count.ensures.count in
    record {
      kids = record {
        has = λ n below hit. (omega arith, omega (arith, below, limit));
        only = λ n least below. (
          omega (arith, below, limit),
          subst (λ w. IsHitWhen kids n w (read_meant e.read) o) (sym c.in-EachKid.is) (
            m,
            omega (arith, some, from, to, count),
            c.hits-hits.ensures.hits.only m (omega (arith, from)) (omega (arith, some, from, to)),
          ),
        );
      };
    }
