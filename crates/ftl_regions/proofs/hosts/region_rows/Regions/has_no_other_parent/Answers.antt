use Rattle.std.proofs.Common.{◌<◌, ◌≤◌, arith, subst}
use Rattle.std.proofs.lemmas.Bool.{both_ways}
use Rattle.ftl_deps.specs.reads.Meant.{meant}
use Rattle.ftl_meaning.specs.faults.Checked.{CheckedGrammar}
use Rattle.ftl_regions.specs.hosts.Parents.{HasNoOtherParent}
use Rattle.ftl_regions.proofs.hosts.ParentLaws.{right_more, tells_no, tells_yes}
use Rattle.ftl_regions.proofs.hosts.region_rows.Regions.has_no_other_parent.Goals as goal

pub returns-then-not-is_right_parent : goal.returns-then-not-is_right_parent
returns-then-not-is_right_parent c =
    let known : c.loop-class.class < (meant c.args.self.now).class_count =
    subst (λ (x : CheckedGrammar). c.loop-class.class < (meant x).class_count) c.self.view_is
    (omega (arith, c.class_count-class-end.ensures.count, c.loop-class-test.true)) in
    record {
      parents =
          tells_no (HasNoOtherParent (meant c.args.self.now) c.args.host)
          (λ all. both_ways c.is_right_parent.result c.if-not-is_right_parent.true
          (c.is_right_parent.ensures.parent.1 (all c.loop-class.class known)));
    }

pub loop-class-preserved : goal.loop-class-preserved
loop-class-preserved c =
    right_more (meant c.args.self.now) c.args.host c.loop-class.class c.loop-class.invariant
    (c.is_right_parent.ensures.parent.0 c.if-not-is_right_parent.false)

pub returns : goal.returns
returns c =
    let all : (meant c.args.self.now).class_count ≤ c.loop-class.class =
    subst (λ (x : CheckedGrammar). (meant x).class_count ≤ c.loop-class.class) c.self.view_is
    (omega (arith, c.class_count-class-end.ensures.count, c.loop-class-test.false)) in
    record {
      parents =
          tells_yes (HasNoOtherParent (meant c.args.self.now) c.args.host)
          (λ class known. c.loop-class.invariant class (omega (arith, known, all)));
    }
