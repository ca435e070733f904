use Rattle.std.proofs.Common.{◌≡◌, ◌<◌, ◌≤◌, arith, subst}
use Rattle.std.proofs.lemmas.Bool.{both_ways}
use Rattle.ftl_deps.specs.reads.Meant.{meant}
use Rattle.ftl_meaning.specs.faults.Checked.{CheckedGrammar, child_info}
use Rattle.ftl_meaning.specs.faults.Numbering.{child_at}
use Rattle.ftl_order.specs.orders.Lawful.{IsLawful}
use Rattle.ftl_regions.specs.hosts.Parents.{HasChildIn}
use Rattle.ftl_regions.proofs.hosts.ParentLaws.{child_found, child_low, none_found, none_more, tells_no, tells_yes}
use Rattle.ftl_regions.proofs.hosts.region_rows.Regions.has_child_in.Goals as goal

pub is_in-requires-clause-interface : goal.is_in-requires-clause-interface
is_in-requires-clause-interface c =
    let law = subst (λ (x : CheckedGrammar). IsLawful (meant x)) c.self.view_is c.self.invariant.lawful in
    let is =
    subst
    (λ (x : CheckedGrammar). c.child.result
    ≡ child_info x.grammar (child_at x.grammar c.args.class c.loop-child.child))
    c.self.view_is c.child.ensures.info in
    let within : c.loop-child.child < (meant c.args.self.now).child_count c.args.class =
    subst (λ (x : CheckedGrammar). c.loop-child.child < (meant x).child_count c.args.class) c.self.view_is
    (omega (arith, c.child_count-child-end.ensures.count, c.loop-child-test.true)) in
    child_low c.args.self.now law c.args.host c.args.class c.loop-child.child c.child.result c.requires.class within is

pub returns-then-is_in : goal.returns-then-is_in
returns-then-is_in c =
    let law = subst (λ (x : CheckedGrammar). IsLawful (meant x)) c.self.view_is c.self.invariant.lawful in
    let is =
    subst
    (λ (x : CheckedGrammar). c.child.result
    ≡ child_info x.grammar (child_at x.grammar c.args.class c.loop-child.child))
    c.self.view_is c.child.ensures.info in
    let within : c.loop-child.child < (meant c.args.self.now).child_count c.args.class =
    subst (λ (x : CheckedGrammar). c.loop-child.child < (meant x).child_count c.args.class) c.self.view_is
    (omega (arith, c.child_count-child-end.ensures.count, c.loop-child-test.true)) in
    record {
      child =
          tells_yes (HasChildIn (meant c.args.self.now) c.args.host c.args.class)
          (child_found c.args.self.now law c.args.host c.args.class c.loop-child.child c.child.result c.requires.class
          within is (c.is_in.ensures.region.0 c.if-is_in.true));
    }

pub loop-child-preserved : goal.loop-child-preserved
loop-child-preserved c =
    let law = subst (λ (x : CheckedGrammar). IsLawful (meant x)) c.self.view_is c.self.invariant.lawful in
    let is =
    subst
    (λ (x : CheckedGrammar). c.child.result
    ≡ child_info x.grammar (child_at x.grammar c.args.class c.loop-child.child))
    c.self.view_is c.child.ensures.info in
    let within : c.loop-child.child < (meant c.args.self.now).child_count c.args.class =
    subst (λ (x : CheckedGrammar). c.loop-child.child < (meant x).child_count c.args.class) c.self.view_is
    (omega (arith, c.child_count-child-end.ensures.count, c.loop-child-test.true)) in
    none_more c.args.self.now law c.args.host c.args.class c.loop-child.child c.child.result c.requires.class within is
    c.loop-child.invariant (λ inside. both_ways c.is_in.result c.if-is_in.false (c.is_in.ensures.region.1 inside))

pub returns : goal.returns
returns c =
    let all : (meant c.args.self.now).child_count c.args.class ≤ c.loop-child.child =
    subst (λ (x : CheckedGrammar). (meant x).child_count c.args.class ≤ c.loop-child.child) c.self.view_is
    (omega (arith, c.child_count-child-end.ensures.count, c.loop-child-test.false)) in
    record {
      child =
          tells_no (HasChildIn (meant c.args.self.now) c.args.host c.args.class)
          (none_found (meant c.args.self.now) c.args.host c.args.class c.loop-child.child all c.loop-child.invariant);
    }
