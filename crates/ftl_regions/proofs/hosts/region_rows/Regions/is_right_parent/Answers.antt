use Rattle.std.proofs.Common.{◌≡◌, ◌<◌, subst, sym}
use Rattle.std.proofs.lemmas.Bool.{both_ways}
use Rattle.ftl_deps.specs.reads.Meant.{meant}
use Rattle.ftl_meaning.specs.faults.Checked.{CheckedGrammar}
use Rattle.ftl_order.specs.orders.Lawful.{IsLawful}
use Rattle.ftl_regions.specs.hosts.Parents.{IsRightParent}
use Rattle.ftl_regions.proofs.hosts.ParentLaws.{right_by_region, right_without, tells_yes}
use Rattle.ftl_regions.proofs.hosts.region_rows.Regions.is_right_parent.Goals as goal

pub is_in-requires-clause-interface : goal.is_in-requires-clause-interface
is_in-requires-clause-interface c =
    let law = subst (λ (x : CheckedGrammar). IsLawful (meant x)) c.self.view_is c.self.invariant.lawful in
    let is =
    subst (λ (x : CheckedGrammar). c.interface_of.result ≡ (meant x).interface c.args.class) c.self.view_is
    c.interface_of.ensures.interface in
    subst (λ i. i < (meant c.args.self.now).interface_count) (sym is)
    (law.interfaces_known c.args.class c.requires.class)

pub returns-then-is_in : goal.returns-then-is_in
returns-then-is_in c =
    let is =
    subst (λ (x : CheckedGrammar). c.interface_of.result ≡ (meant x).interface c.args.class) c.self.view_is
    c.interface_of.ensures.interface in
    record {
      parent =
          tells_yes (IsRightParent (meant c.args.self.now) c.args.host c.args.class)
          (right_by_region (meant c.args.self.now) c.args.host c.args.class c.interface_of.result is
          (c.is_in.ensures.region.0 c.if-is_in.true));
    }

pub returns : goal.returns
returns c =
    let is =
    subst (λ (x : CheckedGrammar). c.interface_of.result ≡ (meant x).interface c.args.class) c.self.view_is
    c.interface_of.ensures.interface in
    record {
      parent =
          right_without (meant c.args.self.now) c.args.host c.args.class c.interface_of.result c.if-class-host.false is
          (λ inside. both_ways c.is_in.result c.if-is_in.false (c.is_in.ensures.region.1 inside)) c.has_child_in.result
          c.has_child_in.ensures.child;
    }
