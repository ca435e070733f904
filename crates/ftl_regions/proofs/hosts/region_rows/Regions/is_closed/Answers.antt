use Rattle.std.proofs.Common.{◌≡◌, ◌<◌, subst, sym}
use Rattle.std.proofs.lemmas.Bool.{both_ways}
use Rattle.ftl_deps.specs.reads.Meant.{meant}
use Rattle.ftl_meaning.specs.faults.Checked.{CheckedGrammar}
use Rattle.ftl_order.specs.orders.Lawful.{IsLawful}
use Rattle.ftl_regions.proofs.hosts.ParentLaws.{closed_by_parents, open_by_host}
use Rattle.ftl_regions.proofs.hosts.region_rows.Regions.is_closed.Goals as goal

pub is_in-requires-clause-interface : goal.is_in-requires-clause-interface
is_in-requires-clause-interface c =
    let law = subst (λ (x : CheckedGrammar). IsLawful (meant x)) c.self.view_is c.self.invariant.lawful in
    let is =
    subst (λ (x : CheckedGrammar). c.interface_of.result ≡ (meant x).interface c.args.host) c.self.view_is
    c.interface_of.ensures.interface in
    subst (λ i. i < (meant c.args.self.now).interface_count) (sym is) (law.interfaces_known c.args.host c.requires.host)

pub returns-then-is_in : goal.returns-then-is_in
returns-then-is_in c =
    let is =
    subst (λ (x : CheckedGrammar). c.interface_of.result ≡ (meant x).interface c.args.host) c.self.view_is
    c.interface_of.ensures.interface in
    record {
      closed =
          open_by_host (meant c.args.self.now) c.args.host c.interface_of.result is
          (c.is_in.ensures.region.0 c.if-is_in.true);
    }

pub returns : goal.returns
returns c =
    let is =
    subst (λ (x : CheckedGrammar). c.interface_of.result ≡ (meant x).interface c.args.host) c.self.view_is
    c.interface_of.ensures.interface in
    let root =
    subst (λ (x : CheckedGrammar). c.root.result ≡ (meant x).root) c.self.view_is c.root.ensures.root in
    record {
      closed =
          closed_by_parents (meant c.args.self.now) c.args.host c.requires.host c.interface_of.result c.root.result is
          root
          (λ inside. both_ways c.is_in.result c.if-is_in.false (c.is_in.ensures.region.1 inside))
          (λ inside. both_ways c.is_in-2.result c.if-is_in-2.false (c.is_in-2.ensures.region.1 inside))
          c.has_no_other_parent.result c.has_no_other_parent.ensures.parents;
    }
