use Rattle.std.proofs.Common.{subst}
use Rattle.ftl_deps.specs.reads.Meant.{meant}
use Rattle.ftl_meaning.specs.faults.Checked.{CheckedGrammar}
use Rattle.ftl_nests.specs.Region.{IsOwner}
use Rattle.ftl_order.specs.orders.Lawful.{IsLawful}
use Rattle.ftl_regions.proofs.hosts.OwnerLaws.{owner_tells}
use Rattle.ftl_regions.proofs.hosts.region_rows.Regions.has_attribute.Goals as goal

pub returns : goal.returns
returns c =
    let law = subst (λ (x : CheckedGrammar). IsLawful (meant x)) c.self.view_is c.self.invariant.lawful in
    let owner =
    subst (λ (x : CheckedGrammar). IsOwner (meant x) c.interface_with-interface.result c.args.attr) c.self.view_is
    c.interface_with-interface.ensures.owner in
    let tells =
    owner_tells (meant c.args.self.now) law c.args.host c.interface_with-interface.result c.args.attr owner in
    record {
      region = ((λ e. tells.0 (c.is_in.ensures.region.0 e)), (λ of. c.is_in.ensures.region.1 (tells.1 of)));
    }
