use Rattle.std.proofs.Common.{◌<◌, length, subst, sym}
use Rattle.ftl_checked.proofs.lookup.AttrInfos.{attribute_count_is}
use Rattle.ftl_deps.specs.reads.Meant.{meant}
use Rattle.ftl_meaning.proofs.lawful.RequiredRules.{interface_known}
use Rattle.ftl_nests.specs.Region.{IsOwner}
use Rattle.ftl_regions.proofs.hosts.OwnerLaws.{added_known, added_owner, shared_known, shared_owner}
use Rattle.ftl_regions.proofs.hosts.region_rows.interface_with.Goals as goal

pub attr-info-requires : goal.attr-info-requires
attr-info-requires c = record {
  within = subst (λ n. c.args.attr < n) (sym (attribute_count_is c.args.checked.now.grammar)) c.requires.attribute;
}

pub interface_of-requires : goal.interface_of-requires
interface_of-requires c = record {
  within =
      added_known c.args.checked.now c.args.attr
      (subst (λ n. c.args.attr < n) (sym (attribute_count_is c.args.checked.now.grammar)) c.requires.attribute)
      c.attr-info.result c.attr-info.ensures.info c.if-info.true;
}

pub returns-then-info-clause-interface : goal.returns-then-info-clause-interface
returns-then-info-clause-interface c =
    let within =
    subst (λ n. c.args.attr < n) (sym (attribute_count_is c.args.checked.now.grammar)) c.requires.attribute in
    subst (λ i. i < length c.args.checked.now.grammar.interfaces) (sym c.interface_of.ensures.interface)
    (interface_known c.args.checked.now.grammar c.grammar-lawful.ensures.lawful c.attr-info.result.owner
    (added_known c.args.checked.now c.args.attr within c.attr-info.result c.attr-info.ensures.info c.if-info.true))

pub returns-then-info-clause-owner : goal.returns-then-info-clause-owner
returns-then-info-clause-owner c =
    let within =
    subst (λ n. c.args.attr < n) (sym (attribute_count_is c.args.checked.now.grammar)) c.requires.attribute in
    subst (λ i. IsOwner (meant c.args.checked.now) i c.args.attr) (sym c.interface_of.ensures.interface)
    (added_owner c.args.checked.now c.args.attr within c.attr-info.result c.attr-info.ensures.info c.if-info.true)

pub returns-else-info-clause-interface : goal.returns-else-info-clause-interface
returns-else-info-clause-interface c =
    let within =
    subst (λ n. c.args.attr < n) (sym (attribute_count_is c.args.checked.now.grammar)) c.requires.attribute in
    shared_known c.args.checked.now c.args.attr within c.attr-info.result c.attr-info.ensures.info c.if-info.false

pub returns-else-info-clause-owner : goal.returns-else-info-clause-owner
returns-else-info-clause-owner c =
    let within =
    subst (λ n. c.args.attr < n) (sym (attribute_count_is c.args.checked.now.grammar)) c.requires.attribute in
    shared_owner c.args.checked.now c.args.attr within c.attr-info.result c.attr-info.ensures.info c.if-info.false
