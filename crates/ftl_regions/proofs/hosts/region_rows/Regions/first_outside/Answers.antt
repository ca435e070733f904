use Rattle.std.proofs.Common.{arith, get_or}
use Rattle.std.proofs.lemmas.List.Elements.{Contains-get_or}
use Rattle.ftl_deps.specs.reads.Meant.{meant}
use Rattle.ftl_nests.specs.Region.{OfRegion}
use Rattle.ftl_regions.proofs.hosts.SideLaws.{each_more, each_of}
use Rattle.ftl_regions.proofs.hosts.region_rows.Regions.first_outside.Goals as goal

pub has_attribute-requires-clause-attribute : goal.has_attribute-requires-clause-attribute
has_attribute-requires-clause-attribute c =
    c.requires.attributes (get_or c.args.attrs.now c.loop-place.place 0)
    (Contains-get_or c.args.attrs.now c.loop-place.place 0 (omega (arith, c.loop-place-test.true)))

pub loop-place-preserved : goal.loop-place-preserved
loop-place-preserved c =
    each_more (OfRegion (meant c.args.self.now) c.args.host) c.args.attrs.now c.loop-place.place c.loop-place.invariant
    (c.has_attribute.ensures.region.0 c.if-not-has_attribute.false)

pub returns : goal.returns
returns c = record {
  first =
      each_of (OfRegion (meant c.args.self.now) c.args.host) c.args.attrs.now c.loop-place.place
      (omega (arith, c.loop-place-test.false)) c.loop-place.invariant;
}
