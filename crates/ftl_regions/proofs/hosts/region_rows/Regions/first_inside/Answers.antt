use Rattle.std.proofs.Common.{arith, get_or}
use Rattle.std.proofs.lemmas.Bool.{both_ways}
use Rattle.std.proofs.lemmas.List.Elements.{Contains-get_or}
use Rattle.ftl_deps.specs.reads.Meant.{meant}
use Rattle.ftl_regions.specs.hosts.Sides.{IsOutside}
use Rattle.ftl_regions.proofs.hosts.SideLaws.{each_more, each_of}
use Rattle.ftl_regions.proofs.hosts.region_rows.Regions.first_inside.Goals as goal

pub has_attribute-requires-clause-attribute : goal.has_attribute-requires-clause-attribute
has_attribute-requires-clause-attribute c =
    c.requires.attributes (get_or c.args.attrs.now c.loop-place.place 0)
    (Contains-get_or c.args.attrs.now c.loop-place.place 0 (omega (arith, c.loop-place-test.true)))

pub returns-then-has_attribute : goal.returns-then-has_attribute
returns-then-has_attribute c = record {
  first = record {
    within = omega (arith, c.loop-place-test.true);
    here = c.has_attribute.ensures.region.0 c.if-has_attribute.true;
    before = c.loop-place.invariant;
  };
}

pub loop-place-preserved : goal.loop-place-preserved
loop-place-preserved c =
    each_more (IsOutside (meant c.args.self.now) c.args.host) c.args.attrs.now c.loop-place.place c.loop-place.invariant
    (λ inside. both_ways c.has_attribute.result c.if-has_attribute.false (c.has_attribute.ensures.region.1 inside))

pub returns : goal.returns
returns c = record {
  first =
      each_of (IsOutside (meant c.args.self.now) c.args.host) c.args.attrs.now c.loop-place.place
      (omega (arith, c.loop-place-test.false)) c.loop-place.invariant;
}
