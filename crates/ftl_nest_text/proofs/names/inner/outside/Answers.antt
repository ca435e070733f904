use Rattle.std.proofs.Common.{◌<◌, Err, ap, subst, sym, ◌∙◌, arith}
use Rattle.ftl_deps.specs.reads.Meant.{meant}
use Rattle.ftl_meaning.specs.faults.Checked.{CheckedGrammar}
use Rattle.ftl_nests.specs.Region.{OfRegion}
use Rattle.ftl_regions.specs.hosts.Sides.{HoldsOfEach, IsFirstWhere, IsOutside}
use Rattle.ftl_schedule.specs.names.Named.{attribute_number}
use Rattle.ftl_schedule.specs.declared.names.fault.ScheduleFault.TheVariants.{NestAttribute}
use Rattle.ftl_schedule.specs.declared.syntax.types.AttributeName.{AttributeName}
use Rattle.ftl_nest_text.specs.names.RegionTests.{region_tests}
use Rattle.ftl_nest_text.proofs.names.CheckedTests.{first_told, numbers_known, own_outside, told}
use Rattle.ftl_nest_text.proofs.names.Sides.{each_as_many}
use Rattle.ftl_nest_text.proofs.names.inner.outside.Goals as goal

-- the attributes are the grammar's
pub first_inside-requires-clause-attributes : goal.first_inside-requires-clause-attributes
first_inside-requires-clause-attributes c =
    λ a there.
    subst (λ (x : CheckedGrammar). a < (meant x).attribute_count) (sym c.requires.regions)
    (numbers_known c.args.checked.now c.args.names.now c.args.attrs.now c.requires.own a there)

-- there is a name for each
pub name_at-requires : goal.name_at-requires
name_at-requires c =
    let checked = c.args.checked.now in
    let many = each_as_many (attribute_number checked.grammar) c.args.names.now c.args.attrs.now c.requires.own in
    let within = c.in-Some.ensures.first.within in
    record { within = omega (arith, many, within) }

pub returns-in_ok-on_wrong_side-in-Some : goal.returns-in_ok-on_wrong_side-in-Some
returns-in_ok-on_wrong_side-in-Some c =
    let checked = c.args.checked.now in
    let first : IsFirstWhere (IsOutside (meant checked) c.args.host) (OfRegion (meant checked) c.args.host)
    c.args.attrs.now c.in-Some.place =
    subst (λ (x : CheckedGrammar). IsFirstWhere (IsOutside (meant x) c.args.host) (OfRegion (meant x) c.args.host)
    c.args.attrs.now c.in-Some.place) c.requires.regions c.in-Some.ensures.first in
    let name = c.name_at.result.now in
    record {
      exact = λ other.
          first_told checked (region_tests (meant checked))
          (told checked c.grammar-lawful.ensures.lawful c.grammar-lawful.ensures.kinds) c.args.host c.args.names.now
          c.args.attrs.now name c.in-Some.place c.requires.host c.requires.own first
          ∙ ap (λ (x : AttributeName). Err (NestAttribute x.owner x.attr)) (sym (c.name_at.ensures.name name))
          ∙ ap Err (sym c.in_ok-on_wrong_side-in-Some.ensures.fault);
    }

pub returns-in-None : goal.returns-in-None
returns-in-None c =
    let checked = c.args.checked.now in
    let out : HoldsOfEach (IsOutside (meant checked) c.args.host) c.args.attrs.now =
    subst (λ (x : CheckedGrammar). HoldsOfEach (IsOutside (meant x) c.args.host) c.args.attrs.now) c.requires.regions
    c.in-None.ensures.first in
    record {
      exact =
          own_outside checked (region_tests (meant checked))
          (told checked c.grammar-lawful.ensures.lawful c.grammar-lawful.ensures.kinds) c.args.host c.args.names.now
          c.args.attrs.now c.requires.host c.requires.own out;
    }
