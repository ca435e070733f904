use Rattle.std.proofs.Common.{◌≡◌, ◌↔◌, ◌<◌, true, Some, Err, ap, ap₂, subst, sym, ◌∙◌}
use Rattle.ftl_deps.specs.reads.Meant.{meant}
use Rattle.ftl_meaning.specs.faults.Checked.{CheckedGrammar, attribute_named}
use Rattle.ftl_nests.specs.Region.{OfRegion}
use Rattle.ftl_nest_text.specs.names.RegionTests.{region_tests}
use Rattle.ftl_nest_text.proofs.names.CheckedTests.{inner_told, named_known, told}
use Rattle.ftl_nest_text.proofs.names.Sides.{on_other_side, on_told_side}
use Rattle.ftl_nest_text.proofs.names.inner.inner_number.Goals as goal

pub has_attribute-requires-clause-attribute : goal.has_attribute-requires-clause-attribute
has_attribute-requires-clause-attribute c =
    let checked = c.args.checked.now in
    let name = c.args.name.now in
    let is : attribute_named checked.grammar name.owner name.attr ≡ Some c.in-Some.attr =
    ap₂ (attribute_named checked.grammar) (sym c.text.ensures.text) (sym c.text-2.ensures.text)
    ∙ sym c.find_attribute.ensures.attribute ∙ c.in-Some.is in
    subst (λ (x : CheckedGrammar). c.in-Some.attr < (meant x).attribute_count) (sym c.requires.regions)
    (named_known checked name c.in-Some.attr is)

pub returns-then-has_attribute : goal.returns-then-has_attribute
returns-then-has_attribute c =
    let checked = c.args.checked.now in
    let name = c.args.name.now in
    let is : attribute_named checked.grammar name.owner name.attr ≡ Some c.in-Some.attr =
    ap₂ (attribute_named checked.grammar) (sym c.text.ensures.text) (sym c.text-2.ensures.text)
    ∙ sym c.find_attribute.ensures.attribute ∙ c.in-Some.is in
    let region : (c.has_attribute.result ≡ true) ↔ OfRegion (meant checked) c.args.host c.in-Some.attr =
    subst (λ (x : CheckedGrammar). (c.has_attribute.result ≡ true) ↔ OfRegion (meant x) c.args.host c.in-Some.attr)
    c.requires.regions c.has_attribute.ensures.region in
    record {
      exact =
          inner_told checked (region_tests (meant checked))
          (told checked c.grammar-lawful.ensures.lawful c.grammar-lawful.ensures.kinds) c.args.host name c.in-Some.attr
          c.has_attribute.result c.requires.host is region
          ∙ on_told_side c.has_attribute.result name c.in-Some.attr c.if-has_attribute.true;
    }

pub returns-in_ok-on_wrong_side : goal.returns-in_ok-on_wrong_side
returns-in_ok-on_wrong_side c =
    let checked = c.args.checked.now in
    let name = c.args.name.now in
    let is : attribute_named checked.grammar name.owner name.attr ≡ Some c.in-Some.attr =
    ap₂ (attribute_named checked.grammar) (sym c.text.ensures.text) (sym c.text-2.ensures.text)
    ∙ sym c.find_attribute.ensures.attribute ∙ c.in-Some.is in
    let region : (c.has_attribute.result ≡ true) ↔ OfRegion (meant checked) c.args.host c.in-Some.attr =
    subst (λ (x : CheckedGrammar). (c.has_attribute.result ≡ true) ↔ OfRegion (meant x) c.args.host c.in-Some.attr)
    c.requires.regions c.has_attribute.ensures.region in
    record {
      exact = λ other.
          inner_told checked (region_tests (meant checked))
          (told checked c.grammar-lawful.ensures.lawful c.grammar-lawful.ensures.kinds) c.args.host name c.in-Some.attr
          c.has_attribute.result c.requires.host is region
          ∙ on_other_side c.has_attribute.result name c.in-Some.attr c.if-has_attribute.false
          ∙ ap Err (sym c.in_ok-on_wrong_side.ensures.fault);
    }
