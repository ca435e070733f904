-- The tests of the regions of a checked grammar, beside what calls tell of them.
use Rattle.std.proofs.Common.{◌≡◌, ◌↔◌, ℕ, ◌<◌, Bool, true, ◌∙◌, ap, arith}
use Rattle.std.proofs.Common.{List, length, get_or, Contains, Some, None, Ok, Err}
use Rattle.std.specs.Str.{bytes_eq}
use Rattle.std.proofs.lemmas.Bool.{false_from_ne_true}
use Rattle.std.proofs.lemmas.List.{length-map}
use Rattle.std.proofs.lemmas.List.Elements.{Contains-get_or}
use Rattle.ftl_base.specs.Widths.{greatest_of_width}
use Rattle.ftl_checked.proofs.lookup.Finding.{position_within}
use Rattle.ftl_deps.specs.reads.Meant.{meant}
use Rattle.ftl_grammar.specs.declared.syntax.rules.Class.{Class}
use Rattle.ftl_grammar.specs.syntax.Trees.{NameText}
use Rattle.ftl_meaning.specs.faults.Checked.{CheckedGrammar, attribute_named, class_named}
use Rattle.ftl_meaning.specs.faults.FirstFault.{first_fault}
use Rattle.ftl_meaning.specs.faults.Kinds.{HasKinds}
use Rattle.ftl_meaning.specs.faults.Numbering.{class_names}
use Rattle.ftl_meaning.proofs.lawful.Lawfulness.{faultless_lawful}
use Rattle.ftl_order.specs.orders.Lawful.{IsLawful}
use Rattle.ftl_nests.specs.Region.{IsClosed, OfRegion}
use Rattle.ftl_regions.specs.hosts.Sides.{HoldsOfEach, IsFirstWhere, IsOutside}
use Rattle.ftl_schedule.specs.declared.syntax.types.AttributeName.{AttributeName}
use Rattle.ftl_schedule.specs.declared.names.fault.ScheduleFault.TheVariants.{NestAttribute}
use Rattle.ftl_schedule.specs.names.Named.{attribute_number, each, number_or}
use Rattle.ftl_schedule.proofs.reading.ReadComputed.{each_gives, number_computed}
use Rattle.ftl_nest_text.specs.declared.syntax.types.WrittenNest.{WrittenNest}
use Rattle.ftl_nest_text.specs.names.RegionTests.{RegionTests, Tell, region_tests}
use Rattle.ftl_nest_text.specs.names.NestNamed.{closed_host, host_named, inner_number, on_side, outer_number, with_number}
use Rattle.ftl_nest_text.proofs.names.Sides.{all_outside, first_inside, same_told}
use Rattle.ftl_nest_text.proofs.names.TestLaws.{tests_tell}

-- the class of a name is one of the grammar
pub class_known : (c : CheckedGrammar) (name : NameText) (k : ℕ) → class_named c.grammar name ≡ Some k
    → k < (meant c).class_count
class_known c name k is =
    let within = position_within (bytes_eq name) (class_names c.grammar) k is in
    let many = length-map c.grammar.classes (λ (x : Class). x.name) in
    omega (arith, within, many)

-- so is the attribute that a name stands for
pub number_known : (c : CheckedGrammar) (x : AttributeName) (a : ℕ) → attribute_number c.grammar x ≡ Ok a
    → a < (meant c).attribute_count
number_known c x a is = (number_computed (greatest_of_width c.width) c.grammar x a is).0

pub named_known : (c : CheckedGrammar) (x : AttributeName) (a : ℕ)
    → attribute_named c.grammar x.owner x.attr ≡ Some a → a < (meant c).attribute_count
named_known c x a is = number_known c x a (ap (λ o. number_or o x) is)

pub numbers_known : (c : CheckedGrammar) (xs : List AttributeName) (ns : List ℕ)
    → each (attribute_number c.grammar) xs ≡ Ok ns → (a : ℕ) → Contains ns a → a < (meant c).attribute_count
numbers_known c xs ns is =
    each_gives (attribute_number c.grammar) (λ a. a < (meant c).attribute_count) (number_known c) xs ns is

module _ (c : CheckedGrammar) (tests : RegionTests) (tell : Tell (meant c) tests) where
  -- an attribute of an inner list, by what is told of it
  pub inner_told : (host : ℕ) (x : AttributeName) (a : ℕ) (told : Bool) → host < (meant c).class_count
      → attribute_named c.grammar x.owner x.attr ≡ Some a → (told ≡ true) ↔ OfRegion (meant c) host a
      → inner_number tests c.grammar host x ≡ on_side told x a
  inner_told host x a told known is tells =
      ap (λ o. with_number (λ b. on_side (tests.has host b) x b) (number_or o x)) is
      ∙ ap (λ b. on_side b x a) (same_told (tests.has host a) told (tell.region host a known (named_known c x a is)) tells)

  -- an own list with none of the region
  pub own_outside : (host : ℕ) (xs : List AttributeName) (ns : List ℕ) → host < (meant c).class_count
      → each (attribute_number c.grammar) xs ≡ Ok ns → HoldsOfEach (IsOutside (meant c) host) ns
      → each (outer_number tests c.grammar host) xs ≡ Ok ns
  own_outside host xs ns known is out =
      all_outside tests c.grammar host xs ns is
      (λ a there. false_from_ne_true (tests.has host a)
      (λ h. out a there ((tell.region host a known (numbers_known c xs ns is a there)).0 h)))

  -- an own list whose first of the region stands at this place
  pub first_told : (host : ℕ) (xs : List AttributeName) (ns : List ℕ) (d : AttributeName) (place : ℕ)
      → host < (meant c).class_count → each (attribute_number c.grammar) xs ≡ Ok ns
      → IsFirstWhere (IsOutside (meant c) host) (OfRegion (meant c) host) ns place
      → each (outer_number tests c.grammar host) xs
      ≡ Err (NestAttribute (get_or xs place d).owner (get_or xs place d).attr)
  first_told host xs ns d place known is first =
      first_inside tests c.grammar host xs ns d place is first.within
      ((tell.region host (get_or ns place 0) known (known_at place first.within)).1 first.here)
      (λ j less.
      let within : j < length ns = (let all = first.within in omega (arith, less, all)) in
      false_from_ne_true (tests.has host (get_or ns j 0))
      (λ h. first.before j less ((tell.region host (get_or ns j 0) known (known_at j within)).0 h)))
    where
      known_at : (j : ℕ) → j < length ns → get_or ns j 0 < (meant c).attribute_count
      known_at j within = numbers_known c xs ns is (get_or ns j 0) (Contains-get_or ns j 0 within)

  -- the host of a nest, by what is told of it
  pub host_told : (nest : WrittenNest) (host : ℕ) (told : Bool) → class_named c.grammar nest.host ≡ Some host
      → (told ≡ true) ↔ IsClosed (meant c) host
      → host_named tests c.grammar nest ≡ closed_host (record { is_closed = λ k. told; has = tests.has }) nest (Some host)
  host_told nest host told is tells =
      ap (closed_host tests nest) is
      ∙ ap (λ b. closed_host (record { is_closed = λ k. b; has = tests.has }) nest (Some host))
      (same_told (tests.is_closed host) told (tell.closed host (class_known c nest.host host is)) tells)

module _ (c : CheckedGrammar) (faults : first_fault c.grammar ≡ None) (kinds : HasKinds c.grammar) where
  pub lawful : IsLawful (meant c)
  lawful = faultless_lawful c.grammar c.width (record { faults = faults; kinds = kinds })

  pub told : Tell (meant c) (region_tests (meant c))
  told = tests_tell (meant c) lawful
