-- Closed nests and regions as tests.
use Rattle.std.specs.Prelude.{◌≡◌, ◌↔◌, ℕ, zero, suc, ◌<◌, ◌==◌, ◌&&◌, ◌||◌, Bool, true, not}
use Rattle.std.specs.List.{list_any, range_with_len}
use Rattle.ftl_model.specs.layout.AttributeGrammar.{AttributeGrammar}
use Rattle.ftl_model.specs.lists.Lists.{is_listed}
use Rattle.ftl_nests.specs.Region.{IsClosed, OfRegion}

-- whether a nest with this host is closed, and whether its region has an attribute
pub record RegionTests : Type 0 where
  pub is_closed : (host : ℕ) → Bool
  pub has : (host attribute : ℕ) → Bool

-- the tests are those of a grammar, for its classes and attributes
pub record Tell (g : AttributeGrammar) (tests : RegionTests) : Type 0 where
  pub closed : (host : ℕ) → host < g.class_count → (tests.is_closed host ≡ true) ↔ IsClosed g host
  pub region :
      (host a : ℕ) → host < g.class_count → a < g.attribute_count → (tests.has host a ≡ true) ↔ OfRegion g host a

-- ---- some tests of a grammar

-- whether the test holds of one of the first numbers
abbrev pub any_below : ℕ → (ℕ → Bool) → Bool
any_below count test = list_any test (range_with_len 0 count)

-- whether the class has a child of this interface
abbrev pub has_child : AttributeGrammar → (class interface : ℕ) → Bool
has_child g class i = any_below (g.child_count class) (λ c. g.child_interface class c == i)

-- whether a class of the one interface has a child of the other
abbrev pub is_step : AttributeGrammar → (above below : ℕ) → Bool
is_step g i j = any_below g.class_count (λ class. (g.interface class == i) && has_child g class j)

-- whether such steps lead from the one interface to the other, with none but these first interfaces between
abbrev pub leads : AttributeGrammar → (between above below : ℕ) → Bool
leads g zero i j = is_step g i j
leads g (suc n) i j = leads g n i j || (leads g n i n && leads g n n j)

-- whether the interface is one of the host's children, or is led to by one
abbrev pub is_in_region : AttributeGrammar → (host interface : ℕ) → Bool
is_in_region g host i =
    has_child g host i
    || any_below g.interface_count (λ first. has_child g host first && leads g g.interface_count first i)

-- whether the class is the host, or one of the region
abbrev pub may_have : AttributeGrammar → (host class : ℕ) → Bool
may_have g host class = (class == host) || is_in_region g host (g.interface class)

-- whether a class that may not has a child of the region
abbrev pub has_other_parent : AttributeGrammar → (host : ℕ) → Bool
has_other_parent g host =
    any_below g.class_count (λ class.
    not (may_have g host class)
    && any_below (g.child_count class) (λ c. is_in_region g host (g.child_interface class c)))

-- the region has neither the host's interface nor the root's, and no other class has a child of it
abbrev pub is_closed_host : AttributeGrammar → (host : ℕ) → Bool
is_closed_host g host =
    not (is_in_region g host (g.interface host))
    && (not (is_in_region g host g.root) && not (has_other_parent g host))

-- whether an interface of the region shares the attribute, or a class of one adds it
abbrev pub is_of_region : AttributeGrammar → (host attribute : ℕ) → Bool
is_of_region g host a =
    any_below g.interface_count (λ i. is_in_region g host i && is_listed (g.shared i) a)
    || any_below g.class_count (λ class. is_in_region g host (g.interface class) && is_listed (g.private class) a)

-- those tests
abbrev pub region_tests : AttributeGrammar → RegionTests
region_tests g = record { is_closed = is_closed_host g; has = is_of_region g }
