-- Which classes have children of the region of a host class.
use Rattle.std.specs.Prelude.{◌≡◌, ◌⊎◌, ℕ, ◌<◌}
use Rattle.ftl_model.specs.layout.AttributeGrammar.{AttributeGrammar}
use Rattle.ftl_nests.specs.Region.{HasChildOf, InRegion}

-- the class has a child of an interface of the region
abbrev pub HasChildIn : AttributeGrammar → (host class : ℕ) → Type 0
HasChildIn g host class = (i : ℕ) × HasChildOf g class i × InRegion g host i

-- if the class has one, it is the host, or of an interface of the region
abbrev pub IsRightParent : AttributeGrammar → (host class : ℕ) → Type 0
IsRightParent g host class =
    HasChildIn g host class → (class ≡ host) ⊎ InRegion g host (g.interface class)

-- so it is with each class
abbrev pub HasNoOtherParent : AttributeGrammar → (host : ℕ) → Type 0
HasNoOtherParent g host = (class : ℕ) → class < g.class_count → IsRightParent g host class
