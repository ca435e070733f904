-- The region of a host class, and closed nests. They speak of the grammar and of no tree.
use Rattle.std.specs.Prelude.{◌≡◌, ◌⊎◌, ℕ, ◌<◌, List, [], ◌∷◌}
use Rattle.ftl_model.specs.layout.AttributeGrammar.{AttributeGrammar}
use Rattle.ftl_order.specs.orders.Lawful.{Owns, class_owner, interface_owner}

-- the class has a child of this interface
abbrev pub HasChildOf : AttributeGrammar → (class interface : ℕ) → Type 0
HasChildOf g class i = (c : ℕ) × (c < g.child_count class) × (g.child_interface class c ≡ i)

-- classes lead from the host class down to the interface, the last of them first: it is that of a child of the last
-- class, and the interface of each class is led to by those before
abbrev pub Leads : AttributeGrammar → (host : ℕ) → List ℕ → ℕ → Type 0
Leads g host [] i = HasChildOf g host i
Leads g host (class ∷ way) i =
    (class < g.class_count) × HasChildOf g class i × Leads g host way (g.interface class)

-- the least set of interfaces that has those of the host's children, and with an interface those of the children of all
-- its classes
abbrev pub InRegion : AttributeGrammar → (host interface : ℕ) → Type 0
InRegion g host i = (way : List ℕ) × Leads g host way i

-- an attribute of the interface, or one that a class of it adds
abbrev pub IsOwner : AttributeGrammar → (interface a : ℕ) → Type 0
IsOwner g i a =
    Owns g (interface_owner i) a ⊎ ((class : ℕ) × (g.interface class ≡ i) × Owns g (class_owner class) a)

-- an attribute of an interface of the region, or of a class of one
abbrev pub OfRegion : AttributeGrammar → (host a : ℕ) → Type 0
OfRegion g host a = (i : ℕ) × InRegion g host i × IsOwner g i a

-- a nest with this host is closed
pub record IsClosed (g : AttributeGrammar) (host : ℕ) : Type 0 where
  pub known : host < g.class_count
  pub host_outside : InRegion g host (g.interface host) → ⊥
  pub root_outside : InRegion g host g.root → ⊥
  pub no_other_parent :
      (class i : ℕ) → class < g.class_count → HasChildOf g class i → InRegion g host i
      → (class ≡ host) ⊎ InRegion g host (g.interface class)
