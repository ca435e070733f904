-- The tables of a grammar by which circular vertices are searched.
use Rattle.std.specs.Prelude.{◌≡◌, ◌↔◌, ℕ, ◌<◌, ◌≤◌, Bool, true, false, List, [], length, slice_index, slice_index_or}
use Rattle.std.specs.Prelude.{Contains}
use Rattle.ftl_model.specs.layout.AttributeGrammar.{AttributeGrammar, Sort, inherited, synthesized}
use Rattle.ftl_noncircular.specs.declared.search.shape.Kid.{Kid}
use Rattle.ftl_noncircular.specs.declared.search.shape.Owner.{Owner}
use Rattle.ftl_noncircular.specs.declared.search.shape.Shape.{Shape}
use Rattle.ftl_noncircular.specs.search.Numbers.{ArePlaces}

-- the attribute's owner is the class of this number, or the interface
abbrev pub IsOwner : (of_class : Bool) → (number : ℕ) → Owner → Type 0
IsOwner of_class number o = (o.of_class ≡ of_class) × (o.number ≡ number)

abbrev pub owner_at : Shape → (attribute : ℕ) → Owner
owner_at s a = slice_index_or s.owners a (record { of_class = false; number = 0 })

-- the children of a class
abbrev pub kids_of : Shape → (class : ℕ) → List Kid
kids_of s k = slice_index_or s.kids k []

abbrev pub kid_at : Shape → (class child : ℕ) → Kid
kid_at s k c = slice_index_or (kids_of s k) c (record { interface = 0; many = false })

-- the inherited and the synthesized attributes of an interface
abbrev pub inherited_of : Shape → (interface : ℕ) → List ℕ
inherited_of s i = slice_index_or s.inherited i []

abbrev pub synthesized_of : Shape → (interface : ℕ) → List ℕ
synthesized_of s i = slice_index_or s.synthesized i []

-- these are the attributes of this sort of an interface
pub record ArePorts (g : AttributeGrammar) (i : ℕ) (sort : Sort) (ports : List ℕ) : Type 0 where
  pub are : (j : ℕ) → j < length ports → Contains (g.shared i) (slice_index ports j)
      × (g.sort (slice_index ports j) ≡ sort)
  pub have :
      (a : ℕ) → Contains (g.shared i) a → g.sort a ≡ sort
      → (j : ℕ) × (j < length ports) × (slice_index ports j ≡ a)

-- the attributes with their places and owners
pub record AreAttributes (g : AttributeGrammar) (s : Shape) : Type 0 where
  pub few : g.attribute_count ≤ 2048
  pub places_count : length s.places ≡ g.attribute_count
  pub places : ArePlaces g s.places
  pub owners_count : length s.owners ≡ g.attribute_count
  pub shared_known : (i a : ℕ) → i < g.interface_count → Contains (g.shared i) a → a < g.attribute_count
  pub private_known : (k a : ℕ) → k < g.class_count → Contains (g.private k) a → a < g.attribute_count
  pub shared :
      (i a : ℕ) → i < g.interface_count → a < g.attribute_count
      → Contains (g.shared i) a ↔ IsOwner false i (owner_at s a)
  pub private :
      (k a : ℕ) → k < g.class_count → a < g.attribute_count
      → Contains (g.private k) a ↔ IsOwner true k (owner_at s a)

-- the interfaces with their inherited and synthesized attributes
pub record AreInterfaces (g : AttributeGrammar) (s : Shape) : Type 0 where
  pub inherited_count : length s.inherited ≡ g.interface_count
  pub inherited : (i : ℕ) → i < g.interface_count → ArePorts g i inherited (inherited_of s i)
  pub synthesized_count : length s.synthesized ≡ g.interface_count
  pub synthesized : (i : ℕ) → i < g.interface_count → ArePorts g i synthesized (synthesized_of s i)

-- the classes with their interfaces and children
pub record AreClasses (g : AttributeGrammar) (s : Shape) : Type 0 where
  pub few : g.class_count ≤ 128
  pub interfaces_count : length s.interfaces ≡ g.class_count
  pub interfaces : (k : ℕ) → k < g.class_count → slice_index s.interfaces k ≡ g.interface k
  pub interfaces_known : (k : ℕ) → k < g.class_count → g.interface k < g.interface_count
  pub kids_count : length s.kids ≡ g.class_count
  pub child_count : (k : ℕ) → k < g.class_count → length (kids_of s k) ≡ g.child_count k
  pub children_few : (k : ℕ) → k < g.class_count → g.child_count k ≤ 16
  pub child_interface :
      (k c : ℕ) → k < g.class_count → c < g.child_count k → (kid_at s k c).interface ≡ g.child_interface k c
  pub many : (k c : ℕ) → k < g.class_count → c < g.child_count k → (kid_at s k c).many ≡ g.is_list k c
  pub children_known : (k c : ℕ) → k < g.class_count → c < g.child_count k → g.child_interface k c < g.interface_count

-- these are the tables of the grammar
pub record IsShapeOf (g : AttributeGrammar) (s : Shape) : Type 0 where
  pub attributes : AreAttributes g s
  pub ports : AreInterfaces g s
  pub classes : AreClasses g s
