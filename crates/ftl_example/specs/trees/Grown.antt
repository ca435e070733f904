-- The tree that is built for what is wanted: a class is chosen, and then kid after kid, child by child.
use Rattle.std.specs.Prelude.{◌≡◌, ℕ, zero, suc, ◌==◌, ◌&&◌, Bool, true, false, if◌then◌else◌, List, [], ◌∷◌, Option, None, Some}
use Rattle.ftl_model.specs.layout.AttributeGrammar.{AttributeGrammar}
use Rattle.ftl_model.specs.layout.Tree.{Forest, none, size, tree}
use Rattle.ftl_model.specs.layout.TreeOf.{IsTreeIn}
use Rattle.ftl_order.specs.orders.Lawful.{IsLawful}
use Rattle.ftl_example.specs.shows.Bare.{IsBare, bare_inputs}
use Rattle.ftl_example.specs.sizes.Least.{class_size, least}
use Rattle.ftl_example.specs.sizes.Place.{singles_alone}

-- the class for what is wanted of an interface, and the kids in each child
pub record Choices (W : Type 0) : Type 0 where
  pub class_for : W → (interface : ℕ) → ℕ
  pub kids_for : W → (interface child : ℕ) → List W

-- these kids in child c, and then the rest
abbrev pub kids_from : {W : Type 0} → AttributeGrammar → (W → ℕ → ℕ × Forest) → (interface child : ℕ) → List W → Forest
    → Forest
kids_from g pick i c [] rest = rest
kids_from g pick i c (x ∷ xs) rest =
    tree (pick x i).0 c (bare_inputs g (pick x i).0) (pick x i).1 (kids_from g pick i c xs rest)

-- the kids in so many children, from child c on
abbrev pub children_from : {W : Type 0} → AttributeGrammar → (W → ℕ → ℕ × Forest) → (ℕ → List W) → (class child count : ℕ)
    → Forest
children_from g pick wants k c zero = none
children_from g pick wants k c (suc m) =
    kids_from g pick (g.child_interface k c) c (wants c) (children_from g pick wants k (suc c) m)

-- a node with what stands below it, by at most so many steps into the depth
abbrev pub grown : {W : Type 0} → AttributeGrammar → Choices W → (steps : ℕ) → W → (interface : ℕ) → ℕ × Forest
grown g ch zero w i = (0, none)
grown g ch (suc f) w i =
    (ch.class_for w i, children_from g (grown g ch f) (ch.kids_for w i) (ch.class_for w i) 0 (g.child_count (ch.class_for w i)))

-- ---- least trees of interfaces

-- whether two sizes are the same
abbrev pub is_size : Option ℕ → Option ℕ → Bool
is_size None None = true
is_size None (Some n) = false
is_size (Some m) None = false
is_size (Some m) (Some n) = m == n

-- the last class before the n-th that is of the interface and has its least size; 0 where there is none
abbrev pub least_class : AttributeGrammar → (sizes : ℕ → Option ℕ) → (interface n : ℕ) → ℕ
least_class g sizes i zero = 0
least_class g sizes i (suc n) =
    if (g.interface n == i) && is_size (class_size g sizes n) (sizes i) then n else least_class g sizes i n

-- the choices for a least tree, by the sizes of all interfaces
abbrev pub least_choices : AttributeGrammar → (sizes : ℕ → Option ℕ) → Choices (Unit {0})
least_choices g sizes =
    record {
      class_for = λ w i. least_class g sizes i g.class_count;
      kids_for = λ w i c. singles_alone g tt (least_class g sizes i g.class_count) c;
    }

-- by the last table: the tree of an interface that is built so is a least one
abbrev pub GrowsLeastTrees : Type 0
GrowsLeastTrees =
    (g : AttributeGrammar) (i n : ℕ) → IsLawful g → least g g.interface_count i ≡ Some n
    → let node = grown g (least_choices g (least g g.interface_count)) n tt i in
    let t = tree node.0 0 (bare_inputs g node.0) node.1 none in
    IsTreeIn g i t × IsBare g t × (size t ≡ n)
