-- The pairs that a search has found.
use Rattle.std.specs.Prelude.{◌≡◌, ℕ, ◌<◌, ◌≤◌, true, List, [], length, slice_index, slice_index_or, Contains}
use Rattle.ftl_model.specs.layout.AttributeGrammar.{AttributeGrammar, inherited, synthesized}
use Rattle.lane_rows.specs.Matrix.{entry}
use Rattle.ftl_noncircular.specs.walks.WalkTables.{IsFrom, WalkTable}
use Rattle.ftl_noncircular.specs.grammars.Noncircular.{Dependence, of_child}
use Rattle.ftl_noncircular.specs.declared.search.pair_list.PairList.{PairList}
use Rattle.ftl_noncircular.specs.declared.search.pair_list.Pair.{Pair}
use Rattle.ftl_noncircular.specs.declared.search.shape.Shape.{Shape}
use Rattle.ftl_noncircular.specs.search.Numbers.{number}
use Rattle.ftl_noncircular.specs.search.Searches.{AreNoted, HasReads, Rows}
use Rattle.ftl_noncircular.specs.search.Shapes.{inherited_of, synthesized_of}

abbrev pub pair_at : List Pair → (place : ℕ) → Pair
pair_at pairs j = slice_index_or pairs j (record { interface = 0; from = 0; to = 0 })

-- an inherited and a synthesized attribute of the interface, and the second may depend on the first
pub record IsPair (g : AttributeGrammar) (p : Pair) : Type 0 where
  pub known : p.interface < g.interface_count
  pub from : Contains (g.shared p.interface) p.from
  pub from_sort : g.sort p.from ≡ inherited
  pub to : Contains (g.shared p.interface) p.to
  pub to_sort : g.sort p.to ≡ synthesized
  pub depends : Dependence g p.from p.to

-- this pair is in the list
abbrev pub IsListed : List Pair → (from to : ℕ) → Type 0
IsListed pairs a b = (j : ℕ) × (j < length pairs) × ((pair_at pairs j).from ≡ a) × ((pair_at pairs j).to ≡ b)

-- the matrix and the list have the same pairs
pub record IsPairListOf (g : AttributeGrammar) (f : PairList) : Type 0 where
  pub size : length f.has ≡ g.attribute_count
  pub listed : (a b : ℕ) → entry f.has a b ≡ true → IsListed f.pairs.items a b
  pub pairs : (j : ℕ) → j < length f.pairs.items → IsPair g (pair_at f.pairs.items j)

-- pairs were added at the end alone
pub record IsLonger (before now : PairList) : Type 0 where
  pub kept : (a b : ℕ) → entry before.has a b ≡ true → entry now.has a b ≡ true
  pub count : length before.pairs.items ≤ length now.pairs.items
  pub same :
      (j : ℕ) → j < length before.pairs.items → pair_at now.pairs.items j ≡ pair_at before.pairs.items j

-- walks start at the inherited attributes of the class's interface
pub record StartAtPorts (g : AttributeGrammar) (s : Shape) (class : ℕ) (starts : List ℕ) : Type 0 where
  pub count : length starts ≡ length (inherited_of s (g.interface class))
  pub each :
      (j : ℕ) → j < length starts
      → slice_index starts j ≡ slice_index s.places (slice_index (inherited_of s (g.interface class)) j)

-- what walks lead to from this start was found, of the first so many synthesized attributes
abbrev pub IsNotedFrom : AttributeGrammar → Shape → (class : ℕ) → WalkTable → (found : Rows) → (start count : ℕ)
    → Type 0
IsNotedFrom g s class w found j count =
    (m : ℕ) → m < count → m < length (synthesized_of s (g.interface class))
    → IsFrom w.edges (slice_index w.starts j)
    (slice_index s.places (slice_index (synthesized_of s (g.interface class)) m))
    → entry found (slice_index (inherited_of s (g.interface class)) j)
    (slice_index (synthesized_of s (g.interface class)) m)
    ≡ true

-- the walks of a class before its pairs are found
pub record AreWalksOf (g : AttributeGrammar) (s : Shape) (class : ℕ) (w : WalkTable) : Type 0 where
  pub starts : StartAtPorts g s class w.starts
  pub edges : HasReads g s.places true class w.edges

-- each pair that they show was found
pub record AreSearched (g : AttributeGrammar) (s : Shape) (found : Rows) (class : ℕ) (w : WalkTable) : Type 0 where
  pub walks : AreWalksOf g s class w
  pub noted : AreNoted g s.places class w.edges found

-- the pair has its edge in the children of its interface below this one
abbrev pub HasPairBelow : AttributeGrammar → Shape → Rows → (class : ℕ) → Pair → (count : ℕ) → Type 0
HasPairBelow g s edges k p count =
    (c : ℕ) → c < count → c < g.child_count k → g.child_interface k c ≡ p.interface
    → entry edges (number s.places (of_child c p.from)) (number s.places (of_child c p.to)) ≡ true

-- and in all children
abbrev pub HasPair : AttributeGrammar → Shape → Rows → (class : ℕ) → Pair → Type 0
HasPair g s edges k p = HasPairBelow g s edges k p (g.child_count k)

-- no walks
abbrev pub no_walks : WalkTable
no_walks = record { edges = []; starts = [] }

-- no entry is lost
abbrev pub KeepsEntries : (before now : Rows) → Type 0
KeepsEntries before now = (a b : ℕ) → entry before a b ≡ true → entry now a b ≡ true

-- the walks of all classes
pub record AreAllWalks (g : AttributeGrammar) (s : Shape) (classes : List WalkTable) : Type 0 where
  pub count : length classes ≡ g.class_count
  pub each : (k : ℕ) → k < g.class_count → AreWalksOf g s k (slice_index_or classes k no_walks)

-- what the walks of all classes show was found, and the first so many pairs of the list have their edges in all of them
pub record AreSearchedTo (g : AttributeGrammar) (s : Shape) (classes : List WalkTable) (f : PairList) (next : ℕ) :
    Type 0 where
  pub count : length classes ≡ g.class_count
  pub each : (k : ℕ) → k < g.class_count → AreSearched g s f.has k (slice_index_or classes k no_walks)
  pub found : IsPairListOf g f
  pub within : next ≤ length f.pairs.items
  pub put :
      (j : ℕ) → j < next → (k : ℕ) → k < g.class_count
      → HasPair g s (slice_index_or classes k no_walks).edges k (pair_at f.pairs.items j)
