-- The rows of a tree by their numbers, one for each host class.
use Rattle.std.specs.Prelude.{◌≡◌, ℕ, ◌<◌, ◌==◌, Bool, true, false, List, ◌∷◌, length, map, slice_index_or, Option, None, Some}
use Rattle.std.specs.List.{All}
use Rattle.ftl_order.specs.orders.Schedule.{Pass}
use Rattle.ftl_items.specs.stage_items.Cut.{PassCut}
use Rattle.ftl_tree.specs.trees.CheckedTree.{CheckedTree}
use Rattle.ftl_cursors.specs.items.RowsCut.{cut_with, is_whole_in}
use Rattle.ftl_cursors.specs.declared.items.by_host.TreeRows.{TreeRows}
use Rattle.ftl_cursors.specs.declared.items.columns.ItemRows.{ItemRows}

-- the two are one class, or both none
abbrev pub is_one_host : (host other : Option ℕ) → Bool
is_one_host None None = true
is_one_host (Some a) (Some b) = a == b
is_one_host None (Some b) = false
is_one_host (Some a) None = false

-- the host classes, in order of number
abbrev pub hosts_of : TreeRows → List (Option ℕ)
hosts_of rows = map (λ (r : ItemRows). r.host) rows.by_host.items

-- the host class of a number
abbrev pub host_at : TreeRows → (number : ℕ) → Option ℕ
host_at rows n = slice_index_or (hosts_of rows) n None

-- those of passes, by the numbers of their rows
abbrev pub hosts_by : TreeRows → (numbers : List ℕ) → List (Option ℕ)
hosts_by rows numbers = map (host_at rows) numbers

-- how the pass of a number is cut, of a stage whose passes are these and have rows of these numbers
abbrev pub cut_in : TreeRows → List Pass → (numbers : List ℕ) → (pass : ℕ) → PassCut
cut_in rows passes numbers m = cut_with rows.tree.now.tree rows.grain passes (hosts_by rows numbers) m

-- there are rows of these numbers, one for each of so many passes
pub record AreNumbers (rows : TreeRows) (count : ℕ) (numbers : List ℕ) : Type 0 where
  pub count_is : length numbers ≡ count
  pub known : All (λ n. n < length rows.by_host.items) numbers

-- the rows are of this tree, with items of at most so many nodes but for the trees of hosts: those without a host class,
-- and then those for each of these classes
pub record AreMadeFor (t : CheckedTree) (grain : ℕ) (hosts : List ℕ) (rows : TreeRows) : Type 0 where
  pub tree : rows.tree.now ≡ t
  pub grain_is : rows.grain ≡ grain
  pub hosts_are : hosts_of rows ≡ None ∷ map Some hosts

-- the rows of the number are those for this host class
pub record IsNumberFor (rows : TreeRows) (host : Option ℕ) (number : ℕ) : Type 0 where
  pub known : number < length rows.by_host.items
  pub host_is : host_at rows number ≡ host

-- there are rows of these numbers, one for each of the host classes
pub record AreNumbersFor (rows : TreeRows) (hosts : List (Option ℕ)) (numbers : List ℕ) : Type 0 where
  pub numbers_are : AreNumbers rows (length hosts) numbers
  pub hosts_are : hosts_by rows numbers ≡ hosts

-- these are the rows of the number
pub record AreNumbered (rows : TreeRows) (number : ℕ) (found : ItemRows) : Type 0 where
  pub tree : found.tree.now ≡ rows.tree.now
  pub grain_is : found.grain ≡ rows.grain
  pub host_is : found.host ≡ host_at rows number

-- rows of the tree that are cut like this
pub record AreCutAs (rows : TreeRows) (cut : PassCut) (found : ItemRows) : Type 0 where
  pub tree : found.tree.now ≡ rows.tree.now
  pub whole : is_whole_in found ≡ cut.is_whole
