-- The columns from which the numbers of items are told.
use Rattle.std.specs.Prelude.{◌≡◌, ℕ, suc, ◌≤◌, Bool, true, List, map}
use Rattle.std.specs.List.{range_with_len}
use Rattle.ftl_items.specs.stage_items.Cut.{PassCut, begins_by}
use Rattle.ftl_model.specs.layout.Path.{Path, down, number_of, top}
use Rattle.ftl_model.specs.layout.Tree.{Forest, size}
use Rattle.ftl_items.specs.numbers.ItemNumbers.{first_nodes_by, items_before_by, start_by}

-- the numbers of the nodes at which items begin, in preorder, and of each node how many begin before it
pub record AreItemRows (is_whole : Path → Bool) (t : Forest) (firsts before : List ℕ) : Type 0 where
  pub firsts_are : firsts ≡ map (number_of t) (first_nodes_by is_whole t)
  pub before_are : before ≡ map (items_before_by is_whole t) (range_with_len 0 (size t))

-- how many items come before each of so many passes, and how many there are in all
pub record AreStarts (count : ℕ) (cuts : ℕ → PassCut) (t : Forest) (starts : List ℕ) : Type 0 where
  pub starts_are : starts ≡ map (start_by cuts t) (range_with_len 0 (suc count))
  pub few : count ≤ 2048

-- a node has a parent, at which an item begins
abbrev pub IsBegunBelow : (is_whole : Path → Bool) → Path → Type 0
IsBegunBelow is_whole top = ⊥
IsBegunBelow is_whole (down child kid above) = begins_by is_whole above ≡ true
