-- Which trees are one item.
use Rattle.std.specs.Prelude.{ℕ, ◌==◌, Bool, true, if◌then◌else◌, Option, None, Some}
use Rattle.ftl_model.specs.layout.Path.{Path, class_at}
use Rattle.ftl_model.specs.layout.Tree.{Forest}
use Rattle.ftl_items.specs.stage_items.Cut.{is_small}

-- the tree at a node is one item: it is small, or the node is of the host class, where there is one
abbrev pub is_whole_at : (host : Option ℕ) → Forest → (grain : ℕ) → Path → Bool
is_whole_at None t grain p = is_small t grain p
is_whole_at (Some class) t grain p = if is_small t grain p then true else class_at t p == class
