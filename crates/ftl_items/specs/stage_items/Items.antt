-- The items of a stage: pass by pass, with their steps, and the items that each hands on to.
use Rattle.std.specs.Prelude.{ℕ, ◌==◌, ◌&&◌, Bool, true, false, List, [], filter, flat_map, length, map, reverse}
use Rattle.std.specs.Prelude.{slice_index_or}
use Rattle.std.specs.List.{range_with_len}
use Rattle.ftl_model.specs.layout.AttributeGrammar.{AttributeGrammar}
use Rattle.ftl_model.specs.layout.Path.{Path, down, top}
use Rattle.ftl_model.specs.layout.Solves.{Instance}
use Rattle.ftl_model.specs.layout.Tree.{Forest}
use Rattle.ftl_order.specs.orders.Schedule.{Pass, PassKind, Schedule, SchedulePlace, bottomup, empty_pass, inorder}
use Rattle.ftl_order.specs.orders.Schedule.{placing_of, topdown}
use Rattle.ftl_order.specs.orders.Sequence.{sequence}
use Rattle.ftl_items.specs.stage_items.Cut.{PassCut, is_small, nodes_by, starts}
use Rattle.ftl_items.specs.stage_items.Visits.{visit}

-- an item: the number of its pass in the stage, and the node at which it begins
pub record Item : Type 0 where
  pub pass : ℕ
  pub first : Path

-- an item of this pass
abbrev pub item : (pass : ℕ) → Path → Item
item pass p = record { pass = pass; first = p }

-- no item of a tree
abbrev pub no_item : Item
no_item = item 0 top

-- the items of a pass, where the passes of a stage are cut so
abbrev pub items_of_cut : (cuts : ℕ → PassCut) → Forest → (pass : ℕ) → List Item
items_of_cut cuts t m = map (item m) (starts cuts t m)

-- the items of a stage of so many passes, in order of number
abbrev pub items_by : (count : ℕ) → (cuts : ℕ → PassCut) → Forest → List Item
items_by count cuts t = flat_map (items_of_cut cuts t) (range_with_len 0 count)

-- the kinds of its passes
abbrev pub kinds_of : (cuts : ℕ → PassCut) → (pass : ℕ) → PassKind
kinds_of cuts m = (cuts m).kind

-- the passes of a stage
abbrev pub passes_of : Schedule → (stage : ℕ) → List Pass
passes_of s stage = slice_index_or s stage []

-- the pass of this number
abbrev pub pass_in : List Pass → ℕ → Pass
pass_in passes m = slice_index_or passes m empty_pass

-- how the pass of this number is cut: small trees are one item
abbrev pub cut_of : List Pass → Forest → (grain pass : ℕ) → PassCut
cut_of passes t grain m = record { kind = (pass_in passes m).kind; is_whole = is_small t grain }

-- the items of a pass
abbrev pub items_of_pass : List Pass → Forest → (grain pass : ℕ) → List Item
items_of_pass passes t grain m = items_of_cut (cut_of passes t grain) t m

-- the items of a stage, in order of number
abbrev pub items : List Pass → Forest → (grain : ℕ) → List Item
items passes t grain = items_by (length passes) (cut_of passes t grain) t

-- ---- steps

-- a pass on a tree: how it is cut, the steps of a visit, and for an inorder pass all its steps
pub record PassForm : Type 0 where
  pub cut : PassCut
  pub visit : Path → List Instance
  pub sequence : List Instance

-- how the passes of a stage are cut that have these forms
abbrev pub cuts_of : (forms : ℕ → PassForm) → (pass : ℕ) → PassCut
cuts_of forms m = (forms m).cut

-- the steps of the item that begins at a node, in a pass of this kind: its visits in preorder, in reverse preorder, or
-- the sequence
abbrev pub form_steps : PassKind → PassForm → Forest → Path → List Instance
form_steps topdown form t p = flat_map form.visit (nodes_by form.cut.is_whole t p)
form_steps bottomup form t p = flat_map form.visit (reverse (nodes_by form.cut.is_whole t p))
form_steps inorder form t p = form.sequence

-- the steps of an item of a stage whose passes have these forms, in order
abbrev pub item_steps : (forms : ℕ → PassForm) → Forest → Item → List Instance
item_steps forms t x = form_steps (forms x.pass).cut.kind (forms x.pass) t x.first

-- the place of an inorder pass: its stage, and its number there
abbrev pub pass_place : (stage pass : ℕ) → SchedulePlace
pass_place stage pass = record { stage = stage; pass = pass; kind = inorder; index = 0 }

-- the form of a pass of this kind with this list
abbrev pub form_with : AttributeGrammar → Schedule → (stage : ℕ) → Forest → (grain : ℕ) → PassKind → List ℕ
    → (pass : ℕ) → PassForm
form_with g s stage t grain kind attributes m =
    record {
      cut = record { kind = kind; is_whole = is_small t grain };
      visit = visit g t attributes;
      sequence = sequence g (placing_of s) (pass_place stage m) t;
    }

-- the form of the pass of a number in a stage
abbrev pub form_of : AttributeGrammar → Schedule → (stage : ℕ) → Forest → (grain pass : ℕ) → PassForm
form_of g s stage t grain m =
    form_with g s stage t grain (pass_in (passes_of s stage) m).kind (pass_in (passes_of s stage) m).attributes m

-- the steps of an item of a pass of this kind
abbrev pub steps_by : AttributeGrammar → Schedule → (stage : ℕ) → Forest → (grain : ℕ) → PassKind → List ℕ → Item
    → List Instance
steps_by g s stage t grain kind attributes x =
    form_steps kind (form_with g s stage t grain kind attributes x.pass) t x.first

-- the steps of an item of a stage, in order
abbrev pub steps_of_item : AttributeGrammar → Schedule → (stage : ℕ) → Forest → (grain : ℕ) → Item → List Instance
steps_of_item g s stage t grain x = item_steps (form_of g s stage t grain) t x

-- ---- the items that come next

-- two ways up that are one
abbrev pub is_same_node : Path → Path → Bool
is_same_node top top = true
is_same_node top (down child kid above) = false
is_same_node (down child kid above) top = false
is_same_node (down c k p) (down child kid above) = (c == child) && ((k == kid) && is_same_node p above)

-- the first is the parent of the second
abbrev pub is_parent : Path → Path → Bool
is_parent p top = false
is_parent p (down child kid above) = is_same_node p above

-- An item that begins at p hands on to one that begins at q: in a topdown pass to those that begin at its node's kids,
-- in a bottomup pass to the one that begins at its first node's parent.
abbrev pub hands_on : PassKind → (p q : Path) → Bool
hands_on topdown p q = is_parent p q
hands_on bottomup p q = is_parent q p
hands_on inorder p q = false

-- the first item hands on to the second, where the passes of the stage are of these kinds
abbrev pub is_next_by : (kinds : ℕ → PassKind) → Item → Item → Bool
is_next_by kinds x y = (x.pass == y.pass) && hands_on (kinds x.pass) x.first y.first

-- the numbers of the items that the item of this number hands on to, in order
abbrev pub nexts_by : (kinds : ℕ → PassKind) → List Item → ℕ → List ℕ
nexts_by kinds xs i =
    filter (λ k. is_next_by kinds (slice_index_or xs i no_item) (slice_index_or xs k no_item))
    (range_with_len 0 (length xs))

-- the numbers of the items that hand on to the item of this number: its direct predecessors
abbrev pub predecessors_by : (kinds : ℕ → PassKind) → List Item → ℕ → List ℕ
predecessors_by kinds xs i =
    filter (λ k. is_next_by kinds (slice_index_or xs k no_item) (slice_index_or xs i no_item))
    (range_with_len 0 (length xs))

-- the first item hands on to the second, in a stage with these passes
abbrev pub is_next : List Pass → Item → Item → Bool
is_next passes x y = is_next_by (λ m. (pass_in passes m).kind) x y

-- the numbers of the items that the item of this number hands on to
abbrev pub nexts : List Pass → List Item → ℕ → List ℕ
nexts passes xs i = nexts_by (λ m. (pass_in passes m).kind) xs i

-- the numbers of those that hand on to it
abbrev pub predecessors : List Pass → List Item → ℕ → List ℕ
predecessors passes xs i = predecessors_by (λ m. (pass_in passes m).kind) xs i
