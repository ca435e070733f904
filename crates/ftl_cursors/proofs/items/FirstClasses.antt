-- The sets of the blocks of the first so many items, item by item.
use Rattle.std.proofs.Common.{◌≡◌, ℕ, ◌+◌, ◌*◌, ◌/◌, ◌<◌, ◌≤◌, List, get_or, length, map, below_more, sym, ◌∙◌, ap, subst, arith}
use Rattle.std.proofs.lemmas.List.{length-map}
use Rattle.ftl_deps.specs.reads.Meant.{meant}
use Rattle.ftl_items.specs.stage_items.Cut.{nodes_by}
use Rattle.ftl_items.specs.stage_items.Items.{Item, item}
use Rattle.ftl_items.proofs.numbers.Places.{pass_stands, start_next}
use Rattle.ftl_model.specs.layout.Path.{class_at, top}
use Rattle.ftl_model.specs.layout.Tree.{size}
use Rattle.ftl_model.specs.layout.TreeOf.{IsTreeOf}
use Rattle.ftl_order.proofs.orders.Kids.{root_there}
use Rattle.ftl_schedule.specs.declared.syntax.kind.PassKind.{PassKind}
use Rattle.ftl_schedule.specs.stages.Stages.{kind_of, pass_of}
use Rattle.ftl_cursors.specs.classes.ClassSets.{HasClassesOf}
use Rattle.ftl_cursors.specs.items.HostRows.{AreCutAs}
use Rattle.ftl_cursors.specs.items.ItemClasses.{AreFirstClasses, AreItemClasses, IsAdded, nodes_in_item, set_of}
use Rattle.ftl_cursors.specs.items.RowsCut.{is_whole_in}
use Rattle.ftl_cursors.specs.items.StageItems.{cuts_in, item_in, items_in, passes_in, start_in, tops_in, tops_of, tree_in, tree_of}
use Rattle.ftl_cursors.specs.declared.items.columns.ItemRows.{ItemRows}
use Rattle.ftl_cursors.specs.declared.items.view.StageItems.{StageItems}
use Rattle.ftl_cursors.proofs.items.ItemNodes.{classes_by_rows}
use Rattle.ftl_cursors.proofs.items.RowsByHost.{tops_are}
use Rattle.ftl_cursors.proofs.items.Starts.{few_items, start_is}

-- one more item was added
pub first_more : (s : StageItems) (n classes : ℕ) (old new : List ℕ) → AreFirstClasses s n old → IsAdded n classes old new
    → HasClassesOf classes (tree_of s) (nodes_in_item s (item_in s n)) → AreFirstClasses s (n + 1) new
first_more s n classes old new first is has =
    record {
      blocks = is.blocks;
      classes =
          below_more
          (λ i. HasClassesOf (set_of new i) (tree_of s) (nodes_in_item s (item_in s i))) n
          (λ i low p among. is.stay i (class_at (tree_of s) p) (first.classes i low p among))
          (λ p among. is.added (class_at (tree_of s) p) (has p among));
    }

-- all were
pub all_classes : (s : StageItems) (n : ℕ) (sets : List ℕ) → AreFirstClasses s n sets → n ≡ length (items_in s)
    → AreItemClasses s sets
all_classes s n sets first all =
    record {
      blocks = (let blocks = first.blocks in omega (arith, blocks, all));
      classes = λ i low other. first.classes i (omega (arith, low, all));
    }

-- none was yet
pub no_classes : (s : StageItems) (n : ℕ) (sets : List ℕ) → n ≡ 0 → length sets ≡ 0 → AreFirstClasses s n sets
no_classes s n sets none empty =
    record {
      blocks = omega (arith, none, empty);
      classes = λ i low. absurd (let z : ⊥ = omega (arith, low, none) in z);
    }

-- a pass of a stage
module _ (s : StageItems) (fits : IsTreeOf (meant s.rows.now.tree.now.checked) (tree_of s)) (m : ℕ)
    (known : m < length s.passes.now) where
  pass_within : m < length (passes_in s)
  pass_within = let long = length-map s.passes.now pass_of in omega (arith, long, known)

  -- how many items come before it
  pub begins_with : get_or s.starts.now m 0 ≡ start_in s m
  begins_with =
      start_is (length (passes_in s)) (cuts_in s) (tree_of s) s.starts.now s.fit m
      (let within = pass_within in omega (arith, within))

  pub few_before : size (tree_of s) ≤ 1048576 → start_in s m ≤ 2147483648
  few_before small =
      few_items (meant s.rows.now.tree.now.checked) (tree_of s) fits small (cuts_in s) m
      (let within = pass_within in let few = s.fit.few in omega (arith, within, few))

  -- the next pass
  pub begins_next : (j : ℕ) → j ≡ length (tops_in s m) → start_in s m + j ≡ start_in s (m + 1)
  begins_next j all = let next = start_next (cuts_in s) (tree_of s) m in omega (arith, next, all)

  module _ (rows : ItemRows) (cut : AreCutAs s.rows.now (cuts_in s m) rows) (kind : PassKind)
      (same : (cuts_in s m).kind ≡ kind_of kind) where
    -- how many items it has
    pub count_of_tops : length (tops_of rows kind) ≡ length (tops_in s m)
    count_of_tops = ap length (tops_are s.rows.now (cuts_in s m) rows cut kind same)

    -- the classes of an item, which were told by the rows of the pass
    pub classes_of_item : (j : ℕ) → j < length (tops_of rows kind) → (set : ℕ)
        → HasClassesOf set (tree_in rows) (nodes_by (is_whole_in rows) (tree_in rows) (get_or (tops_of rows kind) j top))
        → HasClassesOf set (tree_of s) (nodes_in_item s (item_in s (start_in s m + j)))
    classes_of_item j low set has =
        let stands =
        pass_stands (length (passes_in s)) (cuts_in s) (tree_of s)
        (root_there (meant s.rows.now.tree.now.checked) (tree_of s) fits) m j pass_within
        (let count = count_of_tops in omega (arith, count, low)) in
        subst (λ (x : Item). HasClassesOf set (tree_of s) (nodes_in_item s x)) (sym stands)
        (classes_by_rows s.rows.now (cuts_in s m) rows cut kind same j set has)
