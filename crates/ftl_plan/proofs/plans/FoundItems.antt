-- The items of a stage, as they are found by number.
use Rattle.std.proofs.Common.{◌≡◌, ◌≢◌, ℕ, ◌<◌, ◌≤◌, sym, refl, ◌∙◌, ap, arith, get_or, length}
use Rattle.std.proofs.lemmas.List.{length-map}
use Rattle.std.proofs.lemmas.List.Elements.{Contains-get_or}
use Rattle.ftl_deps.specs.reads.Meant.{meant}
use Rattle.ftl_model.specs.layout.AttributeGrammar.{AttributeGrammar}
use Rattle.ftl_model.specs.layout.Path.{Has, Path, number_of}
use Rattle.ftl_model.specs.layout.Tree.{Forest, size}
use Rattle.ftl_model.specs.layout.TreeOf.{IsTreeOf}
use Rattle.ftl_model.proofs.layout.Standing.{node_at-number_of, number_of-lt}
use Rattle.ftl_order.specs.orders.Schedule.{inorder}
use Rattle.ftl_order.proofs.orders.Kids.{root_there}
use Rattle.ftl_items.specs.stage_items.Items.{Item, no_item}
use Rattle.ftl_items.proofs.stage_items.CutItems.{ItemHere, in_tops_by, item_here}
use Rattle.ftl_schedule.specs.stages.Stages.{pass_of}
use Rattle.ftl_schedule.specs.declared.stages.types.Pass.{Pass}
use Rattle.ftl_tree.proofs.rows.Access.{size-one}
use Rattle.ftl_cursors.specs.items.StageItems.{IsFound, cuts_in, item_in, items_in, pass_numbered, passes_in, start_in, tree_of}
use Rattle.ftl_cursors.specs.declared.items.view.FoundItem.{FoundItem}
use Rattle.ftl_cursors.specs.declared.items.view.StageItems.{StageItems}
use Rattle.ftl_cursors.proofs.item_cursor.PassesAt.{no_pass}
use Rattle.ftl_cursors.proofs.items.Starts.{pass_kind}

module _ (s : StageItems) (i : ℕ) (below : i < length (items_in s)) where
  abbrev g : AttributeGrammar
  g = meant s.rows.now.tree.now.checked

  abbrev t : Forest
  t = tree_of s

  abbrev this : Item
  this = item_in s i

  here : ItemHere (length (passes_in s)) (cuts_in s) t this
  here =
      item_here (length (passes_in s)) (cuts_in s) t this (Contains-get_or (items_in s) i no_item below)

  -- its pass is one of the stage
  pub pass_known : this.pass < length s.passes.now
  pass_known =
      let known = here.known in
      let long = length-map s.passes.now pass_of in
      omega (arith, known, long)

  module _ (fits : IsTreeOf g t) (visits : (pass_numbered s this.pass).kind ≢ inorder) where
    there : Has t this.first
    there =
        (in_tops_by (cuts_in s this.pass).is_whole t (cuts_in s this.pass).kind visits (root_there g t fits) this.first
        here.there).0

    -- the item of this number
    abbrev pub found : FoundItem
    found =
        record {
          pass = this.pass;
          kind = (get_or s.passes.now this.pass no_pass).kind;
          start = start_in s this.pass;
          node = number_of t this.first;
        }

    -- is found so
    pub is_found : length (items_in s) ≤ 2147483648 → IsFound s i found
    is_found few = record {
      is_tree = fits;
      few = few;
      pass_known = pass_known;
      pass_is = refl;
      kind_is = sym (pass_kind s.passes.now this.pass no_pass pass_known);
      start_is = refl;
      known =
          let low = number_of-lt t this.first there in
          let one = size-one g t fits in
          omega (arith, low, one);
      node_is = node_at-number_of t this.first there;
    }
