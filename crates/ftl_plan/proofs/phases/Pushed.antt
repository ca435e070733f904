-- The phases of a pass stand behind those of the passes before it, in the order of its items.
use Rattle.std.proofs.Common.{◌≡◌, ℕ, ◌+◌, ◌<◌, ◌≤◌, Bool, sym, ◌∙◌, ap, arith, List, [], ◌∷◌, ◌++◌, flat_map, get_or, length, take}
use Rattle.std.specs.List.{range_with_len}
use Rattle.std.proofs.lemmas.Grind.{flat_map-append}
use Rattle.std.proofs.lemmas.List.{append-nil, get_or-map, length-map, take_all, take_more}
use Rattle.ftl_items.proofs.numbers.RisingLists.{range-append}
use Rattle.ftl_items.specs.stage_items.Cut.{PassCut, tops_by}
use Rattle.ftl_model.specs.layout.AttributeGrammar.{AttributeGrammar}
use Rattle.ftl_model.specs.layout.Path.{Path, node_at, number_of, top}
use Rattle.ftl_model.specs.layout.Tree.{Forest, size}
use Rattle.ftl_model.specs.layout.TreeOf.{IsTreeOf}
use Rattle.ftl_model.proofs.layout.Standing.{node_at-number_of, number_of-lt}
use Rattle.ftl_order.proofs.orders.Kids.{root_there}
use Rattle.ftl_cursors.proofs.items.Starts.{top_there}
use Rattle.ftl_tree.proofs.rows.Access.{size-one}
use Rattle.std.proofs.lemmas.List.Elements.{Contains-get_or}
use Rattle.ftl_order.specs.orders.Schedule.{PassKind}
use Rattle.ftl_cells.specs.declared.work_phases.phase.Phase.{Phase}
use Rattle.ftl_cells.specs.declared.work_phases.phase.Phase.TheVariants.{Last}
use Rattle.ftl_plan.specs.phases.StagePhases.{item_phase, phases_of_pass, phases_to}

pub phases_more : (g : AttributeGrammar) (cuts : ℕ → PassCut) (t : Forest) (cells n : ℕ)
    → phases_to g cuts t cells (n + 1)
    ≡ phases_to g cuts t cells n ++ phases_of_pass g (cuts n).is_whole t cells (cuts n).kind
phases_more g cuts t cells n =
    let f : ℕ → List Phase = λ m. phases_of_pass g (cuts m).is_whole t cells (cuts m).kind in
    ap (flat_map f) (range-append 0 n 1)
    ∙ flat_map-append f (range_with_len 0 n) ((0 + n) ∷ [])
    ∙ ap (λ ys. phases_to g cuts t cells n ++ ys)
    (append-nil (f (0 + n)) ∙ (let e : 0 + n ≡ n = omega arith in ap f e))

module _ (g : AttributeGrammar) (is_whole : Path → Bool) (t : Forest) (cells : ℕ) where
  -- the phases of the first so many items of a pass
  abbrev pub pushed : PassKind → ℕ → List Phase
  pushed kind n = take n (phases_of_pass g is_whole t cells kind)

  pub pushed_more : (kind : PassKind) (n : ℕ) (phase : Phase) → n < length (tops_by kind is_whole t)
      → phase ≡ item_phase g is_whole t cells kind (get_or (tops_by kind is_whole t) n top)
      → pushed kind (n + 1) ≡ pushed kind n ++ phase ∷ []
  pushed_more kind n phase known is =
      let all = phases_of_pass g is_whole t cells kind in
      let long = length-map (tops_by kind is_whole t) (item_phase g is_whole t cells kind) in
      take_more all n Last (omega (arith, long, known))
      ∙ ap (λ x. pushed kind n ++ x ∷ [])
      (get_or-map (item_phase g is_whole t cells kind) (tops_by kind is_whole t) n top Last known ∙ sym is)

  pub pushed_all : (kind : PassKind) (n : ℕ) → length (tops_by kind is_whole t) ≤ n
      → pushed kind n ≡ phases_of_pass g is_whole t cells kind
  pushed_all kind n past =
      let long = length-map (tops_by kind is_whole t) (item_phase g is_whole t cells kind) in
      take_all n (phases_of_pass g is_whole t cells kind) (omega (arith, long, past))

-- the node at which an item of a pass begins
pub record BeginsAt (t : Forest) (p : Path) (n : ℕ) : Type 0 where
  pub known : n < size t
  pub node_is : node_at t n ≡ p

pub begins_at : (g : AttributeGrammar) (t : Forest) → IsTreeOf g t → (is_whole : Path → Bool) (kind : PassKind) (i n : ℕ)
    → i < length (tops_by kind is_whole t) → n ≡ number_of t (get_or (tops_by kind is_whole t) i top)
    → BeginsAt t (get_or (tops_by kind is_whole t) i top) n
begins_at g t fits is_whole kind i n below is =
    let p = get_or (tops_by kind is_whole t) i top in
    let there = top_there kind is_whole t p (root_there g t fits) (Contains-get_or (tops_by kind is_whole t) i top below) in
    let less = number_of-lt t p there in
    let one = size-one g t fits in
    record {
      known = omega (arith, is, less, one);
      node_is = ap (node_at t) is ∙ node_at-number_of t p there;
    }
