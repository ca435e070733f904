use Rattle.std.proofs.Common.{◌<◌, ap, ap₂, get_or, length, map, subst, sym, ◌∙◌, List, ℕ}
use Rattle.std.specs.List.{All}
use Rattle.ftl_model.specs.layout.Tree.{Forest}
use Rattle.ftl_deps.specs.reads.Meant.{meant}
use Rattle.ftl_tree.specs.declared.rows.row.NodeRow.{NodeRow}
use Rattle.ftl_tree.specs.rows.KidRuns.{HasRuns, HasSlots}
use Rattle.ftl_tree.specs.rows.Rows.{AreTreeRows, attribute_width, input_width, starts_by}
use Rattle.ftl_tree.proofs.rows.Shapes.{kept_back}
use Rattle.ftl_tree.proofs.trees.Made.{are_rows, kids_within, made}
use Rattle.ftl_tree.proofs.trees.tree.Tree.from_nodes.Goals as goal

pub firsts_of_kids-requires : goal.firsts_of_kids-requires
firsts_of_kids-requires c =
    let g = meant c.args.checked.now in
    let t = c.requires.nodes.0 in
    let n = c.requires.nodes.1 in
    let kids = c.in_ok-starts.field-0.kids.items in
    let known = subst (λ (rows : List NodeRow). All (λ (kid : ℕ). kid < length rows) kids) c.deref-8.ensures.value
    c.in_ok-starts.ensures.known in
    let starts = c.in_ok-first_instances.ensures.starts
    ∙ ap (starts_by (attribute_width g)) c.deref-2.ensures.value in
    record {
      known =
          subst (λ (fs : List ℕ). All (λ (kid : ℕ). kid < length fs) c.deref-10.result.now)
          (sym c.deref-11.ensures.value)
          (subst (All (λ (kid : ℕ). kid < length c.in_ok-first_instances.first_instances.items))
          (sym c.deref-10.ensures.value)
          (kids_within g t c.args.rows.items c.in_ok-first_instances.first_instances.items kids n.0 starts known));
    }

pub invariant_of-result : goal.invariant_of-result
invariant_of-result c =
    let g = meant c.args.checked.now in
    let t = c.requires.nodes.0 in
    let n = c.requires.nodes.1 in
    let slots = c.in_ok-slots.ensures.slots ∙ ap (starts_by g.child_count) c.deref-6.ensures.value in
    let has : HasSlots g t c.args.rows.items c.in_ok-slots.slots.items = record { tree_rows = n.0; slots_are = slots } in
    let seen = subst (λ (xs : List ℕ). HasSlots g t c.deref-8.result.now xs) (sym c.deref-9.ensures.value)
    (subst (λ (rows : List NodeRow). HasSlots g t rows c.in_ok-slots.slots.items) (sym c.deref-8.ensures.value) has) in
    made _ t n
    (c.in_ok-sizes.ensures.sizes g t (subst (AreTreeRows g t) (sym c.deref-7.ensures.value) n.0))
    c.in_ok-classes.ensures.rows c.in_ok-input_counts.ensures.counts
    (c.in_ok-first_instances.ensures.starts ∙ ap (starts_by (attribute_width g)) c.deref-2.ensures.value)
    (c.in_ok-first_inputs.ensures.starts ∙ ap (starts_by (input_width g)) c.deref-5.ensures.value)
    slots
    (subst (λ (xs : List ℕ). HasRuns g t xs c.in_ok-starts.field-0.starts.items c.in_ok-starts.field-0.kids.items) c.deref-9.ensures.value
    (c.in_ok-starts.ensures.runs g t seen))
    (c.in_ok-kid_first_instances.ensures.firsts
    ∙ ap₂ (λ (fs ks : List ℕ). map (λ (kid : ℕ). get_or fs kid 0) ks) c.deref-11.ensures.value c.deref-10.ensures.value)
    c.in_ok-attribute_places.ensures.places

pub returns : goal.returns
returns c = record {
  tree = λ t n.
      let g = meant c.args.checked.now in
      ap (λ (f : Forest). record { checked = c.args.checked.now; tree = f })
      (kept_back g t c.args.rows.items c.in_ok-sizes.sizes.items c.args.inputs.items
      (are_rows g t c.args.rows.items c.in_ok-sizes.sizes.items c.args.inputs.items n
      (c.in_ok-sizes.ensures.sizes g t (subst (AreTreeRows g t) (sym c.deref-7.ensures.value) n.0))));
}
